use Rattle.std.proofs.Common.{◌≡◌, ◌*◌, ◌-ℤ◌, pos, ap, ◌∙◌}
use Rattle.cedar_extensions.specs.Calendar.{days_before}
use Rattle.cedar_extensions.proofs.CalendarLemmas.{epoch_is, shifted}
use Rattle.cedar_extensions.proofs.moment.since_epoch.Goals as goal

pub returns-clause-exact : goal.returns-clause-exact
returns-clause-exact c =
    let local = c.local_milliseconds in
    let epoch : days_before 1970 1 1 * 86400000 ≡ 62167219200000 = ap (λ d. d * 86400000) epoch_is in
    shifted local.result (days_before 1970 1 1 * 86400000) local.ensures.bound epoch ∙ ap (λ n. pos n -ℤ pos (days_before 1970 1 1 * 86400000)) local.ensures.exact
