use Rattle.std.proofs.Common.{sym, ◌∙◌, refl}
use Rattle.cedar_names.specs.InternalNames.{bare_internal_name}
use Rattle.cedar_names.specs.Resolution.{is_declared}
use Rattle.cedar_names.proofs.LookUps.{find-position, find-no_position}
use Rattle.cedar_names.proofs.raw_name.ConditionalName.resolve.Goals as goal

pub returns-in-None-clause-refused : goal.returns-in-None-clause-refused
returns-in-None-clause-refused c =
    (find-no_position (λ n. is_declared c.args.all_defs.now c.args.self.reference_type (bare_internal_name n)) c.args.self.possibilities.items (sym c.find_declared.ensures ∙ c.in-None.is), refl)

pub returns-in-Some-clause-ok : goal.returns-in-Some-clause-ok
returns-in-Some-clause-ok c =
    find-position (λ n. is_declared c.args.all_defs.now c.args.self.reference_type (bare_internal_name n)) c.args.self.possibilities.items c.in-Some.index c.swap_remove.result (sym c.find_declared.ensures ∙ c.in-Some.is) c.swap_remove.ensures.value
