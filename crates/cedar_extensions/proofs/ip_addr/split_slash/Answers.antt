use Rattle.std.proofs.Common.{sym, ◌∙◌}
use Rattle.cedar_extensions.proofs.IpTexts.{split_nowhere, split_there}
use Rattle.cedar_extensions.proofs.ip_addr.split_slash.Goals as goal

pub returns-in-Some : goal.returns-in-Some
returns-in-Some c =
    let f = c.split_front in
    split_there c.args.text.now f.result.0.now f.result.1.now c.in-Some.back.now (sym c.as_bytes.ensures.value ∙ f.ensures.spelled) f.ensures.front f.ensures.all c.in-Some.ensures.cases.0

pub returns-in-None : goal.returns-in-None
returns-in-None c =
    let f = c.split_front in
    split_nowhere c.args.text.now f.result.0.now f.result.1.now (sym c.as_bytes.ensures.value ∙ f.ensures.spelled) f.ensures.front c.in-None.ensures.cases
