use Rattle.std.proofs.Common.{◌∙◌, ap}
use Rattle.cedar_parser.proofs.CompleteWhole.{told_memory}
use Rattle.cedar_policies.specs.PolicySets.{bare_policies}
use Rattle.cedar_policy_parser.proofs.parser.parse_policies.Goals as goal

pub returns-in-Ok-clause-complete : goal.returns-in-Ok-clause-complete
returns-in-Ok-clause-complete c ps p d = ap bare_policies c.new.ensures ∙ c.in-Ok.ensures.complete ps p d

pub returns-in-Err-clause-complete : goal.returns-in-Err-clause-complete
returns-in-Err-clause-complete c ps p d =
    told_memory c.in-Err.failure c.args.text.now c.in_text.result c.in_text.ensures (c.in-Err.ensures.complete ps p d)
