use Rattle.std.proofs.Common.{rules}
use Rattle.cedar_policies.specs.Policies.{bare_policy}
use Rattle.cedar_policies.specs.declared.policy_set.Policy.{Policy}
use Rattle.cedar_policy_parser.proofs.Firsts.{no_memory}
use Rattle.cedar_policy_parser.proofs.parser.numbered.Goals as goal

pub returns-in_err-template-clause-complete : goal.returns-in_err-template-clause-complete
returns-in_err-template-clause-complete c p rest h =
    let e = c.in_err-template.field-0.0 in
    no_memory (λ (q : Policy). bare_policy q.template) p rest c.policy.new.tokens c.from_residual.result e (search rules)
    (c.in_err-template.ensures.complete p rest h)

pub returns-clause-complete : goal.returns-clause-complete
returns-clause-complete c p rest h = c.in_ok-template.ensures.complete p rest h
