use Rattle.std.proofs.Common.{refl, codes}
use Rattle.cedar_names.specs.Names.{unqualified}
use Rattle.semantics_grammar.specs.Grammar.{conjunction, disjunction, member, method, no_access, no_conditional, no_items, no_operator, no_sign, no_test, product, relation, sum, text}
use Rattle.semantics_round_trip.proofs.laws.unknown_may_be_a_method.Goals as goal

pub returns : goal.returns
returns c word t is =
    let call = method (unqualified (codes "unknown")) no_items ((refl, refl), refl) refl no_access in
    no_conditional (disjunction (conjunction (relation
    (sum (product (no_sign (member (text is) call)) no_operator) no_operator)
    no_test) no_operator) no_operator)
