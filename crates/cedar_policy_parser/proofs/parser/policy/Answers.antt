use Rattle.std.proofs.Common.{map, rules}
use Rattle.std.proofs.lemmas.Bool.{false≢true}
use Rattle.cedar_policies.specs.Policies.{bare_action, bare_annotation, bare_clause, bare_effect, bare_policy, bare_scope}
use Rattle.cedar_policy_parser.proofs.CompletePolicies.{annotations_there, behind_annotations, behind_clauses, behind_effect, clauses_there, policy_same, scope_there}
use Rattle.cedar_policy_parser.proofs.Firsts.{begins_of, no_memory, taken_rest}
use Rattle.cedar_policy_parser.proofs.parser.policy.Goals as goal

pub returns-in_err-annotations-clause-complete : goal.returns-in_err-annotations-clause-complete
returns-in_err-annotations-clause-complete c p rest h =
    no_memory bare_policy p rest c.annotations.new.tokens c.from_residual.result c.in_err-annotations.field-0.0 (search rules)
    (c.in_err-annotations.ensures.complete p.annotations (behind_annotations h) (annotations_there h))

pub returns-in_err-effect-clause-complete : goal.returns-in_err-effect-clause-complete
returns-in_err-effect-clause-complete c p rest h =
    let g1 = c.in_ok-annotations.ensures.complete p.annotations (behind_annotations h) (annotations_there h) in
    absurd (c.in_err-effect.ensures.complete p.effect (behind_effect h) g1.1)

pub returns-in_err-wanted-clause-complete : goal.returns-in_err-wanted-clause-complete
returns-in_err-wanted-clause-complete c p rest h =
    let g1 = c.in_ok-annotations.ensures.complete p.annotations (behind_annotations h) (annotations_there h) in
    absurd (false≢true (c.in_err-wanted.ensures.present (begins_of (taken_rest c.in_ok-effect.ensures.taken.first g1.1))))

pub returns-in_err-scope-clause-complete : goal.returns-in_err-scope-clause-complete
returns-in_err-scope-clause-complete c p rest h =
    let g1 = c.in_ok-annotations.ensures.complete p.annotations (behind_annotations h) (annotations_there h) in
    let whole = scope_there h g1.1 c.in_ok-effect.ensures.taken.first c.in_ok-wanted.ensures.taken.first in
    no_memory bare_policy p rest c.parse_scope.new.tokens c.from_residual-in_err-scope.result c.in_err-scope.field-0.0 (search rules)
    (c.in_err-scope.ensures.complete p.principal p.action p.resource h.before_clauses whole)

pub returns-in_err-clauses-clause-complete : goal.returns-in_err-clauses-clause-complete
returns-in_err-clauses-clause-complete c p rest h =
    let g1 = c.in_ok-annotations.ensures.complete p.annotations (behind_annotations h) (annotations_there h) in
    let whole = scope_there h g1.1 c.in_ok-effect.ensures.taken.first c.in_ok-wanted.ensures.taken.first in
    let g4 = c.in_ok-scope.ensures.complete p.principal p.action p.resource h.before_clauses whole in
    no_memory bare_policy p rest c.clauses.new.tokens c.from_residual-in_err-clauses.result c.in_err-clauses.field-0.0 (search rules)
    (c.in_err-clauses.ensures.complete p.clauses (behind_clauses h) (clauses_there h g4.1))

pub returns-in_err-wanted-2-clause-complete : goal.returns-in_err-wanted-2-clause-complete
returns-in_err-wanted-2-clause-complete c p rest h =
    let g1 = c.in_ok-annotations.ensures.complete p.annotations (behind_annotations h) (annotations_there h) in
    let whole = scope_there h g1.1 c.in_ok-effect.ensures.taken.first c.in_ok-wanted.ensures.taken.first in
    let g4 = c.in_ok-scope.ensures.complete p.principal p.action p.resource h.before_clauses whole in
    let g5 = c.in_ok-clauses.ensures.complete p.clauses (behind_clauses h) (clauses_there h g4.1) in
    absurd (false≢true (c.in_err-wanted-2.ensures.present (begins_of g5.1)))

pub returns-clause-complete : goal.returns-clause-complete
returns-clause-complete c p rest h =
    let g1 = c.in_ok-annotations.ensures.complete p.annotations (behind_annotations h) (annotations_there h) in
    let whole = scope_there h g1.1 c.in_ok-effect.ensures.taken.first c.in_ok-wanted.ensures.taken.first in
    let g4 = c.in_ok-scope.ensures.complete p.principal p.action p.resource h.before_clauses whole in
    let g5 = c.in_ok-clauses.ensures.complete p.clauses (behind_clauses h) (clauses_there h g4.1) in
    let g2 = c.in_ok-effect.ensures.complete p.effect (behind_effect h) g1.1 in
    let s = g4.0 in (
      policy_same (map bare_annotation c.in_ok-annotations.annotations.items) (bare_effect c.in_ok-effect.effect) (bare_scope c.in_ok-scope.scope.principal)
          (bare_action c.in_ok-scope.scope.action) (bare_scope c.in_ok-scope.scope.resource) (map bare_clause c.in_ok-clauses.clauses.items) p g1.0 g2
          s.principal s.action s.resource g5.0,
      taken_rest c.in_ok-wanted-2.ensures.taken.first g5.1,
    )
