use Rattle.std.proofs.Common.{◌≡◌, arith, sym, ap, ◌∙◌}
use Rattle.std.proofs.lemmas.List.{nil_from_length}
use Rattle.cedar_exprs.specs.Walks.{referents}
use Rattle.cedar_values.proofs.HeldExtensions.{IsLookedAt, any_holds, any_taken, literal_looked_at, record_looked_at, set_looked_at}
use Rattle.cedar_values.proofs.WaitingValues.{nodes_taken}
use Rattle.cedar_values.proofs.value.Value.holds_extension.Goals as goal
use Rattle.cedar_values.proofs.value.Value.holds_extension.Goals.{in-Lit, in-Set+in_ok-push_members-in-Set, in-Record+in_ok-push_values-in-Record}

pub walk-smaller : goal.walk-smaller
walk-smaller g c =
    let new = c.match-kind.waiting.items in
    let at : IsLookedAt c.walk.kind.now c.walk.waiting.items new = elim c.match-kind.branch [
      | in-Lit w ↦ literal_looked_at _ _ new w.in-Lit.field-0 w.in-Lit.is (ap (λ v. v.items) w.waiting-is)
      | in-Set+in_ok-push_members-in-Set w ↦ set_looked_at _ _ new w.in-Set.set w.in-Set.is (ap (λ v. referents v.items) w.waiting-is ∙ w.in_ok-push_members-in-Set.ensures)
      | in-Record+in_ok-push_values-in-Record w ↦ record_looked_at _ _ new w.in-Record.pairs w.in-Record.is _ (λ i. (w.deref.ensures i).entries) (ap (λ v. referents v.items) w.waiting-is ∙ w.in_ok-push_values-in-Record.ensures)
    ] in
    omega (arith, at.1, nodes_taken new c.pop.new.self.items c.in-Some.next c.in-Some.ensures.items)

pub walk-preserved : goal.walk-preserved
walk-preserved g c =
    let new = c.match-kind.waiting.items in
    let at : IsLookedAt c.walk.kind.now c.walk.waiting.items new = elim c.match-kind.branch [
      | in-Lit w ↦ literal_looked_at _ _ new w.in-Lit.field-0 w.in-Lit.is (ap (λ v. v.items) w.waiting-is)
      | in-Set+in_ok-push_members-in-Set w ↦ set_looked_at _ _ new w.in-Set.set w.in-Set.is (ap (λ v. referents v.items) w.waiting-is ∙ w.in_ok-push_members-in-Set.ensures)
      | in-Record+in_ok-push_values-in-Record w ↦ record_looked_at _ _ new w.in-Record.pairs w.in-Record.is _ (λ i. (w.deref.ensures i).entries) (ap (λ v. referents v.items) w.waiting-is ∙ w.in_ok-push_values-in-Record.ensures)
    ] in
    sym (any_taken new c.pop.new.self.items c.in-Some.next c.in-Some.ensures.items) ∙ at.0 ∙ c.walk.invariant

pub returns-in-None : goal.returns-in-None
returns-in-None g c =
    let new = c.match-kind.waiting.items in
    let at : IsLookedAt c.walk.kind.now c.walk.waiting.items new = elim c.match-kind.branch [
      | in-Lit w ↦ literal_looked_at _ _ new w.in-Lit.field-0 w.in-Lit.is (ap (λ v. v.items) w.waiting-is)
      | in-Set+in_ok-push_members-in-Set w ↦ set_looked_at _ _ new w.in-Set.set w.in-Set.is (ap (λ v. referents v.items) w.waiting-is ∙ w.in_ok-push_members-in-Set.ensures)
      | in-Record+in_ok-push_values-in-Record w ↦ record_looked_at _ _ new w.in-Record.pairs w.in-Record.is _ (λ i. (w.deref.ensures i).entries) (ap (λ v. referents v.items) w.waiting-is ∙ w.in_ok-push_values-in-Record.ensures)
    ] in
    let none = nil_from_length new (omega (arith, c.in-None.ensures.cases.0, c.match-kind.waiting.ok.0)) in
    sym (ap any_holds none) ∙ at.0 ∙ c.walk.invariant
