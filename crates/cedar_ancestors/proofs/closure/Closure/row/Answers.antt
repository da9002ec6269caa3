use Rattle.std.proofs.Common.{◌≡◌, ℕ, List, sym, ap, ◌∙◌, subst, arith}
use Rattle.std.specs.Global.{Global}
use Rattle.std.specs.declared.vec.Vec.{Vec}
use Rattle.std.specs.List.Sorted.{IsNonDecreasing}
use Rattle.cedar_ancestors.specs.Tables.{row_at}
use Rattle.cedar_ancestors.proofs.Closing.{row_is, row_past, row_ascends}
use Rattle.cedar_ancestors.proofs.closure.Closure.row.Goals as goal

pub returns-in-Some : goal.returns-in-Some
returns-in-Some c =
    let rows = c.self.inside.rows.items in
    let at : c.deref-in-Some.result.now ≡ row_at rows c.args.index =
    row_is rows c.args.index c.in-Some.row.now c.deref-in-Some.result.now (rw c.deref.ensures.value at c.in-Some.ensures.lookup.3.0) (rw c.deref.ensures.value at c.in-Some.ensures.lookup.1) c.deref-in-Some.ensures.value in
    record {
      row = at ∙ ap (λ (t : List (Vec ℕ Global)). row_at t c.args.index) c.self.view_is;
      ascending = subst (λ (xs : List ℕ). IsNonDecreasing xs) (sym at) (row_ascends rows c.self.invariant c.args.index);
    }

pub returns-in-None : goal.returns-in-None
returns-in-None c = record {
  row = sym (row_past c.self.inside.rows.items c.args.index (rw c.deref.ensures.value at c.in-None.ensures.lookup.3)) ∙ ap (λ (t : List (Vec ℕ Global)). row_at t c.args.index) c.self.view_is;
  ascending = λ i j d le lt. absurd (omega arith);
}
