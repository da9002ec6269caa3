use Rattle.std.proofs.Common.{◌≡◌, ℕ, List, length, drop, sym, subst, arith}
use Rattle.std.specs.List.{Contains}
use Rattle.std.specs.List.Sorted.{IsNonDecreasing}
use Rattle.std.proofs.lemmas.Bool.{iff_false}
use Rattle.std.proofs.lemmas.List.{take_at}
use Rattle.std.proofs.lemmas.List.Sorted.{IsNonDecreasingBy-from_sort}
use Rattle.cedar_ancestors.proofs.Closing.{AreClosed-push, closed_is_closure, closed_is_acyclic, closed_ascend, all_in_any_order}
use Rattle.cedar_ancestors.proofs.closure.close.Goals as goal

pub is_in-requires : goal.is_in-requires
is_in-requires c = subst IsNonDecreasing (sym c.deref.ensures.value) (IsNonDecreasingBy-from_sort (λ x. x) c.sort_unstable.new.self.items c.sort_unstable.ensures.sorted)

pub returns-then-is_in-clause-refusal : goal.returns-then-is_in-clause-refusal
returns-then-is_in-clause-refusal c =
    let n = c.loop-index.index in
    let all = all_in_any_order c.args.table.now n c.in_ok-row.row.items c.sort_unstable.new.self.items c.sort_unstable.ensures.permutation c.in_ok-row.ensures.all in
    (omega arith, (all n).0 (subst (λ (xs : List ℕ). Contains xs n) c.deref.ensures.value (c.is_in.ensures.0 c.if-is_in.true)))

pub loop-index-preserved : goal.loop-index-preserved
loop-index-preserved c =
    let n = c.loop-index.index in
    let table = c.args.table.now in
    let all = all_in_any_order table n c.in_ok-row.row.items c.sort_unstable.new.self.items c.sort_unstable.ensures.permutation c.in_ok-row.ensures.all in
    let marks = c.above.new.seen in
    let long : length marks ≡ c.loop-index.seen.len = omega (arith, c.above.auto.seen, c.deref_mut.ensures.len, c.loop-index.seen.ok.0) in
    let back = take_at marks (drop (length marks) c.loop-index.seen.items) c.loop-index.seen.len long in
    record {
      marked = rw back c.in_ok-row.ensures.unmarked;
      long = rw back (omega (arith, c.loop-index.seen.ok.0, c.loop-index.invariant.long));
      many = omega (arith, c.in_ok-push.ensures.len, c.push.new.self.ok.0, c.loop-index.rows.ok.0, c.loop-index.invariant.many);
      closed = rw c.in_ok-push.ensures.items (AreClosed-push table c.loop-index.rows.items n _ c.loop-index.invariant.many c.loop-index.invariant.closed record {
        all = all;
        ascending = IsNonDecreasingBy-from_sort (λ x. x) c.sort_unstable.new.self.items c.sort_unstable.ensures.sorted;
        acyclic = λ h. iff_false c.is_in.ensures c.if-is_in.false (subst (λ (xs : List ℕ). Contains xs n) (sym c.deref.ensures.value) ((all n).1 h));
      });
    }

pub returns-clause-closure : goal.returns-clause-closure
returns-clause-closure c = closed_is_closure c.args.table.now c.loop-index.rows.items c.loop-index.index c.loop-index.invariant.many (omega arith) c.loop-index.invariant.closed

pub returns-clause-ascending : goal.returns-clause-ascending
returns-clause-ascending c = closed_ascend c.args.table.now c.loop-index.rows.items c.loop-index.index c.loop-index.invariant.many (omega arith) c.loop-index.invariant.closed

pub returns-clause-acyclic : goal.returns-clause-acyclic
returns-clause-acyclic c = closed_is_acyclic c.args.table.now c.loop-index.rows.items c.loop-index.index c.loop-index.invariant.many (omega arith) c.loop-index.invariant.closed
