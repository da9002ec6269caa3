use Rattle.std.proofs.Common.{arith, ap, sym, ◌∙◌}
use Rattle.cedar_iterative_drop.specs.Branches.{leaf_off, branch_off}
use Rattle.cedar_iterative_drop.specs.Sums.{one_off}
use Rattle.cedar_exprs.specs.Steps.{branch_of, nodes}
use Rattle.cedar_exprs.proofs.drop.row_items.last_branch.Goals as goal

pub returns-in-Some-into_subtrees : goal.returns-in-Some-into_subtrees
returns-in-Some-into_subtrees g c =
    let less = one_off nodes _ _ _ c.in-Some.ensures.items in
    record {
      gives = sym c.leaves.invariant.1 ∙ branch_off branch_of _ _ _ _ c.in-Some.ensures.items (sym c.into_subtrees.ensures.branch ∙ c.in-Some-into_subtrees.is);
      taken = omega (arith, less, c.in-Some-into_subtrees.ensures.nodes, c.leaves.invariant.0);
      fewer = omega (arith, less, c.leaves.invariant.0);
    }

pub leaves-preserved : goal.leaves-preserved
leaves-preserved g c =
    let less = one_off nodes _ _ _ c.in-Some.ensures.items in
    (omega (arith, less, c.leaves.invariant.0), sym (leaf_off branch_of _ _ _ c.in-Some.ensures.items (sym c.into_subtrees.ensures.branch ∙ c.in_default-into_subtrees.is)) ∙ c.leaves.invariant.1)
