use Rattle.std.proofs.Common.{arith, ap, sym, ◌∙◌}
use Rattle.cedar_iterative_drop.specs.Branches.{leaf_off, branch_off}
use Rattle.cedar_iterative_drop.specs.Sums.{one_off}
use Rattle.cedar_values.specs.Drops.{branch_of, value_nodes}
use Rattle.cedar_values.proofs.row_items.last_branch.Goals as goal

pub returns-in-Some-into_branch : goal.returns-in-Some-into_branch
returns-in-Some-into_branch g c =
    let less = one_off value_nodes _ _ _ c.in-Some.ensures.items in
    record {
      gives = sym c.leaves.invariant.1 ∙ branch_off branch_of _ _ _ _ c.in-Some.ensures.items (sym c.into_branch.ensures.branch ∙ c.in-Some-into_branch.is);
      taken = omega (arith, less, c.in-Some-into_branch.ensures.nodes, c.leaves.invariant.0);
      fewer = omega (arith, less, c.leaves.invariant.0);
    }

pub leaves-preserved : goal.leaves-preserved
leaves-preserved g c =
    let less = one_off value_nodes _ _ _ c.in-Some.ensures.items in
    (omega (arith, less, c.leaves.invariant.0), sym (leaf_off branch_of _ _ _ c.in-Some.ensures.items (sym c.into_branch.ensures.branch ∙ c.in_default-into_branch.is)) ∙ c.leaves.invariant.1)
