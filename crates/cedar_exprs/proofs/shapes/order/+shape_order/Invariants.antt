use Rattle.std.proofs.Common.{◌≡◌, drop}
use Rattle.cedar_builders.specs.Shapes.{row_cmp, fields_cmp}
use Rattle.cedar_exprs.specs.BareExpr.{bare_exprs, bare_fields}
use Rattle.cedar_exprs.proofs.ShapeWalks.{rows_cmp, pairs_cmp}
use Rattle.cedar_exprs.proofs.shapes.order.+shape_order.Given as goal

-- the answer to what is left is the answer to all
abbrev pub invariant-cmp_members-loop-e : goal.invariant-cmp_members-loop-e
invariant-cmp_members-loop-e g l =
    row_cmp (bare_exprs (drop l.e-index l.es)) (bare_exprs l.rest.rest.now) ≡ rows_cmp (bare_exprs l.es) (bare_exprs l.fs)

abbrev pub invariant-cmp_pairs-loop-key : goal.invariant-cmp_pairs-loop-key
invariant-cmp_pairs-loop-key g l =
    (goal.iterator-cmp_pairs-loop-key g).can_next l.key-iterator
    × (goal.iterator-cmp_pairs-loop-key g).is_finite l.key-iterator
    × (fields_cmp (bare_fields l.key-iterator) (bare_fields l.rest) ≡ pairs_cmp (bare_fields l.ps.entries) (bare_fields l.qs.entries))
