-- The positions of the members of a set, and of the values of a record.
use Rattle.std.specs.Prelude.{List, ◌∷◌}
use Rattle.cedar_builders.specs.BareExpr.{BareExpr, BareExprs, BareFields}
use Rattle.cedar_builders.specs.Walks.{walk_all, walk_fields, forward}

abbrev pub member_positions : BareExprs → List BareExpr
member_positions es = forward (walk_all (λ e below. e ∷ forward below) es)

abbrev pub field_positions : BareFields → List BareExpr
field_positions fs = forward (walk_fields (λ e below. e ∷ forward below) fs)
