-- What a lawful builder keeps: the two simplifications of the builder of trees.
use Rattle.std.specs.Prelude.{◌≡◌, Bool, ◌&&◌, ◌||◌}
use Rattle.cedar_terms.specs.Literals.{BoolLit}
use Rattle.cedar_builders.specs.Ops.{Ops}

-- `and` and `or` of two Boolean literals mean the literal of the result
pub record Lawful {M F : Type 0} (B : Ops M F) : Type 0 where
  pub and_of_literals : (a b : Bool) → B.and_of (B.lit_of (BoolLit a)) (B.lit_of (BoolLit b)) ≡ B.lit_of (BoolLit (a && b))
  pub or_of_literals : (a b : Bool) → B.or_of (B.lit_of (BoolLit a)) (B.lit_of (BoolLit b)) ≡ B.lit_of (BoolLit (a || b))
