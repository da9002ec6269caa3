-- The negation of a comparison, which is two nodes (`noteq`, `greater` and `greatereq` of Cedar's `expr_builder.rs`).
use Rattle.std.specs.Prelude.{◌≡◌, Option}
use Rattle.cedar_names.specs.Place.{Place}
use Rattle.cedar_terms.specs.declared.ops.UnaryOp.{UnaryOp}
use Rattle.cedar_terms.specs.declared.ops.UnaryOp.TheVariants.{Not}
use Rattle.cedar_terms.specs.declared.ops.BinaryOp.{BinaryOp}

-- the inner node is made by a new builder to which this one's place was set, and this one negates it
pub record MakesNegated {S E : Type 0} (is_new : S → Type 0) (place_of : S → Option Place) (kept_place : Option Place → Option Place) (makes_unary : S → UnaryOp → E → E → Type 0) (makes_binary : S → BinaryOp → E → E → E → Type 0)
    (builder : S) (op : BinaryOp) (arg1 arg2 e : E) : Type 0 where
  pub fresh : S
  pub is_fresh : is_new fresh
  pub same_place : place_of fresh ≡ kept_place (place_of builder)
  pub inner : E
  pub compared : makes_binary fresh op arg1 arg2 inner
  pub negated : makes_unary builder Not inner e
