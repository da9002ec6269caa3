-- What a builder of expressions is (`ExprBuilder` of Cedar's `expr_builder.rs`): a type of meanings, and one operation for
-- each kind of expression.
use Rattle.std.specs.Prelude.{⊤, List, Option, Result, Ok}
use Rattle.cedar_names.specs.Names.{BareName}
use Rattle.cedar_names.specs.declared.slot.SlotId.{SlotId}
use Rattle.cedar_terms.specs.Literals.{BareLiteral}
use Rattle.cedar_terms.specs.declared.ops.UnaryOp.{UnaryOp}
use Rattle.cedar_terms.specs.declared.ops.BinaryOp.{BinaryOp}
use Rattle.cedar_terms.specs.declared.pattern.PatternElem.{PatternElem}
use Rattle.cedar_terms.specs.declared.var.Var.{Var}
use Rattle.cedar_terms.specs.Types.{BareType}
use Rattle.cedar_builders.specs.BareExpr.{Text}

-- meanings in M, errors in F: an operation takes the kind's own fields and the meanings of the children, and a call
-- alone may fail
pub record Ops (M F : Type 0) : Type 0 where
  pub lit_of : BareLiteral → M
  pub var_of : Var → M
  pub slot_of : SlotId → M
  pub unknown_of : Text → Option BareType → M
  pub if_of : M → M → M → M
  pub and_of : M → M → M
  pub or_of : M → M → M
  pub unary_of : UnaryOp → M → M
  pub binary_of : BinaryOp → M → M → M
  pub call_of : BareName → List M → Result M F
  pub get_of : M → Text → M
  pub has_of : M → Text → List Text → M
  pub like_of : M → List PatternElem → M
  pub set_of : List M → M
  pub record_of : List (Text × M) → M
  pub is_of : M → BareName → M

-- the operations of a builder whose meanings nobody asks about, and which never fails
abbrev pub no_meaning : Ops ⊤ ⊥
no_meaning = record {
  lit_of = λ l. tt;
  var_of = λ v. tt;
  slot_of = λ s. tt;
  unknown_of = λ n t. tt;
  if_of = λ a b c. tt;
  and_of = λ a b. tt;
  or_of = λ a b. tt;
  unary_of = λ o a. tt;
  binary_of = λ o a b. tt;
  call_of = λ n ms. Ok tt;
  get_of = λ a k. tt;
  has_of = λ a k ks. tt;
  like_of = λ a p. tt;
  set_of = λ ms. tt;
  record_of = λ ps. tt;
  is_of = λ a n. tt;
}
