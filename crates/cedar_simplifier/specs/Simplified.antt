-- The meaning of what is simplified.
use Rattle.std.specs.Prelude.{Bool, Option, Some, None, is_some, option_map, Ok, Err}
use Rattle.std.specs.Global.{Global}
use Rattle.std.specs.declared.cmp.Ord as Ord
use Rattle.std.specs.declared.cmp.PartialEq as PartialEq
use Rattle.std.specs.declared.cmp.PartialOrd as PartialOrd
use Rattle.std.specs.declared.rc.RcStr.{RcStr}
use Rattle.cedar_terms.specs.Literals.{bare_literal}
use Rattle.cedar_terms.specs.declared.literal.Literal.{Literal}
use Rattle.cedar_builders.specs.BareExpr.{BareExpr}
use Rattle.cedar_exprs.specs.BareExpr.{bare_expr}
use Rattle.semantics_values.specs.BareValue.{BareValue, LitValue}
use Rattle.cedar_values.specs.BareValues.{bare_value}
use Rattle.cedar_values.specs.declared.value.Value.{Value}
use Rattle.semantics_eval.specs.Outcomes.{Outcome}
use Rattle.semantics_simplify.specs.Simplified as meant
use Rattle.cedar_simplifier.specs.declared.kind.Kind.{Kind}
use Rattle.cedar_simplifier.specs.declared.kind.Kind.TheVariants.{Known, Residual}
use Rattle.cedar_simplifier.specs.declared.simplified.Simplified.{Simplified}
use Rattle.cedar_simplifier.specs.declared.tree.Tree.{Tree}

-- the bare tree of a residual
abbrev pub bare_tree : Tree → BareExpr
bare_tree t = bare_expr t.expr

-- what a known value and a residual mean
abbrev pub bare_kind : {X : Type 0} → Kind X → meant.Simplified X
bare_kind (Known v) = meant.Known (bare_value v)
bare_kind (Residual t) = meant.Residual (bare_tree t)

-- the value that is known, if any
abbrev pub known_value : {X : Type 0} → meant.Simplified X → Option (BareValue X)
known_value (meant.Known t) = Some t
known_value (meant.Residual e) = None

-- whether there is one
abbrev pub is_known : {X : Type 0} → meant.Simplified X → Bool
is_known p = is_some (known_value p)

-- the value itself, if it is known
abbrev pub value_in_kind : {X : Type 0} → Kind X → Option (Value X)
value_in_kind (Known v) = Some v
value_in_kind (Residual t) = None

-- o, e and p are the comparisons of extension values, by which a known value is well formed
module _ {X : Type 0} {o : Ord.Ghosts X} {e : PartialEq.Ghosts X} {p : PartialOrd.Ghosts X} where
  -- what is meant: the tree of the known value, or that of the residual
  abbrev pub meaning_of : Simplified X o e p → meant.Simplified X
  meaning_of s = bare_kind s.kind

  -- the value that is held, if it is known
  abbrev pub held_value : Simplified X o e p → Option (Value X)
  held_value s = value_in_kind s.kind

  -- the same, with its key
  abbrev pub held_pair :
      RcStr Global × Simplified X o e p → Option (RcStr Global × Value X)
  held_pair s = option_map (λ v. (s.0, v)) (held_value s.1)

-- the value of an outcome, if it is one
abbrev pub value_in : {X : Type 0} → Outcome X → Option (BareValue X)
value_in (Ok t) = Some t
value_in (Err m) = None

-- a literal as a value, if there is one
abbrev pub literal_value : {X : Type 0} → Option Literal → Option (BareValue X)
literal_value = option_map (λ l. LitValue (bare_literal l))
