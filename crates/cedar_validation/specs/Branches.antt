-- The branches of `if`s inside one another, whose common type is that of the whole.
use Rattle.std.specs.Prelude.{◌≡◌, refl, Bool, true, false, if◌then◌else◌, List, [], ◌∷◌, Option, Some, None}
use Rattle.std.proofs.Common.{sym, ap, ◌∙◌, subst}
use Rattle.cedar_terms.specs.Types.{BareType}
use Rattle.cedar_terms.specs.TypeOrder.{type_eq, type_eq_decides}
use Rattle.cedar_builders.specs.BareExpr.{BareExpr, If}
use Rattle.cedar_validation.specs.Tables.{ReturnTypes}
use Rattle.cedar_validation.specs.TypeOfTree.{common, type_of_tree}

-- the two branches of an `if`
abbrev pub branches_of : BareExpr → Option (BareExpr × BareExpr)
branches_of (If a b c) = Some (b, c)
branches_of e = None

-- what a type and those of some trees have in common
abbrev pub type_of_all : ReturnTypes → Option BareType → List BareExpr → Option BareType
type_of_all return_type_at t [] = t
type_of_all return_type_at t (e ∷ es) = type_of_all return_type_at (common t (type_of_tree return_type_at e)) es

-- ---- what is common to three does not depend on which two come first

same_common : (t : BareType) → common (Some t) (Some t) ≡ Some t
same_common t = ap (λ b. if b then Some t else None) ((type_eq_decides t t).1 refl)

three_if_same : (t u : BareType) (b : Bool) → type_eq t u ≡ b → common (Some t) (Some u) ≡ common (Some t) (if b then Some t else None)
three_if_same t u true is = ap (λ b. if b then Some t else None) is ∙ sym (same_common t)
three_if_same t u false is = ap (λ b. if b then Some t else None) is

none_if_other : (t s u : BareType) (b : Bool) → type_eq t s ≡ false → None ≡ common (Some t) (if b then Some s else None)
none_if_other t s u true is = sym (ap (λ b. if b then Some t else None) is)
none_if_other t s u false is = refl

of_three : (t s u : BareType) (b : Bool) → type_eq t s ≡ b → common (if b then Some t else None) (Some u) ≡ common (Some t) (common (Some s) (Some u))
of_three t s u true is =
    subst (λ (v : BareType). common (Some t) (Some u) ≡ common (Some t) (common (Some v) (Some u))) ((type_eq_decides t s).0 is) (three_if_same t u (type_eq t u) refl)
of_three t s u false is = none_if_other t s u (type_eq s u) is

nothing_last : (t : Option BareType) → common t None ≡ None
nothing_last None = refl
nothing_last (Some t) = refl

pub common_assoc : (t s u : Option BareType) → common (common t s) u ≡ common t (common s u)
common_assoc None s u = refl
common_assoc (Some t) None u = refl
common_assoc (Some t) (Some s) None = nothing_last (common (Some t) (Some s))
common_assoc (Some t) (Some s) (Some u) = of_three t s u (type_eq t s) refl

module _ (return_type_at : ReturnTypes) where
  both_first : (t s : Option BareType) (es : List BareExpr) → type_of_all return_type_at (common t s) es ≡ common t (type_of_all return_type_at s es)
  both_first t s [] = refl
  both_first t s (e ∷ es) =
      ap (λ u. type_of_all return_type_at u es) (common_assoc t s (type_of_tree return_type_at e))
      ∙ both_first t (common s (type_of_tree return_type_at e)) es

  -- a type that comes before a tree's
  pub joined : (t s : Option BareType) (e : BareExpr) (es new : List BareExpr) → type_of_all return_type_at s new ≡ type_of_all return_type_at (type_of_tree return_type_at e) es
      → type_of_all return_type_at (common t s) new ≡ type_of_all return_type_at t (e ∷ es)
  joined t s e es new same = both_first t s new ∙ ap (common t) same ∙ sym (both_first t (type_of_tree return_type_at e) es)
