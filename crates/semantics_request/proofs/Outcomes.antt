-- Trees that ask for nothing are not refused.
use Rattle.std.proofs.Common.{List, ◌≡◌, refl, ap, ◌∙◌, Bool, true, false, Option, Result, Ok, Err}
use Rattle.std.proofs.lemmas.Bool.{false≢true}
use Rattle.cedar_names.specs.Names.{BareName}
use Rattle.cedar_terms.specs.Types.{BareType}
use Rattle.cedar_builders.specs.BareExpr.{Text, BareExpr}
use Rattle.cedar_builders.specs.Fold.{fold_with}
use Rattle.cedar_builders.specs.Ops.{Ops}
use Rattle.semantics_values.specs.BareValue.{BareCall, BareValue}
use Rattle.semantics_values.specs.ValueExpr.{value_expr, has_extension}
use Rattle.semantics_simplify.specs.Asks.{Ask, OfCall, asks_only, is_no_call, holds_no_call}
use Rattle.semantics_simplify.specs.Laws.{AsksByChildren, ValuesAskNothing}
use Rattle.semantics_request.proofs.Related.{Never, Related, both_ok, refused, KeepOps, related}

-- the laws of the simplifier that are needed here
pub record AskLaws (X : Type 0) : Type 0 where
  pub by_children : AsksByChildren
  pub ask_nothing : ValuesAskNothing X

abbrev pub Any : {M : Type 0} → M → M → Type 0
Any m n = Unit {0}

any_keeps : (Q : Ask → Bool) → {M : Type 0} (B : Ops M BareName)
    → ((n : BareName) → Q (OfCall n) ≡ true → (ms ns : List M) → Related Never Any (B.call_of n ms) (B.call_of n ns))
    → KeepOps Never Q Any B B
any_keeps Q B of_call = record {
  lit = λ l. tt;
  var = λ v h. tt;
  slot = λ s h. tt;
  if_then = λ a b c d e f g h i. tt;
  and = λ a b c d g h. tt;
  or = λ a b c d g h. tt;
  unary = λ o a b h. tt;
  binary = λ o a b c d g h. tt;
  call = λ n h ms ns l. of_call n h ms ns;
  get = λ j a b h. tt;
  has = λ j js a b h. tt;
  like = λ p a b h. tt;
  set = λ ms ns h. tt;
  rec = λ ps qs h. tt;
  is = λ n a b h. tt;
}

meant : {M : Type 0} {r s : Result M BareName} → Related Never Any r s → (m : M) × (r ≡ Ok m)
meant (both_ok {m = m} h) = (m, refl)
meant (refused h) = absurd h

-- the answer is no error
abbrev pub IsAnswer : {A F : Type 0} → Result A F → Type 0
IsAnswer (Ok a) = Unit {0}
IsAnswer (Err e) = ⊥

is_answer : {M : Type 0} {r s : Result M BareName} → Related Never Any r s → IsAnswer r
is_answer (both_ok h) = tt
is_answer (refused h) = h

as_related : {M : Type 0} (r : Result M BareName) → IsAnswer r → Related Never Any r r
as_related (Ok m) h = both_ok tt
as_related (Err x) h = absurd h

-- a tree whose calls are answered is not refused, where no unknown is
pub answered_where : AsksByChildren → (Q : Ask → Bool) → {M : Type 0} (B : Ops M BareName)
    → ((n : BareName) → Q (OfCall n) ≡ true → (ms ns : List M)
    → Related Never Any (B.call_of n ms) (B.call_of n ns))
    → (f : Text → Option BareType → Result M BareName)
    → ((n : Text) (t : Option BareType) → IsAnswer (f n t))
    → (e : BareExpr) → asks_only Q e ≡ true → IsAnswer (fold_with B f e)
answered_where by_children Q B of_call f sure e h =
    is_answer
    (related by_children Never Q Any B B (any_keeps Q B of_call) f f
    (λ n t i. as_related (f n t) (sure n t)) e h)

-- a tree that holds no call is not refused, where no unknown is
pub answered : AsksByChildren → {M : Type 0} (B : Ops M BareName)
    (f : Text → Option BareType → Result M BareName)
    → ((n : Text) (t : Option BareType) → IsAnswer (f n t))
    → (e : BareExpr) → holds_no_call e ≡ true → IsAnswer (fold_with B f e)
answered by_children B f sure e h =
    answered_where by_children is_no_call B (λ n h. absurd (false≢true h)) f sure e h

-- the expression of a value without extension values
abbrev pub IsPlainTree : {X : Type 0} → (X → BareCall) → BareExpr → Type 0
IsPlainTree {X} C e = (t : BareValue X) × (has_extension t ≡ false) × (e ≡ value_expr C t)

module _ {X : Type 0} (laws : AskLaws X) (C : X → BareCall) (e : BareExpr) (plain : IsPlainTree C e) where
  -- asks for nothing
  pub asks_nothing : asks_only (λ a. false) e ≡ true
  asks_nothing =
      ap (asks_only (λ a. false)) plain.2 ∙ laws.ask_nothing C (λ a. false) plain.0 plain.1

  -- so it means something
  pub has_meaning : {M : Type 0} (B : Ops M BareName) (f : Text → Option BareType → Result M BareName)
      → (m : M) × (fold_with B f e ≡ Ok m)
  has_meaning B f =
      meant
      (related laws.by_children Never (λ a. false) Any B B
      (any_keeps (λ a. false) B (λ n h. absurd (false≢true h))) f f
      (λ n t h. absurd (false≢true h)) e asks_nothing)
