-- What the members of an entity stand for, and their names.
use Rattle.std.proofs.Common.{◌≡◌, true, false, List, [], ◌∷◌, Option, None, Some, Err, Ok, Result, ap, refl, subst, sym, ◌∙◌}
use Rattle.std.specs.Prelude.{◌&&◌, String, option_map, string_bytes, unwrap_or}
use Rattle.std.specs.Borrow.{Bor}
use Rattle.std.specs.Global.{Global}
use Rattle.std.proofs.lemmas.Bool.{false≢true}
use Rattle.std.proofs.lemmas.Option.{same_Some}
use Rattle.serde_json.specs.Data.{Data, Members, object}
use Rattle.serde_json.specs.Find.{as_object}
use Rattle.serde_json.specs.View.{members_view, view}
use Rattle.serde_json.specs.declared.value.Value.{Value}
use Rattle.cedar_json.specs.Entities.{Has, MayHave, are_named, is_member_name}
use Rattle.cedar_json.specs.Refusals.{IsHandedOn, IsNothing, Reads}
use Rattle.cedar_json.specs.declared.no_value.NoValue.{NoValue}
use Rattle.cedar_json.proofs.Nothing.{nothing, nothing_behind, same_read}

module _ {A B : Type 0} (f : B → A) where
  handed_on : (P : A → Type 0) (made r : Result B NoValue) → IsHandedOn made r → Reads P f made → Reads P f r
  handed_on P (Ok b) r same h = subst (Reads P f) (sym same) h
  handed_on P (Err e) (Ok b) same h = elim same [ ]
  handed_on P (Err e) (Err g) same h = nothing_behind P P (λ a p. (a, p)) e g same h

  pub had : (P : Data → A → Type 0) (o : Option Data) (d : Data) → o ≡ Some d → (made r : Result B NoValue)
      → IsHandedOn made r → Reads (P d) f made → Reads (Has P o) f r
  had P o d is made r same h = subst (λ x. Reads (Has P x) f r) (sym is) (handed_on (P d) made r same h)

pub lacking : {A : Type 0} (P : Data → A → Type 0) (o : Option Data) → o ≡ None → (e : NoValue) → IsNothing (Has P o) e
lacking P o is e = subst (λ x. IsNothing (Has P x) e) (sym is) (nothing (Has P None) (λ a h. h) e)

pub may_have : {A B : Type 0} (f : B → List A) (P : Data → List A → Type 0) (o : Option Data) (d : Data) → o ≡ Some d
    → (made r : Result B NoValue) → IsHandedOn made r → Reads (P d) f made → Reads (MayHave P o) f r
may_have f P o d is made r same h = subst (λ x. Reads (MayHave P x) f r) (sym is) (handed_on f (P d) made r same h)

-- the names of what is left are those of an entity exactly if all are
pub named_next : (left next : List (String Global × Value)) (k : String Global) (v : Value) (all : Members)
    → left ≡ (k, v) ∷ next → is_member_name (string_bytes k) ≡ true → are_named all ≡ are_named (members_view left)
    → are_named all ≡ are_named (members_view next)
named_next left next k v all steps is h =
    h ∙ ap (λ ms. are_named (members_view ms)) steps ∙ ap (λ b. b && are_named (members_view next)) is

pub unnamed_first : (left next : List (String Global × Value)) (k : String Global) (v : Value) (all : Members)
    → left ≡ (k, v) ∷ next → is_member_name (string_bytes k) ≡ false → are_named all ≡ are_named (members_view left)
    → are_named all ≡ true → ⊥
unnamed_first left next k v all steps is h t =
    false≢true (sym (h ∙ ap (λ ms. are_named (members_view ms)) steps
    ∙ ap (λ b. b && are_named (members_view next)) is) ∙ t)

pub all_named : (left : List (String Global × Value)) (all : Members) → left ≡ []
    → are_named all ≡ are_named (members_view left) → are_named all ≡ true
all_named left all none h = h ∙ ap (λ ms. are_named (members_view ms)) none

pub object_names : (d : Data) (ms : Members) → d ≡ object ms → (r : Result Unit NoValue)
    → Reads (λ (u : Unit). are_named ms ≡ true) (λ u. u) r
    → Reads (λ (u : Unit). option_map are_named (as_object d) ≡ Some true) (λ u. u) r
object_names d ms is r h =
    subst (λ x. Reads (λ (u : Unit). option_map are_named (as_object x) ≡ Some true) (λ u. u) r) (sym is)
    (same_read (λ (u : Unit). are_named ms ≡ true) (λ (u : Unit). Some (are_named ms) ≡ Some true) (λ u p. ap Some p)
    (λ u p. same_Some (are_named ms) true p) (λ u. u) r h)

-- `unwrap_or` of references, as the data sees it
pub unwrapped : (o : Option (Bor Value)) (v : Bor Value)
    → view (unwrap_or o v).now ≡ unwrap_or (option_map (λ x. view x.now) o) (view v.now)
unwrapped (Some x) v = refl
unwrapped None v = refl
