-- What an object stands for, by whether it has members with two underscores.
use Rattle.std.proofs.Common.{◌≡◌, Option, None, Some, Result, refl, rules, subst, sym, ◌∙◌}
use Rattle.std.proofs.lemmas.Option.{none-some}
use Rattle.std.specs.Prelude.{String, codes, string_bytes}
use Rattle.std.specs.Global.{Global}
use Rattle.serde_json.specs.Data.{Data, string, object, Members}
use Rattle.serde_json.specs.Find.{get, get_member}
use Rattle.serde_json.specs.View.{view}
use Rattle.serde_json.specs.declared.value.Value as Value
use Rattle.serde_json.specs.declared.value.Value.{the_lemmas}
use Rattle.cedar_builders.specs.BareExpr.{Text, BareExpr}
use Rattle.cedar_json.specs.Refusals.{Reads}
use Rattle.cedar_json.specs.Values.{IsArgument, IsCallOf, IsEntityLiteral, IsLiteral, IsMarked, IsRecordOf, IsUnmarked, ObjectBy, StandsFor}
use Rattle.cedar_json.specs.declared.no_value.NoValue.{NoValue}
use Rattle.cedar_json.proofs.Nothing.{same_read}

pub view-String : (s : String Global) → view (Value.String s) ≡ string (string_bytes s)
view-String s = search (rules, the_lemmas)

module _ {B : Type 0} (f : B → BareExpr) (r : Result B NoValue) where
  marked_object : (R : BareExpr → Type 0) (d c x : Option Data) → (d ≡ None → c ≡ None → x ≡ None → ⊥)
      → Reads (IsMarked d c x) f r → Reads (ObjectBy d c x R) f r
  marked_object R (Some d) c x is h = h
  marked_object R None (Some c) x is h = h
  marked_object R None None (Some x) is h = h
  marked_object R None None None is h = absurd (is refl refl refl)

  plain_object : (R : BareExpr → Type 0) (d c x : Option Data) → d ≡ None → c ≡ None → x ≡ None → Reads R f r
      → Reads (ObjectBy d c x R) f r
  plain_object R d c x no_entity no_call no_expr h =
      subst (λ o. Reads (ObjectBy o c x R) f r) (sym no_entity)
      (subst (λ o. Reads (ObjectBy None o x R) f r) (sym no_call)
      (subst (λ o. Reads (ObjectBy None None o R) f r) (sym no_expr) h))

  -- it has one of these members, and stands for what that says
  abbrev pub IsRead : Data → Type 0
  IsRead d = (IsUnmarked d → ⊥)
      × Reads (IsMarked (get (codes "__entity") d) (get (codes "__extn") d) (get (codes "__expr") d)) f r

  pub marked_value : (d : Data) (ms : Members) → d ≡ object ms → IsRead d → Reads (StandsFor d) f r
  marked_value d ms same h =
      let k = subst IsRead same h in
      subst (λ x. Reads (StandsFor x) f r) (sym same)
      (marked_object (IsRecordOf ms) (get_member (codes "__entity") ms) (get_member (codes "__extn") ms)
      (get_member (codes "__expr") ms)
      (λ a b c. k.0 (record { no_entity = a; no_call = b; no_expr = c })) k.1)

  pub plain_value : (d : Data) (ms : Members) → d ≡ object ms → IsUnmarked d → Reads (IsRecordOf ms) f r
      → Reads (StandsFor d) f r
  plain_value d ms same h is =
      let k = subst IsUnmarked same h in
      subst (λ x. Reads (StandsFor x) f r) (sym same)
      (plain_object (IsRecordOf ms) (get_member (codes "__entity") ms) (get_member (codes "__extn") ms)
      (get_member (codes "__expr") ms) k.no_entity k.no_call k.no_expr is)

  pub text_value : (d : Data) (s t : Text) → d ≡ string t → s ≡ t → Reads (IsLiteral (string s)) f r
      → Reads (StandsFor d) f r
  text_value d s t is same h =
      subst (λ x. Reads (StandsFor x) f r) (sym is)
      (same_read (IsLiteral (string t)) (StandsFor (string t)) (λ a p. p) (λ a p. p) f r
      (subst (λ x. Reads (IsLiteral (string x)) f r) same h))

  pub entity_marked : (d v : Data) → get (codes "__entity") d ≡ Some v → Reads (IsEntityLiteral v) f r → IsRead d
  entity_marked d v is h = (
    λ u. none-some v (sym u.no_entity ∙ is),
    subst (λ o. Reads (IsMarked o (get (codes "__extn") d) (get (codes "__expr") d)) f r) (sym is) h,
  )

  pub call_marked : (d v : Data) → get (codes "__entity") d ≡ None → get (codes "__extn") d ≡ Some v
      → Reads (IsCallOf IsArgument v) f r → IsRead d
  call_marked d v none is h = (
    λ u. none-some v (sym u.no_call ∙ is),
    subst (λ o. Reads (IsMarked o (get (codes "__extn") d) (get (codes "__expr") d)) f r) (sym none)
        (subst (λ o. Reads (IsMarked None o (get (codes "__expr") d)) f r) (sym is) h),
  )
