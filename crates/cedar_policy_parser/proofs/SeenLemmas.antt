-- Texts that were seen, and one more.
use Rattle.std.proofs.Common.{◌≡◌, Bool, true, false, ◌||◌, cond, nat_eq, List, [], ◌∷◌, ◌++◌, refl, sym, ◌∙◌}
use Rattle.std.specs.BTreeSet.{BTreeSet, Updates, contains}
use Rattle.std.specs.Cmp.Lexicographic.{pointwise, nat_list_eq_equiv}
use Rattle.std.specs.Global.{Global}
use Rattle.std.specs.Rc.{rc_str_bytes}
use Rattle.std.specs.declared.rc.RcStr.{RcStr}
use Rattle.std.proofs.lemmas.List.Folds.{list_any-append}
use Rattle.std.proofs.lemmas.Map.Text.{is_eq-slice_cmp}
use Rattle.cedar_builders.specs.BareExpr.{Text}
use Rattle.cedar_builders.specs.Keys.{is_among}
use Rattle.cedar_policy_parser.specs.Seen.{text_order}

cond_or : (a b : Bool) → cond a true b ≡ (b || (a || false))
cond_or true true = refl
cond_or true false = refl
cond_or false true = refl
cond_or false false = refl

-- what was seen before, or the new one
pub seen_more : (ks : List Text) (old new : BTreeSet (RcStr Global)) (k : RcStr Global) → Updates text_order old new k true
    → ((q : RcStr Global) → contains text_order old q ≡ is_among (rc_str_bytes q) ks) → (q : RcStr Global)
    → contains text_order new q ≡ is_among (rc_str_bytes q) (ks ++ (rc_str_bytes k ∷ []))
seen_more ks old new k h seen q =
    let t = rc_str_bytes q in
    let same : pointwise nat_eq (rc_str_bytes k) t ≡ pointwise nat_eq t (rc_str_bytes k) = nat_list_eq_equiv.symm (rc_str_bytes k) t in
    h.0 q ∙ (rw (is_eq-slice_cmp (rc_str_bytes k) t, seen q, same) (cond_or (pointwise nat_eq t (rc_str_bytes k)) (is_among t ks))
    ∙ sym (list_any-append (pointwise nat_eq t) ks (rc_str_bytes k ∷ [])))
