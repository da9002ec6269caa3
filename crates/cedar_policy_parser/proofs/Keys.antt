-- Keys of which no two are the same.
use Rattle.std.proofs.Common.{◌≡◌, List, [], ◌∷◌, ◌++◌, Bool, true, false, not, ◌&&◌, ◌||◌, nat_eq, refl, sym, ◌∙◌}
use Rattle.std.specs.Cmp.Lexicographic.{pointwise, nat_list_eq_equiv}
use Rattle.std.proofs.lemmas.Bool.{false≢true}
use Rattle.std.proofs.lemmas.List.Folds.{list_any-append}
use Rattle.cedar_builders.specs.BareExpr.{Text}
use Rattle.cedar_builders.specs.Keys.{are_distinct, is_among}

both_false : (a b : Bool) → (a || b) ≡ false → (a ≡ false) × (b ≡ false)
both_false true b h = absurd (false≢true (sym h))
both_false false b h = (refl, h)

pub both_true : (a b : Bool) → (a && b) ≡ true → (a ≡ true) × (b ≡ true)
both_true true b h = (refl, h)
both_true false b h = absurd (false≢true h)

pub not_true : (a : Bool) → not a ≡ true → a ≡ false
not_true true h = absurd (false≢true h)
not_true false h = refl

-- one more key, which is none of them
pub distinct_more : (ks : List Text) (k : Text) → are_distinct ks ≡ true → is_among k ks ≡ false → are_distinct (ks ++ (k ∷ [])) ≡ true
distinct_more [] k d h = refl
distinct_more (x ∷ ks) k d h =
    let f = both_false (pointwise nat_eq k x) (is_among k ks) h in
    let t = both_true (not (is_among x ks)) (are_distinct ks) d in
    let here : pointwise nat_eq x k ≡ false = nat_list_eq_equiv.symm x k ∙ f.0 in
    let out : is_among x (ks ++ (k ∷ [])) ≡ false =
    list_any-append (pointwise nat_eq x) ks (k ∷ []) ∙ rw (not_true (is_among x ks) t.0, here) refl in
    rw (out, distinct_more ks k t.1 f.1) refl

-- a key that stands behind others is none of them
pub apart : (ks : List Text) (k : Text) (more : List Text) → are_distinct (ks ++ (k ∷ more)) ≡ true → is_among k ks ≡ false
apart [] k more d = refl
apart (x ∷ ks) k more d =
    let t = both_true (not (is_among x (ks ++ (k ∷ more)))) (are_distinct (ks ++ (k ∷ more))) d in
    let f = both_false (is_among x ks) (is_among x (k ∷ more)) (sym (list_any-append (pointwise nat_eq x) ks (k ∷ more)) ∙ not_true (is_among x (ks ++ (k ∷ more))) t.0) in
    let g = both_false (pointwise nat_eq x k) (is_among x more) f.1 in
    rw (nat_list_eq_equiv.symm k x ∙ g.0, apart ks k more t.1) refl
