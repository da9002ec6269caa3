-- What the literals that are kept by hash say of the members.
use Rattle.std.proofs.Common.{◌≡◌, Bool, true, false, not, ◌||◌, ◌&&◌, List, [], ◌∷◌, Option, Some, None, map, refl, sym, ap, ◌∙◌}
use Rattle.std.specs.Bool.{MatchBool}
use Rattle.std.specs.Cmp.{IsTotalOrder}
use Rattle.std.specs.HashSet.{contains, keys}
use Rattle.std.specs.List.{list_all, list_any, Contains}
use Rattle.std.specs.List.Sorted.{IsPermutation}
use Rattle.std.specs.Ordering.{on}
use Rattle.std.specs.declared.cmp.Ordering.{Ordering}
use Rattle.std.proofs.lemmas.Bool.{and_parts, or_right, true≢false}
use Rattle.std.proofs.lemmas.Cmp.{on_total}
use Rattle.std.proofs.lemmas.List.Elements.{All-contains, Contains-get_or}
use Rattle.std.proofs.lemmas.List.Folds.{list_all-map}
use Rattle.std.proofs.lemmas.List.Sorted.{list_any-IsPermutation}
use Rattle.std.proofs.lemmas.List.Sums.{AllPass-from_list_all, list_all-from_AllPass}
use Rattle.std.proofs.lemmas.Map.Steps.{list_any_congr}
use Rattle.cedar_terms.specs.LiteralOrder.{literal_eq, literal_eq_decides, literal_eq_equiv, literal_ties}
use Rattle.cedar_terms.specs.Literals.{BareLiteral, bare_literal}
use Rattle.cedar_terms.specs.declared.literal.Literal.{Literal}
use Rattle.cedar_sorted_slices.specs.Classes.{has_class, IsClassesOf, IsPartOf}
use Rattle.cedar_sorted_slices.specs.Images.{classes_of_images, has_image}
use Rattle.cedar_sorted_slices.specs.Unique.{has_first}
use Rattle.semantics_values.specs.BareValue.{BareValue, LitValue, SetValue, RecordValue, ExtensionValue}
use Rattle.semantics_values.specs.ValueOrder.{value_cmp}
use Rattle.cedar_values.specs.BareValues.{bare_value}
use Rattle.cedar_values.specs.HashForms.{HasLiterals, LiteralSet, are_alike, is_among, is_hash_form, is_literal_among, literals_in, literals_of}
use Rattle.cedar_values.specs.Places.{is_lit_value, literal_of}
use Rattle.cedar_values.specs.declared.value.Value.{Value}

-- ---- lists of literals

both : (a b : Bool) → (a ≡ true → b ≡ true) → (b ≡ true → a ≡ true) → a ≡ b
both true b f g = sym (f refl)
both false true f g = g refl
both false false f g = refl

all_among : (xs ls : List BareLiteral) → ((l : BareLiteral) → is_among xs l ≡ true → is_among ls l ≡ true) → list_all (is_among ls) xs ≡ true
all_among [] ls h = refl
all_among (x ∷ xs) ls h = λ i. h x (ap (λ b. b || is_among xs x) (literal_eq_equiv.refl x)) i && all_among xs ls (λ l t. h l (or_right (literal_eq l x) _ t)) i

pub among_all : (ks ls : List BareLiteral) → list_all (is_among ks) ls ≡ true → (l : BareLiteral) → is_among ls l ≡ true → is_among ks l ≡ true
among_all ks [] all l h = absurd (true≢false (sym h))
among_all ks (x ∷ ls) all l h =
    elim (literal_eq l x) as (λ b. literal_eq l x ≡ b → (b || is_among ls l) ≡ true → is_among ks l ≡ true) [
      | true ↦ λ e _. ap (is_among ks) ((literal_eq_decides l x).0 e) ∙ (and_parts (is_among ks x) _ all).0
      | false ↦ λ _ rest. among_all ks ls (and_parts (is_among ks x) _ all).1 l rest
    ] refl h

-- they are alike just where the same literals are among them
pub alike : (ks ls : List BareLiteral) → ((l : BareLiteral) → is_among ks l ≡ is_among ls l) → are_alike ks ls ≡ true
alike ks ls h = λ i. all_among ks ls (λ l t. sym (h l) ∙ t) i && all_among ls ks (λ l t. h l ∙ t) i

pub among_alike : (ks ls : List BareLiteral) → are_alike ks ls ≡ true → (l : BareLiteral) → is_among ks l ≡ is_among ls l
among_alike ks ls h l =
    both (is_among ks l) (is_among ls l)
    (λ t. among_all ls ks (and_parts (list_all (is_among ls) ks) _ h).0 l t)
    (λ t. among_all ks ls (and_parts (list_all (is_among ls) ks) _ h).1 l t)

pub not_false : (b : Bool) → false ≡ not b → b ≡ true
not_false true h = refl
not_false false h = cc

pub not_true : (b : Bool) → not b ≡ true → b ≡ false
not_true true h = cc
not_true false h = refl

-- ---- a literal is added

any_map : {A B : Type 0} (p : B → Bool) (f : A → B) (xs : List A) → list_any p (map f xs) ≡ list_any (λ x. p (f x)) xs
any_map p f [] = refl
any_map p f (x ∷ xs) = ap (λ b. p (f x) || b) (any_map p f xs)

pub has : (h : LiteralSet) (l : BareLiteral) → is_among (literals_of h) l ≡ list_any (λ k. literal_eq l (bare_literal k)) (keys h)
has h l = any_map (literal_eq l) bare_literal (keys h)

pub known : (ls : List BareLiteral) (k : BareLiteral) → is_among ls k ≡ true → (l : BareLiteral) → is_among ls l ≡ (literal_eq l k || is_among ls l)
known ls k h l =
    elim (literal_eq l k) as (λ b. literal_eq l k ≡ b → is_among ls l ≡ (b || is_among ls l)) [
      | true ↦ λ e. list_any_congr literal_eq_equiv l k ls e ∙ h
      | false ↦ λ _. refl
    ] refl

pub added : (h n : LiteralSet) (k : Literal) (is_new : Bool) → MatchBool is_new (IsPermutation (k ∷ keys h) (keys n)) (keys n ≡ keys h)
    → is_new ≡ not (contains (on bare_literal literal_eq) h k) → HasLiterals (bare_literal k ∷ literals_of h) n
added h n k true moved fresh l =
    has n l ∙ sym (list_any-IsPermutation (λ x. literal_eq l (bare_literal x)) (k ∷ keys h) (keys n) moved)
    ∙ ap (λ b. literal_eq l (bare_literal k) || b) (sym (has h l))
added h n k false kept old l =
    ap (λ ks. is_among (map bare_literal ks) l) kept
    ∙ known (literals_of h) (bare_literal k) (has h (bare_literal k) ∙ not_false _ old) l

-- ---- some of the values

-- what all pass, some of them pass
pub all_kept : {A : Type 0} (p : A → Bool) (ms vs : List A) → ((v : A) → Contains ms v → Contains vs v) → list_all p vs ≡ true → list_all p ms ≡ true
all_kept p ms vs kept all =
    list_all-from_AllPass p ms (λ k d l. All-contains (λ x. p x ≡ true) vs _ (AllPass-from_list_all p vs all) (kept _ (Contains-get_or ms k d l)))

-- ---- literals among values

module _ {X : Type 0} where
  pub one_among : (ks : List BareLiteral) (t : BareValue X) (l : BareLiteral) → literal_of t ≡ Some l → is_literal_among ks t ≡ is_among ks l
  one_among ks (LitValue k) l h = ap (λ o. elim o as (λ _. Bool) [ None ↦ false | Some x ↦ is_among ks x ]) h
  one_among ks (SetValue us) l h = cc
  one_among ks (RecordValue ps) l h = cc
  one_among ks (ExtensionValue x g) l h = cc

  pub other_among : (ks : List BareLiteral) (t : BareValue X) → literal_of t ≡ None → is_literal_among ks t ≡ false
  other_among ks (LitValue k) h = cc
  other_among ks (SetValue us) h = refl
  other_among ks (RecordValue ps) h = refl
  other_among ks (ExtensionValue x g) h = refl

  lit_given : (t : BareValue X) (l : BareLiteral) → literal_of t ≡ Some l → is_lit_value t ≡ true
  lit_given (LitValue k) l h = refl
  lit_given (SetValue us) l h = cc
  lit_given (RecordValue ps) l h = cc
  lit_given (ExtensionValue x g) l h = cc

  among_by : (ks ls : List BareLiteral) → ((l : BareLiteral) → is_among ks l ≡ is_among ls l) → (t : BareValue X) → is_literal_among ks t ≡ is_literal_among ls t
  among_by ks ls h (LitValue l) = h l
  among_by ks ls h (SetValue us) = refl
  among_by ks ls h (RecordValue ps) = refl
  among_by ks ls h (ExtensionValue x g) = refl

  -- the hash form of some values
  pub form_of : (ts : List (BareValue X)) (ks : List BareLiteral) → list_all is_lit_value ts ≡ true → ((l : BareLiteral) → is_among ks l ≡ is_among (literals_in ts) l) → is_hash_form ts (Some ks) ≡ true
  form_of ts ks all h = λ i. all i && alike ks (literals_in ts) h i

  pub form_lit : (ts : List (BareValue X)) (ks : List BareLiteral) → is_hash_form ts (Some ks) ≡ true → list_all is_lit_value ts ≡ true
  form_lit ts ks h = (and_parts (list_all is_lit_value ts) _ h).0

  module _ (R : X → X → Ordering) where
    -- the class of a literal is there just where it is among the literals
    lit_class : (ts : List (BareValue X)) (l : BareLiteral) → is_among (literals_in ts) l ≡ has_class (value_cmp R) ts (LitValue l)
    lit_class [] l = refl
    lit_class (LitValue k ∷ ts) l = λ i. literal_ties l k i || lit_class ts l i
    lit_class (SetValue us ∷ ts) l = lit_class ts l
    lit_class (RecordValue ps ∷ ts) l = lit_class ts l
    lit_class (ExtensionValue x g ∷ ts) l = lit_class ts l

    pub literal_class : (ts : List (BareValue X)) (t : BareValue X) (l : BareLiteral) → literal_of t ≡ Some l → is_among (literals_in ts) l ≡ true → has_class (value_cmp R) ts t ≡ true
    literal_class ts (LitValue k) l h there = sym (lit_class ts k) ∙ ap (λ o. elim o as (λ _. Bool) [ None ↦ true | Some x ↦ is_among (literals_in ts) x ]) h ∙ there
    literal_class ts (SetValue us) l h there = cc
    literal_class ts (RecordValue ps) l h there = cc
    literal_class ts (ExtensionValue x g) l h there = cc

    -- among literals, the class of a value is there just where it is one of them
    class_among : (ts : List (BareValue X)) → list_all is_lit_value ts ≡ true → (t : BareValue X) → is_literal_among (literals_in ts) t ≡ has_class (value_cmp R) ts t
    class_among [] all (LitValue l) = refl
    class_among [] all (SetValue us) = refl
    class_among [] all (RecordValue ps) = refl
    class_among [] all (ExtensionValue x g) = refl
    class_among (LitValue k ∷ ts) all (LitValue l) = lit_class (LitValue k ∷ ts) l
    class_among (LitValue k ∷ ts) all (SetValue us) = class_among ts all (SetValue us)
    class_among (LitValue k ∷ ts) all (RecordValue ps) = class_among ts all (RecordValue ps)
    class_among (LitValue k ∷ ts) all (ExtensionValue x g) = class_among ts all (ExtensionValue x g)
    class_among (SetValue vs ∷ ts) all t = cc
    class_among (RecordValue vs ∷ ts) all t = cc
    class_among (ExtensionValue y k ∷ ts) all t = cc

    pub form_has : (vs : List (Value X)) (ks : List BareLiteral) → is_hash_form (map bare_value vs) (Some ks) ≡ true → (v : Value X) → is_literal_among ks (bare_value v) ≡ has_class (on bare_value (value_cmp R)) vs v
    form_has vs ks h v =
        let ts = map bare_value vs in
        among_by ks (literals_in ts) (among_alike ks (literals_in ts) (and_parts (list_all is_lit_value ts) _ h).1) (bare_value v)
        ∙ class_among ts (form_lit ts ks h) (bare_value v)
        ∙ has_image bare_value (value_cmp R) vs v

    -- a value of a set that is no literal
    other_in : IsTotalOrder (on bare_value (value_cmp R)) → (vs : List (Value X)) → list_all is_lit_value (map bare_value vs) ≡ false
        → (v : Value X) × (literal_of (bare_value v) ≡ None) × (has_class (on bare_value (value_cmp R)) vs v ≡ true)
    other_in o [] h = absurd (true≢false h)
    other_in o (v ∷ vs) h =
        elim (literal_of (bare_value v)) as (λ m. literal_of (bare_value v) ≡ m → (w : Value X) × (literal_of (bare_value w) ≡ None) × (has_class (on bare_value (value_cmp R)) (v ∷ vs) w ≡ true)) [
          | None ↦ λ e. (v, e, has_first o v vs)
          | Some l ↦ λ e.
              let found = other_in o vs (sym (λ i. lit_given (bare_value v) l e i && list_all is_lit_value (map bare_value vs)) ∙ h) in
              (found.0, found.1, or_right _ _ found.2)
        ] refl

    -- values of which one is no literal are no part of literals
    pub not_part : IsTotalOrder (on bare_value (value_cmp R)) → (vs ws : List (Value X)) → (ks : List BareLiteral) → is_hash_form (map bare_value vs) None ≡ true → is_hash_form (map bare_value ws) (Some ks) ≡ true
        → IsPartOf (on bare_value (value_cmp R)) vs ws → ⊥
    not_part o vs ws ks none some part =
        let found = other_in o vs (not_true _ none) in
        true≢false (sym (part found.0 found.2) ∙ sym (form_has ws ks some found.0) ∙ other_among ks (bare_value found.0) found.1)

    -- what is the hash form of some values is that of their classes
    kept_lit : (ms vs : List (Value X)) → ((v : Value X) → Contains ms v → Contains vs v) → list_all is_lit_value (map bare_value vs) ≡ true → list_all is_lit_value (map bare_value ms) ≡ true
    kept_lit ms vs kept all =
        list_all-map is_lit_value bare_value ms
        ∙ all_kept (λ v. is_lit_value (bare_value v)) ms vs kept (sym (list_all-map is_lit_value bare_value vs) ∙ all)

    pub kept_form : IsTotalOrder (value_cmp R) → (ms vs : List (Value X)) → IsClassesOf (on bare_value (value_cmp R)) ms vs → (f : Option (List BareLiteral)) → is_hash_form (map bare_value vs) f ≡ true → is_hash_form (map bare_value ms) f ≡ true
    kept_form o ms vs h None form =
        elim (list_all is_lit_value (map bare_value ms)) as (λ b. list_all is_lit_value (map bare_value ms) ≡ b → not b ≡ true) [
          | true ↦ λ all. absurd (not_part (on_total bare_value o) vs ms (literals_in (map bare_value ms)) form (form_of (map bare_value ms) (literals_in (map bare_value ms)) all (λ l. refl)) (λ q t. h.same q ∙ t))
          | false ↦ λ _. refl
        ] refl
    kept_form o ms vs h (Some ks) form =
        let all = form_lit (map bare_value vs) ks form in
        let lit = kept_lit ms vs h.kept all in
        let images = classes_of_images bare_value o ms vs h in
        form_of (map bare_value ms) ks lit (λ l.
        among_alike ks (literals_in (map bare_value vs)) (and_parts (list_all is_lit_value (map bare_value vs)) _ form).1 l
        ∙ class_among (map bare_value vs) all (LitValue l)
        ∙ sym (images.same (LitValue l))
        ∙ sym (class_among (map bare_value ms) lit (LitValue l)))
