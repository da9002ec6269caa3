-- What is left to write of a collection behind some of its items.
use Rattle.std.proofs.Common.{◌≡◌, ℕ, zero, suc, ◌-◌, ◌++◌, Bool, true, false, List, [], ◌∷◌, map, Option, Some, None, refl, sym, ap, ◌∙◌, append_assoc, codes, Result, Ok, Err, IsOk, OnOk, arith, subst, Global, ◌+◌, ◌<◌, length, get_or, drop, add-one}
use Rattle.std.specs.Prelude.{option_map, if◌then◌else◌}
use Rattle.std.specs.Fmt.{WritesInCalls}
use Rattle.std.specs.List.{concat}
use Rattle.std.specs.declared.fmt.Error.{Error}
use Rattle.std.proofs.Output.{writes_in_calls_append, writes_in_calls_single}
use Rattle.std.proofs.Math.Seq.{take-nil, drop-nil, drop-cons}
use Rattle.cedar_builders.specs.BareExpr.{Text}
use Rattle.std.specs.Rc.{rc_str_bytes}
use Rattle.std.specs.declared.rc.RcStr.{RcStr}
use Rattle.semantics_values.specs.BareValue.{SetValue, RecordValue, values_of}
use Rattle.cedar_values.specs.BareValues.{bare_set, bare_value}
use Rattle.cedar_values.specs.BoundedTexts.{bounded_text, elision, hidden, inside, key_text, member_texts, pair_texts, separated, separator, shown}
use Rattle.cedar_values.specs.Conversions.{bare_pairs}
use Rattle.cedar_values.specs.Sets.{members}
use Rattle.cedar_values.specs.declared.set.Set as set_of
use Rattle.cedar_values.specs.declared.value.Value.{Value}
use Rattle.cedar_values.proofs.WellFormedSets.{set_values}

-- what stands between an item and the one before it
abbrev pub lead : Bool → Text
lead first = if first then [] else codes ", "

-- one less may be shown
abbrev pub fewer : Option ℕ → Option ℕ
fewer n = option_map (λ k. k - 1) n

-- what is left to write of some texts, the first of all among them or not
abbrev pub rest : Bool → Option ℕ → List Text → Text
rest first n [] = []
rest first n (x ∷ xs) = lead first ++ inside n (x ∷ xs)

inside_none : (n : Option ℕ) → inside n [] ≡ []
inside_none None = refl
inside_none (Some n) = λ i. concat (take-nil {A = Text} n i) ++ elision (drop-nil {A = Text} n i)

pub whole_rest : (n : Option ℕ) (xs : List Text) → inside n xs ≡ rest true n xs
whole_rest n [] = inside_none n
whole_rest n (x ∷ xs) = refl

-- what follows an item
behind : (n : Option ℕ) (xs : List Text) → separator xs ++ inside n xs ≡ rest false n xs
behind n [] = inside_none n
behind n (y ∷ ys) = refl

pub one_shown : (first : Bool) (n : Option ℕ) (x : Text) (xs : List Text) → (n ≡ Some 0 → ⊥) → rest first n (x ∷ xs) ≡ lead first ++ (x ++ rest false (fewer n) xs)
one_shown first None x xs h =
    ap (λ t. lead first ++ t)
    (append_assoc (x ++ separator xs) (concat (separated xs)) [] ∙ append_assoc x (separator xs) (inside None xs) ∙ ap (λ t. x ++ t) (behind None xs))
one_shown first (Some zero) x xs h = absurd (h refl)
one_shown first (Some (suc n)) x xs h =
    let less : n ≡ suc n - 1 = omega arith in
    ap (λ t. lead first ++ t)
    (append_assoc (x ++ separator xs) (concat (shown (Some n) (separated xs))) (elision (hidden (Some n) xs))
    ∙ append_assoc x (separator xs) (inside (Some n) xs) ∙ ap (λ t. x ++ t) (behind (Some n) xs ∙ ap (λ k. rest false (Some k) xs) less))

module _ {W : Type 0} (took : W → List ℕ → W → Type 0) where
  -- who writes this text from v on has then written the whole from w on
  abbrev pub Completes : W → Text → W → Text → Type 0
  Completes w whole v text = (u : W) → WritesInCalls took v text u → WritesInCalls took w whole u

  -- some of the text is written
  pub written : (w : W) (whole : Text) (v : W) (a b : Text) (u : W) → Completes w whole v (a ++ b) → WritesInCalls took v a u → Completes w whole u b
  written w whole v a b u h p z q = h z (writes_in_calls_append took v a u b z p q)

  pub one_call : (w : W) (bs : Text) (v : W) (r : Result (Unit {0}) Error) → (IsOk r → took w bs v) → OnOk r (WritesInCalls took w bs v)
  one_call w bs v (Ok x) h = writes_in_calls_single took w bs v (h refl)
  one_call w bs v (Err e) h = tt

  -- the last of the text is written
  pub last_call : (w : W) (whole : Text) (v : W) (bs : Text) (u : W) (r : Result (Unit {0}) Error) → Completes w whole v bs → (IsOk r → took v bs u) → OnOk r (WritesInCalls took w whole u)
  last_call w whole v bs u (Ok x) h g = h u (writes_in_calls_single took v bs u (g refl))
  last_call w whole v bs u (Err e) h g = tt

  -- the first of the text is written
  pub begun : (w : W) (whole : Text) (v : W) (a b : Text) → whole ≡ a ++ b → WritesInCalls took w a v → Completes w whole v b
  begun w whole v a b is p u q = subst (λ t. WritesInCalls took w t u) (sym is) (writes_in_calls_append took w a v b u p q)

-- where no more may be shown, and behind an item that is
pub cut_off : (first : Bool) (n : Option ℕ) (x : Text) (xs : List Text) (close : Text) → n ≡ Some 0 → rest first n (x ∷ xs) ++ close ≡ lead first ++ (codes ".. " ++ close)
cut_off first n x xs close is = ap (λ m. rest first m (x ∷ xs) ++ close) is ∙ append_assoc (lead first) (codes ".. ") close

pub next_item : (first : Bool) (n : Option ℕ) (x : Text) (xs : List Text) (close : Text) → (n ≡ Some 0 → ⊥) → rest first n (x ∷ xs) ++ close ≡ lead first ++ (x ++ (rest false (fewer n) xs ++ close))
next_item first n x xs close h =
    ap (λ t. t ++ close) (one_shown first n x xs h)
    ∙ append_assoc (lead first) (x ++ rest false (fewer n) xs) close
    ∙ ap (λ t. lead first ++ t) (append_assoc x (rest false (fewer n) xs) close)

module _ {W : Type 0} (took : W → List ℕ → W → Type 0) (w : W) (whole : Text) where
  -- an item is written, with what stands before it
  pub item_written : (first : Bool) (n m : Option ℕ) (x : Text) (xs : List Text) (close : Text) (v v1 v2 : W) → (n ≡ Some 0 → ⊥) → m ≡ fewer n → Completes took w whole v (rest first n (x ∷ xs) ++ close)
      → WritesInCalls took v (lead first) v1 → WritesInCalls took v1 x v2 → Completes took w whole v2 (rest false m xs ++ close)
  item_written first n m x xs close v v1 v2 more less h p q =
      let before = subst (Completes took w whole v) (next_item first n x xs close more) h in
      let led = written took w whole v (lead first) _ v1 before p in
      subst (λ k. Completes took w whole v2 (rest false k xs ++ close)) (sym less) (written took w whole v1 x _ v2 led q)

  -- no more items are written
  pub rest_cut : (first : Bool) (n : Option ℕ) (x : Text) (xs : List Text) (close : Text) (v v1 : W) → n ≡ Some 0 → Completes took w whole v (rest first n (x ∷ xs) ++ close)
      → WritesInCalls took v (lead first) v1 → Completes took w whole v1 (codes ".. " ++ close)
  rest_cut first n x xs close v v1 is h p =
      written took w whole v (lead first) _ v1 (subst (Completes took w whole v) (cut_off first n x xs close is) h) p

pub dropped : {A : Type 0} (xs : List A) (i : ℕ) (x : A) → i < length xs → x ≡ get_or xs i x → drop i xs ≡ x ∷ drop (i + 1) xs
dropped xs i x lt is = drop-cons xs i x lt ∙ λ j. sym is j ∷ drop (sym (add-one i) j) xs

module _ {X : Type 0} (T : X → Text) (n : Option ℕ) where
  abbrev pub value_text : Value X → Text
  value_text v = bounded_text T n (bare_value v)

  abbrev pub pair_text : RcStr Global × Value X → Text
  pair_text e = key_text (rc_str_bytes e.0) ++ (codes ": " ++ value_text e.1)

  members_are : (vs : List (Value X)) → member_texts T n (values_of (map bare_value vs)) ≡ map value_text vs
  members_are [] = refl
  members_are (v ∷ vs) = ap (λ ts. value_text v ∷ ts) (members_are vs)

  pairs_are : (es : List (RcStr Global × Value X)) → pair_texts T n (bare_pairs es) ≡ map pair_text es
  pairs_are [] = refl
  pairs_are (e ∷ es) = ap (λ ts. pair_text e ∷ ts) (pairs_are es)

  pub set_text : (s : set_of.Set X) → bounded_text T n (SetValue (bare_set s)) ≡ codes "[" ++ (rest true n (map value_text (members s)) ++ codes "]")
  set_text s =
      ap (λ ts. codes "[" ++ (inside n ts ++ codes "]")) (ap (member_texts T n) (set_values s) ∙ members_are (members s))
      ∙ ap (λ t. codes "[" ++ (t ++ codes "]")) (whole_rest n (map value_text (members s)))

  pub record_text : (es : List (RcStr Global × Value X)) → bounded_text T n (RecordValue (bare_pairs es)) ≡ codes "{" ++ (rest true n (map pair_text es) ++ codes "}")
  record_text es =
      ap (λ ts. codes "{" ++ (inside n ts ++ codes "}")) (pairs_are es)
      ∙ ap (λ t. codes "{" ++ (t ++ codes "}")) (whole_rest n (map pair_text es))
