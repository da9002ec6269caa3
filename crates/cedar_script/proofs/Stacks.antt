-- Stacks, whose top stands first.
use Rattle.std.proofs.Common.{◌≡◌, ℕ, ◌+◌, ◌-◌, List, [], ◌∷◌, ◌++◌, length, take, drop, refl, ap, sym, subst, ◌∙◌, arith}
use Rattle.std.specs.Prelude.{reverse, Result, Ok, Err, OnOk}
use Rattle.std.proofs.lemmas.List.{reverse-append, reverse-reverse, length-reverse, take-append-drop, length-drop}
use Rattle.std.proofs.lemmas.Result.{on_ok_weaker}
use Rattle.std.proofs.Math.Seq.{take-append_seam, drop-append_seam}
use Rattle.cedar_exprs.specs.declared.expr.Expr.{Expr}
use Rattle.cedar_script.specs.Stack.{Stack, Pushes, ReplacesOne, ReplacesMany}

pub reverse_push : {A : Type 0} → (xs : List A) (x : A) → reverse (xs ++ x ∷ []) ≡ x ∷ reverse xs
reverse_push xs x = reverse-append xs (x ∷ [])

-- what lies past an index is on top
reverse_split : {A : Type 0} → (xs : List A) (kept : ℕ) → reverse xs ≡ reverse (drop kept xs) ++ reverse (take kept xs)
reverse_split xs kept = sym (ap reverse (take-append-drop kept xs)) ∙ reverse-append (take kept xs) (drop kept xs)

seam : {A : Type 0} → (front back : List A) (n : ℕ) → length front ≡ n → (take n (front ++ back) ≡ front) × (drop n (front ++ back) ≡ back)
seam front back n h = subst (λ m. (take m (front ++ back) ≡ front) × (drop m (front ++ back) ≡ back)) h (take-append_seam front back, drop-append_seam front back)

-- so many are past it
length_past : {A : Type 0} → (xs : List A) (kept count : ℕ) → kept + count ≡ length xs → length (reverse (drop kept xs)) ≡ count
length_past xs kept count h = let e : length (drop kept xs) ≡ length xs - kept = length-drop kept xs in length-reverse (drop kept xs) ∙ e ∙ omega (arith, h)

-- the expressions past an index are those on top, the lowest first
pub past_index : {A : Type 0} → (xs : List A) (kept count : ℕ) → kept + count ≡ length xs → drop kept xs ≡ reverse (take count (reverse xs))
past_index xs kept count h =
    sym (reverse-reverse (drop kept xs))
    ∙ ap reverse (sym ((seam (reverse (drop kept xs)) (reverse (take kept xs)) count (length_past xs kept count h)).0) ∙ ap (take count) (sym (reverse_split xs kept)))

-- and the others stay
pub before_index : {A : Type 0} → (xs : List A) (kept count : ℕ) → kept + count ≡ length xs → reverse (take kept xs) ≡ drop count (reverse xs)
before_index xs kept count h =
    sym ((seam (reverse (drop kept xs)) (reverse (take kept xs)) count (length_past xs kept count h)).1) ∙ ap (drop count) (sym (reverse_split xs kept))

-- what is pushed onto a stack without its topmost stands in their place
pub replaced : {A E : Type 0} (P : Stack → Expr Unit → Type 0) (count n : ℕ) (old below new items : Stack) (e : Expr Unit) (r : Result A E)
    → n ≡ count → items ≡ reverse (take n old) → below ≡ drop n old → P items e → OnOk r (new ≡ e ∷ below) → OnOk r (ReplacesMany count P old new)
replaced P count n old below new items e (Ok x) same taken rest holds pushed =
    subst (λ m. ReplacesMany m P old new) same (subst (ReplacesMany n P old) (sym pushed) (subst (λ xs. P xs e) taken holds, rest))
replaced P count n old below new items e (Err x) same taken rest holds pushed = tt

-- what is pushed onto a stack without its top stands in the top's place
pub replaced_one : {A E : Type 0} (P : Expr Unit → Expr Unit → Type 0) (old below new : Stack) (a e : Expr Unit) (r : Result A E)
    → old ≡ a ∷ below → P a e → OnOk r (new ≡ e ∷ below) → OnOk r (ReplacesOne P old new)
replaced_one P old below new a e r top holds = on_ok_weaker r (λ pushed. subst (λ o. ReplacesOne P o new) (sym top) (subst (Pushes (P a) below) (sym pushed) (holds, refl)))
