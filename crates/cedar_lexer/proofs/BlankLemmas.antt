-- Blanks are skipped one by one.
use Rattle.std.proofs.Common.{◌≡◌, ℕ, ◌+◌, ◌<◌, ◌≤◌, Bool, true, false, not, eqb, get_or, Some, None, List, [], ◌∷◌, ◌++◌, length, take, drop, refl, sym, ◌∙◌, ap, subst, arith, append_assoc, inl, inr, ⊎_elim}
use Rattle.std.specs.Prelude.{◌&&◌}
use Rattle.std.specs.Char.{encode_utf8, is_not_whitespace, is_whitespace}
use Rattle.std.specs.List.{starts_with}
use Rattle.std.specs.Str.{IsTrimStart, NonePass, encode_utf8_all}
use Rattle.std.specs.Str.Pattern.{FindsBy}
use Rattle.std.proofs.lemmas.Bool.{eqb-true, false≢true}
use Rattle.std.proofs.lemmas.Bool.Decides.{nat_tests}
use Rattle.std.proofs.lemmas.List.{length-append, nil_from_length, take-append-drop}
use Rattle.std.proofs.lemmas.Str.{encode_same, len_utf8_bounds, length-encode}
use Rattle.std.proofs.lemmas.Str.Pattern.{drop_at_char}
use Rattle.cedar_lexer.specs.Blanks.{BeginsComment, HasBlanks, HasNoSpace, IsBehindLine, IsInLine, ends_line, nothing, space, comment, last_comment}

assoc : (xs ys zs : List ℕ) → (xs ++ ys) ++ zs ≡ xs ++ (ys ++ zs)
assoc xs ys zs = simp append_assoc

pub parts_length : (text front back : List ℕ) → text ≡ front ++ back → length text ≡ length front + length back
parts_length text front back e = ap length e ∙ length-append front back

-- ---- blanks behind blanks

pub rest_fits : {text rest : List ℕ} → HasBlanks text rest → length rest ≤ length text
rest_fits (nothing text) = omega arith
rest_fits (space c text rest w h) =
    let fits = rest_fits h in
    let l = length-append (encode_utf8 c) text in omega arith
rest_fits (comment line c text rest b i e h) =
    let fits = rest_fits h in
    let l = length-append line (c ∷ text) in omega arith
rest_fits (last_comment line b i) = omega arith

-- behind nothing there is nothing
none_behind : (rest : List ℕ) → HasBlanks [] rest → rest ≡ []
none_behind rest h = let fits = rest_fits h in nil_from_length rest (omega arith)

pub blanks_go_on : {text rest : List ℕ} → HasBlanks text rest → (next : List ℕ) → HasBlanks rest next → HasBlanks text next
blanks_go_on (nothing text) next k = k
blanks_go_on (space c text rest w h) next k = space c text next w (blanks_go_on h next k)
blanks_go_on (comment line c text rest b i e h) next k = comment line c text next b i e (blanks_go_on h next k)
blanks_go_on (last_comment line b i) next k = subst (λ r. HasBlanks line r) (sym (none_behind next k)) (last_comment line b i)

-- ---- white space

not_not : (b : Bool) → not b ≡ false → b ≡ true
not_not true h = refl
not_not false h = absurd (false≢true (sym h))

spaces_blank : (cs text : List ℕ) → NonePass is_not_whitespace cs → HasBlanks (encode_utf8_all cs ++ text) text
spaces_blank [] text h = nothing text
spaces_blank (c ∷ cs) text h =
    subst (λ t. HasBlanks t text) (sym (assoc (encode_utf8 c) (encode_utf8_all cs) text))
    (space c (encode_utf8_all cs ++ text) text (not_not (is_whitespace c) h.0) (spaces_blank cs text h.1))

pub spaces_skipped : (text rest : List ℕ) → IsTrimStart text rest → HasBlanks text rest
spaces_skipped text rest h =
    let e : encode_utf8_all h.2.0 ++ rest ≡ text =
    ap (λ t. t ++ rest) h.2.1 ∙ (ap (λ t. take h.0 text ++ t) h.1 ∙ take-append-drop h.0 text) in
    subst (λ t. HasBlanks t rest) e (spaces_blank h.2.0 rest h.2.2)

-- ---- comments

both_true_of : (a b : Bool) → (a && b) ≡ true → (a ≡ true) × (b ≡ true)
both_true_of true b h = (refl, h)
both_true_of false b h = absurd (false≢true h)

pub two_slashes : (text : List ℕ) → starts_with eqb text (47 ∷ 47 ∷ []) ≡ true → BeginsComment text
two_slashes [] h = absurd (false≢true h)
two_slashes (x ∷ []) h = absurd (false≢true (both_true_of (eqb 47 x) false h).1)
two_slashes (x ∷ y ∷ r) h =
    let a = both_true_of (eqb 47 x) (eqb 47 y && true) h in
    let b = both_true_of (eqb 47 y) true a.1 in
    (r, ap (λ c. c ∷ y ∷ r) (sym (eqb-true 47 x a.0)) ∙ ap (λ c. 47 ∷ c ∷ r) (sym (eqb-true 47 y b.0)))

-- what ends a line is of ASCII, and no slash
pub end_is_low : (c : ℕ) → ends_line c ≡ true → c < 128
end_is_low c e = grind (arith, nat_tests, e)

no_slash : (c : ℕ) → ends_line c ≡ true → c ≡ 47 → ⊥
no_slash c e is = false≢true (ap ends_line (sym is) ∙ e)

-- the line of a text that begins with two slashes does
line_begins : (line : List ℕ) (c : ℕ) (later : List ℕ) → ends_line c ≡ true → BeginsComment (line ++ (c ∷ later)) → BeginsComment line
line_begins [] c later e h = absurd (no_slash c e (ap (λ t. get_or t 0 0) h.1))
line_begins (x ∷ []) c later e h = absurd (no_slash c e (ap (λ t. get_or t 1 0) h.1))
line_begins (x ∷ y ∷ body) c later e h =
    (body, ap (λ c. c ∷ y ∷ body) (ap (λ t. get_or t 0 0) h.1) ∙ ap (λ c. 47 ∷ c ∷ body) (ap (λ t. get_or t 1 0) h.1))

line_skipped : (text later : List ℕ) → BeginsComment text → IsBehindLine text later → HasBlanks text later
line_skipped text later begins h =
    ⊎_elim (λ e.
    subst (λ t. HasBlanks t later) (sym e.2)
    (comment h.0 e.0 later later (line_begins h.0 e.0 later e.1 (subst BeginsComment e.2 begins)) h.1 e.1 (nothing later)))
    (λ e. subst (λ r. HasBlanks text r) (sym e.1) (last_comment text begins (subst IsInLine (sym e.0) h.1)))
    h.2

pub line_shorter : (text later : List ℕ) → 0 < length text → IsBehindLine text later → length later < length text
line_shorter text later some h =
    ⊎_elim (λ e. let l = parts_length text h.0 (e.0 ∷ later) e.2 in omega arith)
    (λ e. let l : length later ≡ 0 = ap length e.1 in omega arith)
    h.2

pub comment_some : (text : List ℕ) → BeginsComment text → 0 < length text
comment_some text h = let e : length text ≡ length (47 ∷ 47 ∷ h.0) = ap length h.1 in omega arith

-- a comment and what is blank behind it
pub comment_skipped : (text rest later next : List ℕ) → HasBlanks text rest → BeginsComment rest → IsBehindLine rest later
    → HasBlanks later next → HasBlanks text next
comment_skipped text rest later next before begins behind s =
    blanks_go_on before next (blanks_go_on (line_skipped rest later begins behind) next s)

pub slashes_begin : (text : List ℕ) → BeginsComment text → starts_with eqb text (47 ∷ 47 ∷ []) ≡ true
slashes_begin text h = subst (λ t. starts_with eqb t (47 ∷ 47 ∷ []) ≡ true) (sym h.1) (both_slashes h.0)
  where
    both_slashes : (more : List ℕ) → starts_with eqb (47 ∷ 47 ∷ more) (47 ∷ 47 ∷ []) ≡ true
    both_slashes more = refl

-- ---- no blank is left

space_passes : (c : ℕ) → is_not_whitespace c ≡ true → is_whitespace c ≡ true → ⊥
space_passes c h k = false≢true (sym (ap not k) ∙ h)

pub no_space_left : (text rest : List ℕ) → IsTrimStart text rest → HasNoSpace rest
no_space_left text rest h c later w e =
    let l = length-append (encode_utf8 c) later in
    let some : 0 < length (encode_utf8 c) = omega (arith, length-encode c, (len_utf8_bounds c).0) in
    let first = h.3.1 (omega (arith, ap length e)) in
    let same = encode_same first.0 c h.3.0 later (sym first.2 ∙ e) in
    space_passes first.0 first.1 (subst (λ d. is_whitespace d ≡ true) (sym same.0) w)

-- a comment that something follows is one
pub comment_followed : (line more : List ℕ) → BeginsComment line → BeginsComment (line ++ more)
comment_followed line more h = (h.0 ++ more, ap (λ t. t ++ more) h.1)

pub no_blank_left : {text rest : List ℕ} → HasBlanks text rest → HasNoSpace text → (BeginsComment text → ⊥) → rest ≡ text
no_blank_left (nothing text) s k = refl
no_blank_left (space c text rest w h) s k = absurd (s c text w refl)
no_blank_left (comment line c text rest b i e h) s k = absurd (k (comment_followed line (c ∷ text) b))
no_blank_left (last_comment line b i) s k = absurd (k b)

-- ---- lines

-- what `split_once` says of the first character that ends a line
pub line_found : (text front later : List ℕ)
    → (i : ℕ) × (j : ℕ) × FindsBy ends_line text (Some (i, j)) × (front ≡ take i text) × (later ≡ drop j text)
    × (i ≤ j) × (length front ≡ i) × (length later + j ≡ length text)
    → IsBehindLine text later
line_found text front later h =
    let end = h.2.1 in
    let split = drop_at_char end.0 text h.0 h.1 end.2 (end_is_low end.0 end.1) in (
      take h.0 text,
      h.2.0,
      inl (end.0, end.1, sym (take-append-drop h.0 text) ∙ ap (λ t. take h.0 text ++ t) (split ∙ ap (λ t. end.0 ∷ t) (sym h.4))),
    )

pub no_line_found : (text later : List ℕ) → FindsBy ends_line text None → later ≡ [] → IsBehindLine text later
no_line_found text later h e = (text, h, inr (refl, e))
