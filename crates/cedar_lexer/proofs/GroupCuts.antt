-- Where a group of tokens ends.
use Rattle.std.proofs.Common.{◌≡◌, ◌≤◌, ◌<◌, ◌+◌, ◌-◌, ℕ, zero, suc, Bool, if◌then◌else◌, true, false, List, [], ◌∷◌, drop, get_or, length, map, refl, sym, ◌∙◌, ap, subst, arith}
use Rattle.std.proofs.lemmas.Bool.{false≢true}
use Rattle.std.proofs.lemmas.List.{drop_more}
use Rattle.cedar_lexer.specs.Groups.{IsGroupEnd, Passes, passed, single, pair, closes, depth_behind, ends, kinds_of, opens}
use Rattle.cedar_lexer.specs.declared.token.Token.{Token}
use Rattle.cedar_lexer.specs.declared.token.TokenKind.{TokenKind}
use Rattle.cedar_lexer.specs.declared.token.TokenKind.TheVariants as kinds

-- so many brackets are open: each is closed in turn, and then the tokens pass on to the rest
pub data Deep (comma : Bool) : ℕ → List TokenKind → List TokenKind → Type 0 where
  outside : {ks rest : List TokenKind} → Passes comma ks rest → Deep comma 0 ks rest
  inside : {n : ℕ} {c : TokenKind} {ks ls rest : List TokenKind} → Passes false ks (c ∷ ls) → closes c ≡ true → Deep comma n ls rest
      → Deep comma (suc n) ks rest

-- a bracket that opens ends no group, and is none that closes
no_end : (comma : Bool) (k : TokenKind) → opens k ≡ true → ends comma k ≡ false
no_end comma kinds.OpenRound h = refl
no_end comma kinds.OpenSquare h = refl
no_end comma kinds.OpenCurly h = refl
no_end comma k h = cc

opens_none : (k : TokenKind) → closes k ≡ true → opens k ≡ false
opens_none kinds.CloseRound h = refl
opens_none kinds.CloseSquare h = refl
opens_none kinds.CloseCurly h = refl
opens_none k h = cc

-- what ends no group is no bracket that closes
closes_none : (comma : Bool) (k : TokenKind) → ends comma k ≡ false → closes k ≡ false
closes_none comma kinds.CloseRound h = cc
closes_none comma kinds.CloseSquare h = cc
closes_none comma kinds.CloseCurly h = cc
closes_none comma k h = refl

depth_other : (comma : Bool) (k : TokenKind) (n : ℕ) → opens k ≡ false → ends comma k ≡ false → depth_behind k n ≡ n
depth_other comma k n o e = rw (o, closes_none comma k e) refl

depth_open : (k : TokenKind) (n : ℕ) → opens k ≡ true → depth_behind k n ≡ suc n
depth_open k n o = rw o refl

depth_close : (k : TokenKind) (n : ℕ) → closes k ≡ true → depth_behind k (suc n) ≡ n
depth_close k n h = rw (opens_none k h, h) (omega arith)

not_both : {A : Type 0} (b : Bool) → b ≡ true → b ≡ false → A
not_both b h i = absurd (false≢true (sym i ∙ h))

-- one token on, outside brackets
out_more : (comma : Bool) (k : TokenKind) (ks rest : List TokenKind) → ends comma k ≡ false → IsGroupEnd comma rest → Passes comma (k ∷ ks) rest
    → Deep comma (depth_behind k 0) ks rest
out_more comma k ks rest e end passed = not_both (ends comma k) end e
out_more comma k ks rest e end (single o f p) = subst (λ n. Deep comma n ks rest) (sym (depth_other comma k 0 o f)) (outside p)
out_more comma k ks rest e end (pair o p c q) = subst (λ n. Deep comma n ks rest) (sym (depth_open k 0 o)) (inside p c (outside q))

-- one token on, inside brackets
in_more : (comma : Bool) (k c : TokenKind) (ks ls rest : List TokenKind) (n : ℕ) → closes c ≡ true → Deep comma n ls rest → Passes false (k ∷ ks) (c ∷ ls)
    → Deep comma (depth_behind k (suc n)) ks rest
in_more comma k c ks ls rest n h d passed = subst (λ m. Deep comma m ks rest) (sym (depth_close k n h)) d
in_more comma k c ks ls rest n h d (single o f p) = subst (λ m. Deep comma m ks rest) (sym (depth_other false k (suc n) o f)) (inside p h d)
in_more comma k c ks ls rest n h d (pair o p b q) = subst (λ m. Deep comma m ks rest) (sym (depth_open k (suc n) o)) (inside p b (inside q h d))

pub one_more : (comma : Bool) (k : TokenKind) (ks rest : List TokenKind) (n : ℕ) → (n ≡ 0 → ends comma k ≡ false) → IsGroupEnd comma rest
    → Deep comma n (k ∷ ks) rest → Deep comma (depth_behind k n) ks rest
one_more comma k ks rest zero e end (outside p) = out_more comma k ks rest (e refl) end p
one_more comma k ks rest (suc n) e end (inside p c d) = in_more comma k _ ks _ rest n c d p

-- the group ends here
cut_out : (comma : Bool) (k : TokenKind) (ks rest : List TokenKind) → ends comma k ≡ true → Passes comma (k ∷ ks) rest → k ∷ ks ≡ rest
cut_out comma k ks rest e passed = refl
cut_out comma k ks rest e (single o f p) = not_both (ends comma k) e f
cut_out comma k ks rest e (pair o p c q) = not_both (ends comma k) e (no_end comma k o)

pub cut_here : (comma : Bool) (k : TokenKind) (ks rest : List TokenKind) → ends comma k ≡ true → Deep comma 0 (k ∷ ks) rest → k ∷ ks ≡ rest
cut_here comma k ks rest e (outside p) = cut_out comma k ks rest e p

none_left : {c : TokenKind} {ls : List TokenKind} → Passes false [] (c ∷ ls) → ⊥
none_left p = elim p [ ]

at_end : (comma : Bool) (rest : List TokenKind) → Passes comma [] rest → [] ≡ rest
at_end comma rest passed = refl

pub cut_end : (comma : Bool) (n : ℕ) (rest : List TokenKind) → Deep comma n [] rest → [] ≡ rest
cut_end comma zero rest (outside p) = at_end comma rest p
cut_end comma (suc n) rest (inside p c d) = absurd (none_left p)

-- ---- the same of tokens

bound_of : (a b : Bool) (n m : ℕ) → n ≤ m → (if a then suc n else (if b then n - 1 else n)) ≤ m + 1
bound_of true b n m h = omega (arith, h)
bound_of false true n m h = omega (arith, h)
bound_of false false n m h = omega (arith, h)

pub depth_bound : (k : TokenKind) (n m : ℕ) → n ≤ m → depth_behind k n ≤ m + 1
depth_bound k n m h = bound_of (opens k) (closes k) n m h

pub more_at : (comma : Bool) (ts : List Token) (i n : ℕ) (d : Token) (rest : List TokenKind) → i < length ts
    → (n ≡ 0 → ends comma (get_or ts i d).kind ≡ false) → IsGroupEnd comma rest → Deep comma n (kinds_of (drop i ts)) rest
    → Deep comma (depth_behind (get_or ts i d).kind n) (kinds_of (drop (i + 1) ts)) rest
more_at comma ts i n d rest lt e end h =
    one_more comma (get_or ts i d).kind (kinds_of (drop (i + 1) ts)) rest n e end
    (subst (λ ks. Deep comma n ks rest) (ap kinds_of (drop_more ts i d lt)) h)

pub cut_at : (comma : Bool) (ts : List Token) (i : ℕ) (d : Token) (rest : List TokenKind) → i < length ts → ends comma (get_or ts i d).kind ≡ true
    → Deep comma 0 (kinds_of (drop i ts)) rest → kinds_of (drop i ts) ≡ rest
cut_at comma ts i d rest lt e h =
    let split : kinds_of (drop i ts) ≡ (get_or ts i d).kind ∷ kinds_of (drop (i + 1) ts) = ap kinds_of (drop_more ts i d lt) in
    split ∙ cut_here comma (get_or ts i d).kind (kinds_of (drop (i + 1) ts)) rest e (subst (λ ks. Deep comma 0 ks rest) split h)
