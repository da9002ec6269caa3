-- The pieces of a text, read one by one.
use Rattle.std.proofs.Common.{◌≡◌, ℕ, List, [], ◌∷◌, ◌++◌, Some, None, map, refl, sym, ◌∙◌, ap, subst, append_assoc, length, ◌<◌, arith}
use Rattle.std.proofs.lemmas.List.{map-append, nil_from_length}
use Rattle.std.specs.Prelude.{◌↔◌}
use Rattle.std.specs.Char.{encode_utf8}
use Rattle.std.specs.Str.{IsUtf8, chars, encode_utf8_all}
use Rattle.std.specs.Option.{unwrap_or}
use Rattle.std.proofs.lemmas.Str.{chars-nil, encodes-append, encodes-chars, encodes_same}
use mathlib.Core.List.{append-nil}
use Rattle.cedar_terms.specs.declared.pattern.PatternElem.{PatternElem}
use Rattle.cedar_lexer.specs.Escapes.{ArePieces, IsInsideOfText, piece_elem}
use Rattle.cedar_lexer.specs.FirstPieces.{piece_at}
use Rattle.cedar_lexer.specs.Readings.{IsAnswerOfPattern, IsAnswerOfText, IsPatternSoFar, IsReadUpTo, IsTextSoFar}
use Rattle.cedar_lexer.specs.declared.escapes.Piece.{Piece}
use Rattle.cedar_lexer.specs.declared.escapes.Piece.TheVariants.{Char, Star}
use Rattle.cedar_lexer.proofs.FirstPieceLemmas.{found, piece_read, piece_sound, same_pair, none_some}

assoc : (xs ys zs : List Piece) → (xs ++ ys) ++ zs ≡ xs ++ (ys ++ zs)
assoc xs ys zs = simp append_assoc

-- ---- one piece more

-- a text that begins with the piece p
abbrev Begins : List ℕ → Piece → List ℕ → Type 0
Begins text p r = piece_at text ≡ Some (p, r)

nothing_begins : (p : Piece) (r : List ℕ) → piece_at [] ≡ Some (p, r) → ⊥
unfolding piece_at
nothing_begins p r h = none_some (p, r) h

-- what is written in front of other pieces is what the text begins with
first_is : (text : List ℕ) (q : Piece) (qs : List Piece) → ArePieces text (q ∷ qs)
    → (r : List ℕ) × Begins text q r × ArePieces r qs
first_is text q qs h = (h.1, subst (λ t. Begins t q h.1) (sym h.2) (piece_read h.0 q h.1 h.3), h.4)

pieces_from : (rest : List ℕ) (p : Piece) (r : List ℕ) (qs : List Piece) → Begins rest p r → ArePieces rest qs
    → (rs : List Piece) × (qs ≡ p ∷ rs) × ArePieces r rs
pieces_from rest p r [] b h = absurd (nothing_begins p r (subst (λ t. Begins t p r) h b))
pieces_from rest p r (q ∷ qs) b h =
    let f = first_is rest q qs h in
    let s = same_pair q p f.0 r (sym f.1 ∙ b) in
    (qs, ap (λ x. x ∷ qs) s.0, subst (λ t. ArePieces t qs) s.1 f.2)

pieces_onto : (rest : List ℕ) (p : Piece) (r : List ℕ) (rs : List Piece) → Begins rest p r → ArePieces r rs → ArePieces rest (p ∷ rs)
pieces_onto rest p r rs b h =
    let s = piece_sound rest p r b in
    (s.0, r, s.1, s.2, h)

pub read_none : (text : List ℕ) → IsReadUpTo text [] text
read_none text ps = (λ h. (ps, refl, h), λ h. subst (λ qs. ArePieces text qs) (sym h.1) h.2)

pub read_more : (text : List ℕ) (done : List Piece) (rest : List ℕ) (p : Piece) (r : List ℕ)
    → IsReadUpTo text done rest → piece_at rest ≡ Some (p, r) → IsReadUpTo text (done ++ (p ∷ [])) r
read_more text done rest p r before b ps = (
  λ h.
      let o = (before ps).0 h in
      let n = pieces_from rest p r o.0 b o.2 in
      (n.0, o.1 ∙ (ap (λ qs. done ++ qs) n.1 ∙ sym (assoc done (p ∷ []) n.0)), n.2),
  λ h.
      (before ps).1 (p ∷ h.0, h.1 ∙ assoc done (p ∷ []) h.0, pieces_onto rest p r h.0 b h.2),
)

-- ---- at the end

pub read_all : (text : List ℕ) (done ps : List Piece) → IsReadUpTo text done [] → ArePieces text ps ↔ (ps ≡ done)
read_all text done ps before = (
  λ h.
      let o = (before ps).0 h in
      o.1 ∙ (ap (λ qs. done ++ qs) (no_piece o.0 o.2) ∙ append-nil done),
  λ e. (before ps).1 ([], e ∙ sym (append-nil done), refl),
)
  where
    no_piece : (qs : List Piece) → ArePieces [] qs → qs ≡ []
    no_piece [] h = refl
    no_piece (q ∷ qs) h = let f = first_is [] q qs h in absurd (nothing_begins q f.0 f.1)

pub read_stuck : (text : List ℕ) (done : List Piece) (rest : List ℕ) (ps : List Piece) → IsReadUpTo text done rest
    → (rest ≡ [] → ⊥) → piece_at rest ≡ None → ArePieces text ps → ⊥
read_stuck text done rest ps before some none h = stuck ((before ps).0 h).0 ((before ps).0 h).2
  where
    stuck : (qs : List Piece) → ArePieces rest qs → ⊥
    stuck [] k = some k
    stuck (q ∷ qs) k = let f = first_is rest q qs k in absurd (none_some (q, f.0) (sym none ∙ f.1))

-- ---- texts

same_chars : (cs ds : List ℕ) → map Char cs ≡ map Char ds → cs ≡ ds
same_chars [] [] e = refl
same_chars [] (d ∷ ds) e = cc
same_chars (c ∷ cs) [] e = cc
same_chars (c ∷ cs) (d ∷ ds) e =
    let h : c ≡ d = cc in
    let t : map Char cs ≡ map Char ds = cc in
    let k : cs ≡ ds = same_chars cs ds t in
    cc

same_some : {A : Type 0} (a b : A) → Some a ≡ Some b → a ≡ b
same_some {A} a b e = ap (λ o. unwrap_or {T = A} o a) e

text_read : (inside done bs cs : List ℕ) → bs ≡ encode_utf8_all done → IsReadUpTo inside (map Char done) []
    → IsInsideOfText inside cs ↔ (Some bs ≡ Some (encode_utf8_all cs))
text_read inside done bs cs e before =
    let all = read_all inside (map Char done) (map Char cs) before in (
      λ h. ap (λ b. Some b) (e ∙ ap encode_utf8_all (sym (same_chars cs done (all.0 h)))),
      λ h. all.1 (ap (map Char) (encodes_same cs done (sym (same_some bs (encode_utf8_all cs) h) ∙ e))),
    )

-- what is left of no bytes
nothing_left : (rest : List ℕ) → length rest ≡ 0 → chars rest ≡ []
nothing_left rest e = ap chars (nil_from_length rest e) ∙ chars-nil

something_left : (rest : List ℕ) → IsUtf8 rest → 0 < length rest → chars rest ≡ [] → ⊥
something_left rest u some e =
    let none : length rest ≡ 0 = ap length (sym (encodes-chars rest u) ∙ ap encode_utf8_all e) in
    absurd (omega arith)

pub text_begins : (inside bytes : List ℕ) → bytes ≡ [] → IsTextSoFar inside bytes inside
text_begins inside bytes e = ([], e, read_none inside)

pub text_goes_on : (inside bytes new rest r : List ℕ) (c : ℕ) → IsTextSoFar inside bytes rest
    → found (Char c) r ≡ piece_at rest → new ≡ bytes ++ encode_utf8 c → IsTextSoFar inside new r
text_goes_on inside bytes new rest r c before b e = (
  before.0 ++ (c ∷ []),
  e ∙ (ap (λ t. t ++ encode_utf8 c) before.1 ∙ (ap (λ t. encode_utf8_all before.0 ++ t) (sym (append-nil (encode_utf8 c)))
      ∙ sym (encodes-append before.0 (c ∷ [])))),
  subst (λ ps. IsReadUpTo inside ps r) (one_more before.0) (read_more inside (map Char before.0) rest (Char c) r before.2 (sym b)),
)
  where
    one_more : (cs : List ℕ) → map Char cs ++ (Char c ∷ []) ≡ map Char (cs ++ (c ∷ []))
    one_more cs = simp map-append

pub text_ends : (inside bytes rest : List ℕ) → IsTextSoFar inside bytes (chars rest) → length rest ≡ 0 → IsAnswerOfText inside (Some bytes)
text_ends inside bytes rest before e cs =
    text_read inside before.0 bytes cs before.1 (subst (λ r. IsReadUpTo inside (map Char before.0) r) (nothing_left rest e) before.2)

pub text_stops : (inside bytes rest : List ℕ) → IsTextSoFar inside bytes (chars rest) → IsUtf8 rest → 0 < length rest
    → None ≡ piece_at (chars rest) → IsAnswerOfText inside None
text_stops inside bytes rest before u some none cs = (
  λ h. absurd (read_stuck inside (map Char before.0) (chars rest) (map Char cs) before.2 (something_left rest u some) (sym none) h),
  λ h. absurd (none_some (encode_utf8_all cs) h),
)

-- a star is no character
no_star : (done qs : List Piece) (cs : List ℕ) → map Char cs ≡ done ++ (Star ∷ qs) → ⊥
no_star [] qs [] e = cc
no_star [] qs (c ∷ cs) e = let h : Char c ≡ Star = cc in cc
no_star (p ∷ done) qs [] e = cc
no_star (p ∷ done) qs (c ∷ cs) e = let t : map Char cs ≡ done ++ (Star ∷ qs) = cc in no_star done qs cs t

pub text_has_star : (inside bytes rest r : List ℕ) → IsTextSoFar inside bytes rest → found Star r ≡ piece_at rest → IsAnswerOfText inside None
text_has_star inside bytes rest r before b cs = (
  λ h.
      let o = (before.2 (map Char cs)).0 h in
      let n = pieces_from rest Star r o.0 (sym b) o.2 in
      absurd (no_star (map Char before.0) n.0 cs (o.1 ∙ ap (λ qs. map Char before.0 ++ qs) n.1)),
  λ h. absurd (none_some (encode_utf8_all cs) h),
)

-- ---- patterns

pub pattern_begins : (inside : List ℕ) (es : List PatternElem) → es ≡ [] → IsPatternSoFar inside es inside
pattern_begins inside es e = ([], e, read_none inside)

pub pattern_goes_on : (inside : List ℕ) (es new : List PatternElem) (rest r : List ℕ) (p : Piece) → IsPatternSoFar inside es rest
    → found p r ≡ piece_at rest → new ≡ es ++ (piece_elem p ∷ []) → IsPatternSoFar inside new r
pattern_goes_on inside es new rest r p before b e = (
  before.0 ++ (p ∷ []),
  e ∙ (ap (λ t. t ++ (piece_elem p ∷ [])) before.1 ∙ one_more before.0),
  read_more inside before.0 rest p r before.2 (sym b),
)
  where
    one_more : (ps : List Piece) → map piece_elem ps ++ (piece_elem p ∷ []) ≡ map piece_elem (ps ++ (p ∷ []))
    one_more ps = simp map-append

pub pattern_ends : (inside : List ℕ) (es : List PatternElem) (rest : List ℕ) → IsPatternSoFar inside es (chars rest) → length rest ≡ 0
    → IsAnswerOfPattern inside (Some es)
pattern_ends inside es rest before e given =
    let whole = subst (λ r. IsReadUpTo inside before.0 r) (nothing_left rest e) before.2 in (
      λ h. ap (λ x. Some x) (before.1 ∙ (ap (map piece_elem) (sym ((read_all inside before.0 h.0 whole).0 h.2)) ∙ h.1)),
      λ h. (before.0, sym before.1 ∙ same_some es given h, (read_all inside before.0 before.0 whole).1 refl),
    )

pub pattern_stops : (inside : List ℕ) (es : List PatternElem) (rest : List ℕ) → IsPatternSoFar inside es (chars rest) → IsUtf8 rest
    → 0 < length rest → None ≡ piece_at (chars rest) → IsAnswerOfPattern inside None
pattern_stops inside es rest before u some none given = (
  λ h. absurd (read_stuck inside before.0 (chars rest) h.0 before.2 (something_left rest u some) (sym none) h.2),
  λ h. absurd (none_some given h),
)
