-- What stands between quotes stands for one text, or one pattern.
use Rattle.std.proofs.Common.{◌≡◌, ℕ, List, [], ◌∷◌, ◌++◌, Some, map, refl, sym, ◌∙◌, ap, subst}
use Rattle.cedar_terms.specs.declared.pattern.PatternElem.{PatternElem}
use Rattle.cedar_lexer.specs.Escapes.{ArePieces, IsInsideOfPattern, IsInsideOfText, IsPieceText, piece_elem}
use Rattle.cedar_lexer.specs.FirstPieces.{piece_at}
use Rattle.cedar_lexer.specs.declared.escapes.Piece.{Piece}
use Rattle.cedar_lexer.specs.declared.escapes.Piece.TheVariants.{Char, Star}
use Rattle.cedar_lexer.proofs.FirstPieceLemmas.{piece_read, same_pair, none_some}

begins : (t w rest : List ℕ) (p : Piece) → t ≡ w ++ rest → IsPieceText w p → piece_at t ≡ Some (p, rest)
begins t w rest p e h = subst (λ t. piece_at t ≡ Some (p, rest)) (sym e) (piece_read w p rest h)

nothing_begins : (p : Piece) (r : List ℕ) → piece_at [] ≡ Some (p, r) → ⊥
unfolding piece_at
nothing_begins p r h = none_some (p, r) h

nothing_begins_in : (t : List ℕ) (p : Piece) (r : List ℕ) → t ≡ [] → piece_at t ≡ Some (p, r) → ⊥
nothing_begins_in t p r e h = nothing_begins p r (subst (λ t. piece_at t ≡ Some (p, r)) e h)

pieces_once : (t : List ℕ) (ps qs : List Piece) → ArePieces t ps → ArePieces t qs → ps ≡ qs
pieces_once t [] [] h k = refl
pieces_once t [] (q ∷ qs) h k = absurd (nothing_begins_in t q k.1 h (begins t k.0 k.1 q k.2 k.3))
pieces_once t (p ∷ ps) [] h k = absurd (nothing_begins_in t p h.1 k (begins t h.0 h.1 p h.2 h.3))
pieces_once t (p ∷ ps) (q ∷ qs) h k =
    let e = same_pair p q h.1 k.1 (sym (begins t h.0 h.1 p h.2 h.3) ∙ begins t k.0 k.1 q k.2 k.3) in
    let f = pieces_once h.1 ps qs h.4 (subst (λ r. ArePieces r qs) (sym e.1) k.4) in
    ap (λ x. x ∷ ps) e.0 ∙ ap (λ xs. q ∷ xs) f

abbrev character : Piece → ℕ
character (Char c) = c
character Star = 0

characters_back : (cs : List ℕ) → map character (map Char cs) ≡ cs
characters_back [] = refl
characters_back (c ∷ cs) = ap (λ xs. c ∷ xs) (characters_back cs)

pub one_text : (inside cs ds : List ℕ) → IsInsideOfText inside cs → IsInsideOfText inside ds → cs ≡ ds
one_text inside cs ds h k =
    sym (characters_back cs) ∙ (ap (map character) (pieces_once inside (map Char cs) (map Char ds) h k) ∙ characters_back ds)

pub one_pattern : (inside : List ℕ) (es fs : List PatternElem) → IsInsideOfPattern inside es → IsInsideOfPattern inside fs → es ≡ fs
one_pattern inside es fs h k = sym h.1 ∙ (ap (map piece_elem) (pieces_once inside h.0 k.0 h.2 k.2) ∙ k.1)
