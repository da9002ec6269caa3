-- Expressions put behind nodes.
use Rattle.std.proofs.Common.{◌≡◌, ◌<◌, ◌≤◌, ◌+◌, ◌++◌, ℕ, List, [], ◌∷◌, map, take, length, refl, sym, ap, ◌∙◌, get_or}
use Rattle.std.proofs.lemmas.List.{append_assoc, append-nil, map-append, take_all, take_more}
use Rattle.cedar_exprs.specs.BareExpr.{bare_expr}
use Rattle.cedar_exprs.specs.declared.expr.Expr.{Expr}
use Rattle.cedar_conditions.specs.Nodes.{ArePushed, placed, shown}
use Rattle.cedar_conditions.specs.declared.size.Node.{Node}

-- some and then others
pub then_pushed : (d : ℕ) (es fs : List (Expr Unit)) (old mid new : List Node)
    → ArePushed d es old mid → ArePushed d fs mid new → ArePushed d (es ++ fs) old new
then_pushed d es fs old mid new first second =
    second ∙ ap (λ xs. xs ++ placed d fs) first
    ∙ append_assoc (map shown old) (placed d es) (placed d fs)
    ∙ ap (λ xs. map shown old ++ xs) (sym (map-append (λ e. (d, bare_expr e)) es fs))

-- one more of a row
pub row_next : (d : ℕ) (row : List (Expr Unit)) (i : ℕ) (x : Expr Unit) (old mid new : List Node)
    → i < length row → x ≡ get_or row i x → ArePushed d (take i row) old mid
    → ArePushed d (x ∷ []) mid new → ArePushed d (take (i + 1) row) old new
row_next d row i x old mid new lt is first second =
    then_pushed d (take i row) (x ∷ []) old mid new first second
    ∙ ap (λ xs. map shown old ++ placed d xs)
    (ap (λ y. take i row ++ (y ∷ [])) is ∙ sym (take_more row i x lt))

pub row_ends : (d : ℕ) (row : List (Expr Unit)) (i : ℕ) (old new : List Node) → length row ≤ i
    → ArePushed d (take i row) old new → ArePushed d row old new
row_ends d row i old new le h = h ∙ ap (λ xs. map shown old ++ placed d xs) (take_all i row le)

pub none_pushed : (d : ℕ) (old : List Node) → ArePushed d [] old old
none_pushed d old = sym (append-nil (map shown old))

-- what was put behind the nodes, and what is left, make the whole
abbrev pub ArePushedWith : ℕ → List (Expr Unit) → List (Expr Unit) → List Node → List Node → Type 0
ArePushedWith d left es old new =
    map shown new ++ placed d left ≡ map shown old ++ placed d es

pub left_next : (d : ℕ) (left rest es : List (Expr Unit)) (x : Expr Unit) (old mid new : List Node)
    → left ≡ x ∷ rest → ArePushed d (x ∷ []) mid new → ArePushedWith d left es old mid
    → ArePushedWith d rest es old new
left_next d left rest es x old mid new is pushed h =
    ap (λ xs. xs ++ placed d rest) pushed
    ∙ append_assoc (map shown mid) ((d, bare_expr x) ∷ []) (placed d rest)
    ∙ ap (λ xs. map shown mid ++ placed d xs) (sym is) ∙ h

pub left_ends : (d : ℕ) (left es : List (Expr Unit)) (old new : List Node) → left ≡ []
    → ArePushedWith d left es old new → ArePushed d es old new
left_ends d left es old new is h =
    sym (append-nil (map shown new)) ∙ ap (λ xs. map shown new ++ placed d xs) (sym is) ∙ h
