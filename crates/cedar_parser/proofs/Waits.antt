-- What waits, as one more comes or goes, and what it makes of its last operand.
use Rattle.std.proofs.Common.{◌≡◌, ◌<◌, ◌≤◌, ◌+◌, ℕ, suc, List, [], ◌∷◌, ◌++◌, Option, Some, None, refl, sym, subst, arith}
use Rattle.cedar_terms.specs.declared.ops.BinaryOp.TheVariants as Binary
use Rattle.cedar_terms.specs.declared.ops.UnaryOp.{UnaryOp}
use Rattle.cedar_terms.specs.declared.ops.UnaryOp.TheVariants as Unary
use Rattle.cedar_builders.specs.BareExpr.{BareExpr, If, And, UnaryApp, BinaryApp, Is}
use Rattle.cedar_terms.specs.Precedences.{precedence_number}
use Rattle.cedar_terms.specs.declared.precedence.Precedence.{Precedence}
use Rattle.cedar_terms.specs.declared.precedence.Precedence.TheVariants as precedences
use Rattle.cedar_lexer.specs.declared.token.TokenKind.{TokenKind}
use Rattle.cedar_lexer.specs.declared.token.TokenKind.TheVariants as kinds
use Rattle.semantics_grammar.specs.Lexemes.{Lexeme, lexeme}
use Rattle.semantics_grammar.specs.Grammar as g
use Rattle.semantics_grammar.specs.Grammar.{Reads, conditional, no_conditional, disjunction, conjunction, relation, sum, product, no_sign, nots, minuses, member, GoesOn, no_operator, or, and, plus, minus, times, Tests, no_test, equal, not_equal, less, less_equal, greater, greater_equal, is_in, Nots, last_not, more_nots, Minuses, last_minus, negative, more_minuses, Accesses, no_access, attribute, index, method, Primary}
use Rattle.cedar_parser.specs.Waiting.{Operator, operator_precedences, operator_tree, Waiting, sign, between, is_of_in, otherwise, waiting_tree, waiting_precedence, least_operand, StandsOn, last_of, Group}
use Rattle.cedar_parser.specs.SoFar.{AreSigns, IsSigned, IsOperand, IsSign, IsWaiting, AreWaiting, IsGroup, AreGroups}
use Rattle.cedar_parser.proofs.Levels.{loosened}
use Rattle.cedar_parser.proofs.Operators.{applies, operator_small, last_small}

-- ---- one more, and one less

pub pushed : (below : Option Waiting) (ts : List Lexeme) (ws : List Waiting) (w : Waiting) (mid rest : List Lexeme) → AreWaiting below ts ws mid
    → StandsOn (last_of below ws) w → IsWaiting mid w rest → AreWaiting below ts (ws ++ (w ∷ [])) rest
pushed below ts [] w mid rest h s k = (rest, s, subst (λ t. IsWaiting t w rest) (sym h) k, refl)
pushed below ts (v ∷ ws) w mid rest h s k = (h.0, h.1, h.2, pushed (Some v) h.0 ws w mid rest h.3 s k)

pub popped : (below : Option Waiting) (ts : List Lexeme) (ws : List Waiting) (w : Waiting) (rest : List Lexeme) → AreWaiting below ts (ws ++ (w ∷ [])) rest
    → (mid : List Lexeme) × AreWaiting below ts ws mid × StandsOn (last_of below ws) w × IsWaiting mid w rest
popped below ts [] w rest h = (ts, refl, h.1, subst (λ r. IsWaiting ts w r) h.3 h.2)
popped below ts (v ∷ ws) w rest h = let k = popped (Some v) h.0 ws w rest h.3 in (k.0, (h.0, h.1, h.2, k.1), k.2, k.3)

pub last_is : (below : Option Waiting) (ws : List Waiting) (w : Waiting) → last_of below (ws ++ (w ∷ [])) ≡ Some w
last_is below [] w = refl
last_is below (v ∷ ws) w = last_is (Some v) ws w

pub group_pushed : (ts : List Lexeme) (gs : List Group) (g : Group) (mid rest : List Lexeme) → AreGroups ts gs mid → IsGroup mid g rest
    → AreGroups ts (gs ++ (g ∷ [])) rest
group_pushed ts [] g mid rest h k = (rest, subst (λ t. IsGroup t g rest) (sym h) k, refl)
group_pushed ts (f ∷ gs) g mid rest h k = (h.0, h.1, group_pushed h.0 gs g mid rest h.2 k)

pub group_popped : (ts : List Lexeme) (gs : List Group) (g : Group) (rest : List Lexeme) → AreGroups ts (gs ++ (g ∷ [])) rest
    → (mid : List Lexeme) × AreGroups ts gs mid × IsGroup mid g rest
group_popped ts [] g rest h = (ts, refl, subst (λ r. IsGroup ts g r) h.2 h.1)
group_popped ts (f ∷ gs) g rest h = let k = group_popped h.0 gs g rest h.2 in (k.0, (h.0, h.1, k.1), k.2)

-- ---- signs

-- one sign more
sign_more : (op : UnaryOp) (before : ℕ) (l : Precedence) (k : TokenKind) (w : List ℕ) (ts rest : List Lexeme) (e : BareExpr) → IsSign op k → before < 4
    → IsSigned op before l ts e rest → (n : ℕ) × (n + before < 5) × AreSigns op n (lexeme k w ∷ ts) (UnaryApp op e) rest
sign_more Unary.Not before precedences.Member k w ts rest e s b h =
    (1, omega (arith, b), subst (λ k. Nots 1 (lexeme k w ∷ ts) (UnaryApp Unary.Not e) rest) (sym s) (last_not h.0))
sign_more Unary.Not before precedences.Unary k w ts rest e s b h =
    (suc h.0, omega (arith, h.1), subst (λ k. Nots (suc h.0) (lexeme k w ∷ ts) (UnaryApp Unary.Not e) rest) (sym s) (more_nots h.2))
sign_more Unary.Neg before precedences.Member k w ts rest e s b h =
    (1, omega (arith, b), subst (λ k. Minuses 1 (lexeme k w ∷ ts) (UnaryApp Unary.Neg e) rest) (sym s) (last_minus h.1 h.0))
sign_more Unary.Neg before precedences.Unary k w ts rest e s b h =
    (suc h.0, omega (arith, h.1), subst (λ k. Minuses (suc h.0) (lexeme k w ∷ ts) (UnaryApp Unary.Neg e) rest) (sym s) (more_minuses h.2))
sign_more Unary.IsEmpty before l k w ts rest e s b h = absurd s
sign_more op before l k w ts rest e s b h = absurd h

signs_parsed : (op : UnaryOp) (n : ℕ) {ts rest : List Lexeme} {e : BareExpr} → n ≤ 4 → AreSigns op n ts e rest → Reads precedences.Unary ts e rest
signs_parsed Unary.Not n h p = nots h p
signs_parsed Unary.Neg n h p = minuses h p
signs_parsed Unary.IsEmpty n h p = absurd p

-- ---- what waits makes of its last operand an operand of what waits below

-- what is tight enough for what waits below, where it is no sign's operand
tight : (below : Option Waiting) (w : Waiting) (l : Precedence) (ts rest : List Lexeme) (e : BareExpr) → least_operand below ≤ precedence_number l → precedence_number l ≤ 5
    → Reads l ts e rest → IsOperand below l ts e rest
tight None w l ts rest e h k p = (omega arith, p)
tight (Some (sign op n)) w l ts rest e h k p = absurd (omega (arith, h, k))
tight (Some (between o a)) w l ts rest e h k p = (h, p)
tight (Some (is_of_in t a)) w l ts rest e h k p = (h, p)
tight (Some (otherwise a b)) w l ts rest e h k p = (h, p)

between_stands : (below : Option Waiting) (o : Operator) (a : BareExpr) → StandsOn below (between o a) → least_operand below ≤ precedence_number (operator_precedences o).0
between_stands None o a h = h
between_stands (Some (sign op n)) o a h = h
between_stands (Some (between p b)) o a h = h
between_stands (Some (is_of_in t b)) o a h = h
between_stands (Some (otherwise b c)) o a h = h

is_in_stands : (below : Option Waiting) (t a : BareExpr) → StandsOn below (is_of_in t a) → least_operand below ≤ 3
is_in_stands None t a h = h
is_in_stands (Some (sign op n)) t a h = h
is_in_stands (Some (between p b)) t a h = h
is_in_stands (Some (is_of_in u b)) t a h = h
is_in_stands (Some (otherwise b c)) t a h = h

otherwise_stands : (below : Option Waiting) (a b : BareExpr) → StandsOn below (otherwise a b) → least_operand below ≤ 0
otherwise_stands None a b h = h
otherwise_stands (Some (sign op n)) a b h = h
otherwise_stands (Some (between p c)) a b h = h
otherwise_stands (Some (is_of_in u c)) a b h = h
otherwise_stands (Some (otherwise c d)) a b h = h

-- signs as an operand
pub signed : (below : Option Waiting) (op : UnaryOp) (before n : ℕ) (ts rest : List Lexeme) (e : BareExpr) → StandsOn below (sign op before)
    → n + before < 5 → AreSigns op n ts e rest → IsOperand below precedences.Unary ts e rest
signed None op before n ts rest e s h p = (omega arith, signs_parsed op n (omega (arith, h)) p)
signed (Some (sign q m)) op before n ts rest e s h p =
    (n, omega (arith, h, s.1), subst (λ o. AreSigns o n ts e rest) (sym s.0) p)
signed (Some (between o a)) op before n ts rest e s h p = (last_small o, signs_parsed op n (omega (arith, h)) p)
signed (Some (is_of_in t a)) op before n ts rest e s h p = (omega arith, signs_parsed op n (omega (arith, h)) p)
signed (Some (otherwise a b)) op before n ts rest e s h p = (omega arith, signs_parsed op n (omega (arith, h)) p)

pub reduced : (below : Option Waiting) (w : Waiting) (l : Precedence) (ts mid rest : List Lexeme) (e : BareExpr) → StandsOn below w → IsWaiting ts w mid
    → IsOperand (Some w) l mid e rest → IsOperand below (waiting_precedence w) ts (waiting_tree w e) rest
reduced below (sign op before) l ts mid rest e s h k =
    let m = sign_more op before l h.0 h.1 mid rest e h.2 h.3 k in
    signed below op before m.0 ts rest (UnaryApp op e) s m.1 (subst (λ t. AreSigns op m.0 t (UnaryApp op e) rest) (sym h.4) m.2)
reduced below (between o a) l ts mid rest e s h k =
    tight below (between o a) (operator_precedences o).0 ts rest (operator_tree o a e) (between_stands below o a s) (operator_small h.0 o h.2)
    (applies h.0 o h.2 h.1 ts mid rest a e h.3 (loosened (operator_precedences o).2 l k.0 k.1))
reduced below (is_of_in t a) l ts mid rest e s h k =
    let p : Reads precedences.Relation ts (And (Is a h.0) (BinaryApp Binary.In a e)) rest =
    relation h.5 (g.is_of_in h.6 (loosened precedences.Sum l k.0 k.1)) in
    tight below (is_of_in t a) precedences.Relation ts rest (And t (BinaryApp Binary.In a e)) (is_in_stands below t a s) (omega arith)
    (subst (λ u. Reads precedences.Relation ts (And u (BinaryApp Binary.In a e)) rest) (sym h.4) p)
reduced below (otherwise a b) l ts mid rest e s h k =
    let p : Reads precedences.Conditional (lexeme kinds.If h.0 ∷ h.3) (If a b e) rest = conditional h.6 h.7 (loosened precedences.Conditional l k.0 k.1) in
    tight below (otherwise a b) precedences.Conditional ts rest (If a b e) (otherwise_stands below a b s) (omega arith)
    (subst (λ t. Reads precedences.Conditional t (If a b e) rest) (sym h.5) p)
