-- What is still to come: the tokens that are left go on from the operand with what waits and with the groups that are open, and end as an expression does.
use Rattle.std.specs.Prelude.{◌≡◌, ◌+◌, ◌-◌, ◌==◌, ◌≤◌, ◌<◌, ◌^◌, ◌⊎◌, ℕ, suc, Bool, true, false, codes, if◌then◌else◌, List, [], ◌∷◌, ◌++◌, length, map, Option, Some, None, IsTrue, ⊤}
use Rattle.std.specs.Str.{bytes_eq}
use Rattle.std.specs.Str.Parse.{digits_value}
use Rattle.cedar_names.specs.Names.{BareName, IsNameOf, has_reserved}
use Rattle.cedar_terms.specs.declared.ops.BinaryOp.{BinaryOp}
use Rattle.cedar_terms.specs.declared.ops.UnaryOp.{UnaryOp}
use Rattle.cedar_terms.specs.declared.ops.UnaryOp.TheVariants as Unary
use Rattle.cedar_terms.specs.declared.pattern.PatternElem.{PatternElem}
use Rattle.cedar_terms.specs.Precedences.{precedence_number}
use Rattle.cedar_terms.specs.declared.precedence.Precedence.{Precedence}
use Rattle.cedar_terms.specs.declared.precedence.Precedence.TheVariants as precedences
use Rattle.cedar_builders.specs.BareExpr.{Text, BareExpr, BareExprs, no_trees, tree}
use Rattle.cedar_builders.specs.Keys.{are_distinct}
use Rattle.cedar_lexer.specs.declared.token.TokenKind.{TokenKind}
use Rattle.cedar_lexer.specs.declared.token.TokenKind.TheVariants as kinds
use Rattle.semantics_grammar.specs.Lexemes.{Lexeme, lexeme}
use Rattle.semantics_grammar.specs.Written.{IsTextOf, IsPatternOf, IsPath, AreKeys, method_op}
use Rattle.semantics_grammar.specs.Grammar.{Reads, Items, Fields}
use Rattle.cedar_parser.specs.Waiting.{Operator, operator_of, operator_precedences, Waiting, sign, between, is_of_in, otherwise, waiting_precedence, last_of, Row, members, arguments, method_arguments, closing_of, Grouped, in_brackets, in_test, in_branch, in_row, in_record, Group}
use Rattle.cedar_parser.specs.SoFar.{AreSigns, IsNotTaken}

-- how many trees there are
abbrev pub count : BareExprs → ℕ
count no_trees = 0
count (tree e es) = suc (count es)

abbrev pub one_or_any : Option BinaryOp → ℕ → Bool
one_or_any None n = true
one_or_any (Some op) n = n == 1

-- a method takes so many arguments
abbrev pub takes_arguments : Text → ℕ → Bool
takes_arguments m n = if bytes_eq m (codes "isEmpty") then n == 0 else one_or_any (method_op m) n

-- one attribute, index or method
pub data Access : List Lexeme → List Lexeme → Type 0 where
  attribute : {d k : List ℕ} {rest : List Lexeme} → Access (lexeme kinds.Dot d ∷ lexeme kinds.Word k ∷ rest) rest
  index : {o q c : List ℕ} {k : Text} {rest : List Lexeme} → IsTextOf q k
      → Access (lexeme kinds.OpenSquare o ∷ lexeme kinds.Quoted q ∷ lexeme kinds.CloseSquare c ∷ rest) rest
  method : {d m o : List ℕ} {es : BareExprs} {ts rest : List Lexeme} (n : BareName) → Items kinds.CloseRound ts es rest → IsNameOf m n
      → IsTrue (takes_arguments m (count es)) → Access (lexeme kinds.Dot d ∷ lexeme kinds.Word m ∷ lexeme kinds.OpenRound o ∷ ts) rest

-- one test by `has`, `like` or `is`
pub data Test : List Lexeme → List Lexeme → Type 0 where
  has : {w : List ℕ} {k : Text} {ks : List Text} {ts rest : List Lexeme} → AreKeys ts k ks rest → Test (lexeme kinds.Has w ∷ ts) rest
  like : {w q : List ℕ} {p : List PatternElem} {rest : List Lexeme} → IsPatternOf q p
      → Test (lexeme kinds.Like w ∷ lexeme kinds.Quoted q ∷ rest) rest
  is : {w : List ℕ} {n : BareName} {ts rest : List Lexeme} → IsPath ts n rest → Test (lexeme kinds.Is w ∷ ts) rest
  is_of : {w v : List ℕ} {n : BareName} {b : BareExpr} {ts us rest : List Lexeme} → IsPath ts n (lexeme kinds.In v ∷ us)
      → Reads precedences.Sum us b rest → Test (lexeme kinds.Is w ∷ ts) rest

-- what goes on with an operand of a precedence, and the precedence of what they are together
pub data Step : Precedence → Precedence → List Lexeme → List Lexeme → Type 0 where
  accessed : {l m : Precedence} {ts rest : List Lexeme} → l ≡ precedences.Member → m ≡ precedences.Member → Access ts rest → Step l m ts rest
  operated : {k : TokenKind} {w : List ℕ} {l m : Precedence} {b : BareExpr} {ts rest : List Lexeme} (o : Operator) → operator_of k ≡ Some o
      → precedence_number (operator_precedences o).1 ≤ precedence_number l → m ≡ (operator_precedences o).0
      → Reads (operator_precedences o).2 ts b rest → Step l m (lexeme k w ∷ ts) rest
  tested : {l m : Precedence} {ts rest : List Lexeme} → 4 ≤ precedence_number l → m ≡ precedences.Relation → Test ts rest → Step l m ts rest

-- an operand of a precedence goes on to an expression that binds at least as tightly as `m`
pub data Ascends (m : Precedence) : Precedence → List Lexeme → List Lexeme → Type 0 where
  stays : {l : Precedence} {rest : List Lexeme} → precedence_number m ≤ precedence_number l → Ascends m l rest rest
  goes : {l n : Precedence} {ts mid rest : List Lexeme} → precedence_number m ≤ precedence_number n → Step l n ts mid → Ascends m n mid rest
      → Ascends m l ts rest

-- the least precedence of the last operand of what waits
abbrev pub wanted : Option Waiting → Precedence
wanted None = precedences.Conditional
wanted (Some (sign op n)) = precedences.Unary
wanted (Some (between o a)) = (operator_precedences o).2
wanted (Some (is_of_in t a)) = precedences.Sum
wanted (Some (otherwise a b)) = precedences.Conditional

-- an operand goes on to a whole expression, behind which the rest may stand
abbrev pub Whole : (List Lexeme → Type 0) → Precedence → List Lexeme → Type 0
Whole C l ts = (rest : List Lexeme) × Ascends precedences.Conditional l ts rest × C rest

-- an operand goes on to the last operand of what waits, and what they are together goes on
abbrev pub Over : Waiting → (Precedence → List Lexeme → Type 0) → Precedence → List Lexeme → Type 0
Over w K l ts = (rest : List Lexeme) × Ascends (wanted (Some w)) l ts rest × K (waiting_precedence w) rest

-- the same of all that waits
abbrev pub Behind : List Waiting → (Precedence → List Lexeme → Type 0) → Precedence → List Lexeme → Type 0
Behind [] K = K
Behind (w ∷ ws) K = Behind ws (Over w K)

-- behind an item stands the bracket of the row, or a comma with further items up to it
pub data ItemsAfter (c : TokenKind) : List Lexeme → BareExprs → List Lexeme → Type 0 where
  no_more : {k : TokenKind} {w : List ℕ} {rest : List Lexeme} → k ≡ c → ItemsAfter c (lexeme k w ∷ rest) no_trees rest
  more : {w : List ℕ} {es : BareExprs} {ts rest : List Lexeme} → Items c ts es rest → ItemsAfter c (lexeme kinds.Comma w ∷ ts) es rest

-- the same of a record
pub data FieldsAfter : List Lexeme → List (Text × BareExpr) → List Lexeme → Type 0 where
  no_more : {w : List ℕ} {rest : List Lexeme} → FieldsAfter (lexeme kinds.CloseCurly w ∷ rest) [] rest
  more : {w : List ℕ} {ps : List (Text × BareExpr)} {ts rest : List Lexeme} → Fields ts ps rest
      → FieldsAfter (lexeme kinds.Comma w ∷ ts) ps rest

-- a row takes so many items; the first of a method is its operand, and the method has a name
abbrev pub RowTakes : Row → ℕ → Type 0
RowTakes members n = ⊤
RowTakes (arguments x) n = ⊤
RowTakes (method_arguments m) n = (x : BareName) × IsNameOf m x × (has_reserved x ≡ false) × (1 ≤ n) × IsTrue (takes_arguments m (n - 1))

abbrev pub keys : List (Text × BareExpr) → List Text
keys ps = map (λ p. p.0) ps

-- behind `if TEST then EXPR`
abbrev pub InBranch : (Precedence → List Lexeme → Type 0) → List Lexeme → Type 0
InBranch K ts =
    (w : List ℕ) × (us : List Lexeme) × (e : BareExpr) × (rest : List Lexeme) × (ts ≡ lexeme kinds.Else w ∷ us)
    × Reads precedences.Conditional us e rest × K precedences.Conditional rest

-- behind an expression in a group, the group goes on to its end, and then `K` does
abbrev pub Inside : Grouped → (Precedence → List Lexeme → Type 0) → List Lexeme → Type 0
Inside in_brackets K ts = (w : List ℕ) × (rest : List Lexeme) × (ts ≡ lexeme kinds.CloseRound w ∷ rest) × K precedences.Member rest
Inside in_test K ts =
    (w : List ℕ) × (us : List Lexeme) × (e : BareExpr) × (rest : List Lexeme) × (ts ≡ lexeme kinds.Then w ∷ us)
    × Reads precedences.Conditional us e rest × InBranch K rest
Inside (in_branch a) K ts = InBranch K ts
Inside (in_row row es) K ts =
    (bs : BareExprs) × (rest : List Lexeme) × ItemsAfter (closing_of row) ts bs rest × RowTakes row (length es + suc (count bs))
    × K precedences.Member rest
Inside (in_record ps k) K ts =
    (qs : List (Text × BareExpr)) × (rest : List Lexeme) × FieldsAfter ts qs rest × IsTrue (are_distinct (keys ps ++ (k ∷ keys qs)))
    × K precedences.Member rest

-- the same, where `C` says what may stand behind the expression around the group
abbrev pub Through : Group → (List Lexeme → Type 0) → List Lexeme → Type 0
Through g C = Inside g.1 (Behind g.0 (Whole C))

abbrev pub Around : List Group → (List Lexeme → Type 0) → List Lexeme → Type 0
Around [] C = C
Around (g ∷ gs) C = Around gs (Through g C)

-- all that is open goes on from an operand of a precedence
abbrev pub Rest : List Group → List Waiting → Precedence → List Lexeme → Type 0
Rest gs ws = Behind ws (Whole (Around gs (λ ts. ts ≡ [])))

-- the operand of a sign begins, with so many signs right before that: a member, or signs with one, so that there are four at most, or the digits of a
-- number below 0
abbrev pub SignStarts : UnaryOp → ℕ → List Lexeme → List Lexeme → Type 0
SignStarts op before ts rest =
    ((e : BareExpr) × Reads precedences.Member ts e rest × IsNotTaken op ts)
    ⊎ (((n : ℕ) × (e : BareExpr) × (n + before < 4) × AreSigns op n ts e rest)
    ⊎ ((d : List ℕ) × (op ≡ Unary.Neg) × (digits_value 10 d ≤ 2 ^ 63) × (ts ≡ lexeme kinds.Digits d ∷ rest)))

-- the last operand of what waits begins, up to the rest
abbrev pub Starts : Option Waiting → List Lexeme → List Lexeme → Type 0
Starts (Some (sign op n)) ts rest = SignStarts op n ts rest
Starts None ts rest = (e : BareExpr) × Reads precedences.Conditional ts e rest
Starts (Some (between o a)) ts rest = (e : BareExpr) × Reads (operator_precedences o).2 ts e rest
Starts (Some (is_of_in t a)) ts rest = (e : BareExpr) × Reads precedences.Sum ts e rest
Starts (Some (otherwise a b)) ts rest = (e : BareExpr) × Reads precedences.Conditional ts e rest

-- what is left goes on with what is open: from an operand of this precedence, or with one
abbrev pub GoesOnAfter : List Group → List Waiting → Option Precedence → List Lexeme → Type 0
GoesOnAfter gs ws (Some l) ts = Rest gs ws l ts
GoesOnAfter gs ws None ts = (mid : List Lexeme) × Starts (last_of None ws) ts mid × Rest gs ws (wanted (last_of None ws)) mid

-- ---- tokens

-- the least precedence of what stands before a token that goes on with it
abbrev pub least_before : TokenKind → ℕ
least_before kinds.Dot = 7
least_before kinds.OpenSquare = 7
least_before kinds.Times = 5
least_before kinds.Plus = 4
least_before kinds.Minus = 4
least_before kinds.Equal = 4
least_before kinds.NotEqual = 4
least_before kinds.Less = 4
least_before kinds.LessEqual = 4
least_before kinds.Greater = 4
least_before kinds.GreaterEqual = 4
least_before kinds.In = 4
least_before kinds.Has = 4
least_before kinds.Like = 4
least_before kinds.Is = 4
least_before kinds.AndSign = 2
least_before kinds.OrSign = 1
least_before k = 8

-- the precedence of what it makes, or 0 where nothing goes on
abbrev pub own_of : TokenKind → ℕ
own_of kinds.Dot = 7
own_of kinds.OpenSquare = 7
own_of kinds.Times = 5
own_of kinds.Plus = 4
own_of kinds.Minus = 4
own_of kinds.Equal = 3
own_of kinds.NotEqual = 3
own_of kinds.Less = 3
own_of kinds.LessEqual = 3
own_of kinds.Greater = 3
own_of kinds.GreaterEqual = 3
own_of kinds.In = 3
own_of kinds.Has = 3
own_of kinds.Like = 3
own_of kinds.Is = 3
own_of kinds.AndSign = 2
own_of kinds.OrSign = 1
own_of k = 0

abbrev pub least_at : List Lexeme → ℕ
least_at [] = 8
least_at (lexeme k w ∷ ts) = least_before k

abbrev pub own_at : List Lexeme → ℕ
own_at [] = 0
own_at (lexeme k w ∷ ts) = own_of k

-- a token of this kind makes this precedence of operands, of which the first has at least that
abbrev pub IsInfixOf : ℕ → ℕ → TokenKind → Type 0
IsInfixOf own least k = (own_of k ≡ own) × (least_before k ≡ least) × (1 ≤ own)

-- no identifier follows behind two colons
abbrev pub ends_path : List Lexeme → Bool
ends_path (lexeme kinds.Colons c ∷ lexeme kinds.Word w ∷ ts) = false
ends_path ts = true

-- a token that goes on with a group, or ends it
abbrev pub closes : TokenKind → Bool
closes kinds.CloseRound = true
closes kinds.CloseSquare = true
closes kinds.CloseCurly = true
closes kinds.Then = true
closes kinds.Else = true
closes kinds.Comma = true
closes k = false

-- behind a sign stand no other sign, and no fifth of its kind
abbrev pub TakesNoSign : UnaryOp → Option Waiting → Type 0
TakesNoSign op None = ⊥
TakesNoSign op (Some (sign q m)) = q ≡ op → 3 ≤ m
TakesNoSign op (Some (between o a)) = ⊥
TakesNoSign op (Some (is_of_in t a)) = ⊥
TakesNoSign op (Some (otherwise a b)) = ⊥

-- ---- rows and records

-- a row goes on with further items, beside those that it has
abbrev pub RowGoesOn : List Group → List Waiting → Row → ℕ → List Lexeme → Type 0
RowGoesOn gs ws row n ts =
    (bs : BareExprs) × (rest : List Lexeme) × Items (closing_of row) ts bs rest × RowTakes row (n + count bs) × Rest gs ws precedences.Member rest

-- a record goes on with further fields, beside those that it has
abbrev pub RecordGoesOn : List Group → List Waiting → List Text → List Lexeme → Type 0
RecordGoesOn gs ws ks ts =
    (qs : List (Text × BareExpr)) × (rest : List Lexeme) × Fields ts qs rest × IsTrue (are_distinct (ks ++ keys qs)) × Rest gs ws precedences.Member rest
