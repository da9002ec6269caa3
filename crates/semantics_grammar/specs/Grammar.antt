-- The grammar of conditions (Cedar's `grammar.lalrpop`): which tokens are an expression, and which tree they stand for. Each part says that the tokens begin
-- with it, and what follows; so one rule stands for each way to write a node.
use Rattle.std.specs.Prelude.{◌≡◌, ◌<◌, ◌≤◌, ◌^◌, ℕ, suc, Bool, true, false, List, [], ◌∷◌, Some, None, map, IsTrue}
use Rattle.std.specs.Str.Parse.{digits_value, signed_digits_value}
use Rattle.cedar_names.specs.Names.{BareName, IsNameOf}
use Rattle.cedar_names.specs.Slots.{slot_text}
use Rattle.cedar_names.specs.declared.slot.SlotId.{SlotId}
use Rattle.cedar_terms.specs.Entities.{BareEntityUID}
use Rattle.cedar_terms.specs.Literals.{BoolLit, LongLit, StringLit, EntityLit}
use Rattle.cedar_terms.specs.Ops.{var_text}
use Rattle.cedar_terms.specs.declared.ops.BinaryOp.TheVariants as Binary
use Rattle.cedar_terms.specs.declared.ops.UnaryOp.TheVariants as Unary
use Rattle.cedar_terms.specs.declared.pattern.PatternElem.{PatternElem}
use Rattle.cedar_terms.specs.declared.var.Var.{Var as Variable}
use Rattle.cedar_builders.specs.BareExpr.{Text, BareExpr, Lit, Var, Slot, If, And, Or, UnaryApp, BinaryApp, GetAttr, HasAttr, Like, Set, Record, Is, BareExprs, no_trees, tree, fields_of}
use Rattle.cedar_builders.specs.Keys.{are_distinct, in_key_order}
use Rattle.cedar_terms.specs.declared.precedence.Precedence.{Precedence}
use Rattle.cedar_terms.specs.declared.precedence.Precedence.TheVariants as precedences
use Rattle.cedar_lexer.specs.declared.token.TokenKind.{TokenKind}
use Rattle.cedar_lexer.specs.declared.token.TokenKind.TheVariants as kinds
use Rattle.semantics_grammar.specs.Lexemes.{Lexeme, lexeme}
use Rattle.semantics_grammar.specs.Written.{IsTextOf, IsPatternOf, IsPath, IsKey, AreKeys, method_tree, function_tree, is_number_alone}

mutual
  -- `Reads precedence tokens e rest`: the tokens are an expression of this precedence, which stands for this tree, and then the rest
  pub data Reads : Precedence → List Lexeme → BareExpr → List Lexeme → Type 0 where
    -- if Expr then Expr else Expr
    -- e.g. if true then 1 else 2
    conditional : {i t e : List ℕ} {ts us vs rest : List Lexeme} {a b c : BareExpr}
        → Reads precedences.Conditional ts a (lexeme kinds.Then t ∷ us) → Reads precedences.Conditional us b (lexeme kinds.Else e ∷ vs)
        → Reads precedences.Conditional vs c rest → Reads precedences.Conditional (lexeme kinds.If i ∷ ts) (If a b c) rest
    -- e.g. true || false
    no_conditional : {ts rest : List Lexeme} {a : BareExpr} → Reads precedences.Or ts a rest → Reads precedences.Conditional ts a rest
    -- And { '||' And }
    -- e.g. true || false || true
    disjunction : {ts mid rest : List Lexeme} {a e : BareExpr} → Reads precedences.And ts a mid → GoesOn precedences.Or mid a e rest
        → Reads precedences.Or ts e rest
    -- Relation { '&&' Relation }
    -- e.g. true && false && true
    conjunction : {ts mid rest : List Lexeme} {a e : BareExpr} → Reads precedences.Relation ts a mid
        → GoesOn precedences.And mid a e rest → Reads precedences.And ts e rest
    -- Sum, and maybe one test of it
    -- e.g. 1 + 2 < 3
    relation : {ts mid rest : List Lexeme} {a e : BareExpr} → Reads precedences.Sum ts a mid → Tests mid a e rest
        → Reads precedences.Relation ts e rest
    -- Product { ('+' | '-') Product }
    -- e.g. 1 + 2 - 3
    sum : {ts mid rest : List Lexeme} {a e : BareExpr} → Reads precedences.Product ts a mid → GoesOn precedences.Sum mid a e rest
        → Reads precedences.Sum ts e rest
    -- Unary { '*' Unary }
    -- e.g. 2 * 3 * 4
    product : {ts mid rest : List Lexeme} {a e : BareExpr} → Reads precedences.Unary ts a mid
        → GoesOn precedences.Product mid a e rest → Reads precedences.Product ts e rest
    -- Member, or up to four signs, all alike, before one
    -- e.g. principal.age
    no_sign : {ts rest : List Lexeme} {a : BareExpr} → Reads precedences.Member ts a rest → Reads precedences.Unary ts a rest
    -- e.g. !!true
    nots : {n : ℕ} {ts rest : List Lexeme} {a : BareExpr} → n ≤ 4 → Nots n ts a rest → Reads precedences.Unary ts a rest
    -- e.g. --principal.age
    minuses : {n : ℕ} {ts rest : List Lexeme} {a : BareExpr} → n ≤ 4 → Minuses n ts a rest → Reads precedences.Unary ts a rest
    -- Primary { Access }
    -- e.g. principal.address["zip code"]
    member : {ts mid rest : List Lexeme} {a e : BareExpr} → Primary ts a mid → Accesses mid a e rest
        → Reads precedences.Member ts e rest

  -- `GoesOn precedence tokens a e rest`: behind an operand `a` of a tighter precedence, operators of this precedence go on to the tree `e`
  pub data GoesOn : Precedence → List Lexeme → BareExpr → BareExpr → List Lexeme → Type 0 where
    -- e.g. 1
    no_operator : {l : Precedence} {rest : List Lexeme} {a : BareExpr} → GoesOn l rest a a rest
    -- e.g. true || false
    or : {w : List ℕ} {ts mid rest : List Lexeme} {a b e : BareExpr} → Reads precedences.And ts b mid
        → GoesOn precedences.Or mid (Or a b) e rest → GoesOn precedences.Or (lexeme kinds.OrSign w ∷ ts) a e rest
    -- e.g. true && false
    and : {w : List ℕ} {ts mid rest : List Lexeme} {a b e : BareExpr} → Reads precedences.Relation ts b mid
        → GoesOn precedences.And mid (And a b) e rest → GoesOn precedences.And (lexeme kinds.AndSign w ∷ ts) a e rest
    -- e.g. 1 + 2
    plus : {w : List ℕ} {ts mid rest : List Lexeme} {a b e : BareExpr} → Reads precedences.Product ts b mid
        → GoesOn precedences.Sum mid (BinaryApp Binary.Add a b) e rest → GoesOn precedences.Sum (lexeme kinds.Plus w ∷ ts) a e rest
    -- e.g. 1 - 2
    minus : {w : List ℕ} {ts mid rest : List Lexeme} {a b e : BareExpr} → Reads precedences.Product ts b mid
        → GoesOn precedences.Sum mid (BinaryApp Binary.Sub a b) e rest → GoesOn precedences.Sum (lexeme kinds.Minus w ∷ ts) a e rest
    -- e.g. 2 * 3
    times : {w : List ℕ} {ts mid rest : List Lexeme} {a b e : BareExpr} → Reads precedences.Unary ts b mid
        → GoesOn precedences.Product mid (BinaryApp Binary.Mul a b) e rest → GoesOn precedences.Product (lexeme kinds.Times w ∷ ts) a e rest

  -- `Tests tokens a e rest`: behind a sum `a`, maybe a test makes the tree `e` of it
  pub data Tests : List Lexeme → BareExpr → BareExpr → List Lexeme → Type 0 where
    -- e.g. 1 + 2
    no_test : {rest : List Lexeme} {a : BareExpr} → Tests rest a a rest
    -- e.g. 1 == 2
    equal : {w : List ℕ} {ts rest : List Lexeme} {a b : BareExpr} → Reads precedences.Sum ts b rest
        → Tests (lexeme kinds.Equal w ∷ ts) a (BinaryApp Binary.Eq a b) rest
    -- e.g. 1 != 2
    not_equal : {w : List ℕ} {ts rest : List Lexeme} {a b : BareExpr} → Reads precedences.Sum ts b rest
        → Tests (lexeme kinds.NotEqual w ∷ ts) a (UnaryApp Unary.Not (BinaryApp Binary.Eq a b)) rest
    -- e.g. 1 < 2
    less : {w : List ℕ} {ts rest : List Lexeme} {a b : BareExpr} → Reads precedences.Sum ts b rest
        → Tests (lexeme kinds.Less w ∷ ts) a (BinaryApp Binary.Less a b) rest
    -- e.g. 1 <= 2
    less_equal : {w : List ℕ} {ts rest : List Lexeme} {a b : BareExpr} → Reads precedences.Sum ts b rest
        → Tests (lexeme kinds.LessEqual w ∷ ts) a (BinaryApp Binary.LessEq a b) rest
    -- `a > b` is `!(a <= b)`, and `a >= b` is `!(a < b)`
    -- e.g. 1 > 2
    greater : {w : List ℕ} {ts rest : List Lexeme} {a b : BareExpr} → Reads precedences.Sum ts b rest
        → Tests (lexeme kinds.Greater w ∷ ts) a (UnaryApp Unary.Not (BinaryApp Binary.LessEq a b)) rest
    -- e.g. 1 >= 2
    greater_equal : {w : List ℕ} {ts rest : List Lexeme} {a b : BareExpr} → Reads precedences.Sum ts b rest
        → Tests (lexeme kinds.GreaterEqual w ∷ ts) a (UnaryApp Unary.Not (BinaryApp Binary.Less a b)) rest
    -- e.g. principal in resource
    is_in : {w : List ℕ} {ts rest : List Lexeme} {a b : BareExpr} → Reads precedences.Sum ts b rest
        → Tests (lexeme kinds.In w ∷ ts) a (BinaryApp Binary.In a b) rest
    -- e.g. principal has address.city
    has : {w : List ℕ} {ts rest : List Lexeme} {a : BareExpr} {k : Text} {ks : List Text} → AreKeys ts k ks rest
        → Tests (lexeme kinds.Has w ∷ ts) a (HasAttr a k ks) rest
    -- e.g. "report.pdf" like "*.pdf"
    like : {w q : List ℕ} {rest : List Lexeme} {a : BareExpr} {p : List PatternElem} → IsPatternOf q p
        → Tests (lexeme kinds.Like w ∷ lexeme kinds.Quoted q ∷ rest) a (Like a p) rest
    -- e.g. principal is Org::User
    is : {w : List ℕ} {ts rest : List Lexeme} {a : BareExpr} {n : BareName} → IsPath ts n rest
        → Tests (lexeme kinds.Is w ∷ ts) a (Is a n) rest
    -- `a is T in b` is `a is T && a in b`
    -- e.g. principal is User in Group::"staff"
    is_of_in : {w v : List ℕ} {ts us rest : List Lexeme} {a b : BareExpr} {n : BareName}
        → IsPath ts n (lexeme kinds.In v ∷ us) → Reads precedences.Sum us b rest
        → Tests (lexeme kinds.Is w ∷ ts) a (And (Is a n) (BinaryApp Binary.In a b)) rest

  -- so many `!` before a member
  pub data Nots : ℕ → List Lexeme → BareExpr → List Lexeme → Type 0 where
    -- e.g. !true
    last_not : {w : List ℕ} {ts rest : List Lexeme} {a : BareExpr} → Reads precedences.Member ts a rest
        → Nots 1 (lexeme kinds.Not w ∷ ts) (UnaryApp Unary.Not a) rest
    -- e.g. !!true
    more_nots : {n : ℕ} {w : List ℕ} {ts rest : List Lexeme} {a : BareExpr} → Nots n ts a rest
        → Nots (suc n) (lexeme kinds.Not w ∷ ts) (UnaryApp Unary.Not a) rest

  -- so many `-` before a member; the last is part of a number that stands alone behind it
  pub data Minuses : ℕ → List Lexeme → BareExpr → List Lexeme → Type 0 where
    -- e.g. -principal.age
    last_minus : {w : List ℕ} {ts rest : List Lexeme} {a : BareExpr} → is_number_alone ts ≡ false
        → Reads precedences.Member ts a rest → Minuses 1 (lexeme kinds.Minus w ∷ ts) (UnaryApp Unary.Neg a) rest
    -- e.g. -5
    negative : {w d : List ℕ} {rest : List Lexeme} → digits_value 10 d ≤ 2 ^ 63
        → Minuses 1 (lexeme kinds.Minus w ∷ lexeme kinds.Digits d ∷ rest) (Lit (LongLit (signed_digits_value 10 (45 ∷ d)))) rest
    -- e.g. --5
    more_minuses : {n : ℕ} {w : List ℕ} {ts rest : List Lexeme} {a : BareExpr} → Minuses n ts a rest
        → Minuses (suc n) (lexeme kinds.Minus w ∷ ts) (UnaryApp Unary.Neg a) rest

  -- `Accesses tokens a e rest`: behind a primary `a`, attributes, indices and methods go on to the tree `e`
  pub data Accesses : List Lexeme → BareExpr → BareExpr → List Lexeme → Type 0 where
    -- e.g. principal
    no_access : {rest : List Lexeme} {a : BareExpr} → Accesses rest a a rest
    -- e.g. principal.age
    attribute : {d k : List ℕ} {ts rest : List Lexeme} {a e : BareExpr} → Accesses ts (GetAttr a k) e rest
        → Accesses (lexeme kinds.Dot d ∷ lexeme kinds.Word k ∷ ts) a e rest
    -- e.g. principal["first name"]
    index : {o q c : List ℕ} {k : Text} {ts rest : List Lexeme} {a e : BareExpr} → IsTextOf q k
        → Accesses ts (GetAttr a k) e rest
        → Accesses (lexeme kinds.OpenSquare o ∷ lexeme kinds.Quoted q ∷ lexeme kinds.CloseSquare c ∷ ts) a e rest
    -- e.g. [1, 2].contains(1)
    method : {d m o : List ℕ} {ts us rest : List Lexeme} {a b e : BareExpr} {es : BareExprs} (n : BareName)
        → Items kinds.CloseRound ts es us → IsNameOf m n → method_tree m n a es ≡ Some b → Accesses us b e rest
        → Accesses (lexeme kinds.Dot d ∷ lexeme kinds.Word m ∷ lexeme kinds.OpenRound o ∷ ts) a e rest

  pub data Primary : List Lexeme → BareExpr → List Lexeme → Type 0 where
    -- e.g. true
    yes : {w : List ℕ} {rest : List Lexeme} → Primary (lexeme kinds.True w ∷ rest) (Lit (BoolLit true)) rest
    -- e.g. false
    no : {w : List ℕ} {rest : List Lexeme} → Primary (lexeme kinds.False w ∷ rest) (Lit (BoolLit false)) rest
    -- e.g. 42
    number : {d : List ℕ} {rest : List Lexeme} → digits_value 10 d < 2 ^ 63
        → Primary (lexeme kinds.Digits d ∷ rest) (Lit (LongLit (signed_digits_value 10 d))) rest
    -- e.g. "a\n"
    text : {q : List ℕ} {t : Text} {rest : List Lexeme} → IsTextOf q t
        → Primary (lexeme kinds.Quoted q ∷ rest) (Lit (StringLit t)) rest
    -- e.g. ?principal
    slot : {w : List ℕ} {s : SlotId} {rest : List Lexeme} → w ≡ slot_text s → Primary (lexeme kinds.Slot w ∷ rest) (Slot s) rest
    -- e.g. context
    variable : {w : List ℕ} {v : Variable} {rest : List Lexeme} → w ≡ var_text v → Primary (lexeme kinds.Word w ∷ rest) (Var v) rest
    -- Path '::' text
    -- e.g. Org::User::"alice"
    entity : {w c q : List ℕ} {n : BareName} {t : Text} {ts rest : List Lexeme}
        → IsPath (lexeme kinds.Word w ∷ ts) n (lexeme kinds.Colons c ∷ lexeme kinds.Quoted q ∷ rest) → IsTextOf q t
        → Primary (lexeme kinds.Word w ∷ ts) (Lit (EntityLit (record { entity_type = n; eid = t }))) rest
    -- Path '(' items ')'
    -- e.g. ip("10.0.0.1")
    function : {w o : List ℕ} {n : BareName} {es : BareExprs} {ts us rest : List Lexeme}
        → IsPath (lexeme kinds.Word w ∷ ts) n (lexeme kinds.OpenRound o ∷ us) → Items kinds.CloseRound us es rest
        → Primary (lexeme kinds.Word w ∷ ts) (function_tree n es) rest
    -- e.g. (1 + 2)
    brackets : {o c : List ℕ} {e : BareExpr} {ts rest : List Lexeme} → Reads precedences.Conditional ts e (lexeme kinds.CloseRound c ∷ rest)
        → Primary (lexeme kinds.OpenRound o ∷ ts) e rest
    -- e.g. [1, 2]
    set : {o : List ℕ} {es : BareExprs} {ts rest : List Lexeme} → Items kinds.CloseSquare ts es rest
        → Primary (lexeme kinds.OpenSquare o ∷ ts) (Set es) rest
    -- each key stands once; the tree has its fields in the order of the keys
    -- e.g. {name: "a", age: 2}
    record_of : {o : List ℕ} {ps : List (Text × BareExpr)} {ts rest : List Lexeme} → Fields ts ps rest
        → IsTrue (are_distinct (map (λ p. p.0) ps)) → Primary (lexeme kinds.OpenCurly o ∷ ts) (Record (fields_of (in_key_order ps))) rest

  -- expressions with commas between, and maybe one behind the last, up to and with this bracket
  pub data Items : TokenKind → List Lexeme → BareExprs → List Lexeme → Type 0 where
    -- e.g. []
    no_items : {c : TokenKind} {w : List ℕ} {rest : List Lexeme} → Items c (lexeme c w ∷ rest) no_trees rest
    -- e.g. [1]
    last_item : {c : TokenKind} {w : List ℕ} {e : BareExpr} {ts rest : List Lexeme} → Reads precedences.Conditional ts e (lexeme c w ∷ rest)
        → Items c ts (tree e no_trees) rest
    -- e.g. [1, 2,]
    item : {c : TokenKind} {w : List ℕ} {e : BareExpr} {es : BareExprs} {ts us rest : List Lexeme}
        → Reads precedences.Conditional ts e (lexeme kinds.Comma w ∷ us) → Items c us es rest → Items c ts (tree e es) rest

  -- the same of keys with their values, up to and with the bracket of a record
  pub data Fields : List Lexeme → List (Text × BareExpr) → List Lexeme → Type 0 where
    -- e.g. {}
    no_fields : {w : List ℕ} {rest : List Lexeme} → Fields (lexeme kinds.CloseCurly w ∷ rest) [] rest
    -- e.g. {"first name": "a"}
    last_field : {l : Lexeme} {c w : List ℕ} {k : Text} {e : BareExpr} {ts rest : List Lexeme} → IsKey l k
        → Reads precedences.Conditional ts e (lexeme kinds.CloseCurly w ∷ rest) → Fields (l ∷ lexeme kinds.Colon c ∷ ts) ((k, e) ∷ []) rest
    -- e.g. {name: "a", age: 2,}
    field : {l : Lexeme} {c w : List ℕ} {k : Text} {e : BareExpr} {ps : List (Text × BareExpr)} {ts us rest : List Lexeme} → IsKey l k
        → Reads precedences.Conditional ts e (lexeme kinds.Comma w ∷ us) → Fields us ps rest
        → Fields (l ∷ lexeme kinds.Colon c ∷ ts) ((k, e) ∷ ps) rest

-- the tokens are an expression, and stand for this tree
abbrev pub Stands : List Lexeme → BareExpr → Type 0
Stands ts e = Reads precedences.Conditional ts e []
