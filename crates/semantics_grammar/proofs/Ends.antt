-- What an expression begins with, and what does not go on with one.
use Rattle.std.proofs.Common.{◌≡◌, ℕ, Bool, true, false, List, [], ◌∷◌, refl, sym, ◌∙◌}
use Rattle.std.proofs.lemmas.Bool.{false≢true}
use Rattle.cedar_builders.specs.BareExpr.{BareExpr}
use Rattle.cedar_names.specs.Names.{BareName}
use Rattle.cedar_terms.specs.declared.precedence.Precedence.{Precedence}
use Rattle.cedar_terms.specs.declared.precedence.Precedence.TheVariants as precedences
use Rattle.cedar_lexer.specs.declared.token.TokenKind.{TokenKind}
use Rattle.cedar_lexer.specs.declared.token.TokenKind.TheVariants as kinds
use Rattle.semantics_grammar.specs.Lexemes.{Lexeme, lexeme}
use Rattle.semantics_grammar.specs.Written.{is_number_alone}
use Rattle.semantics_grammar.specs.Grammar.{Reads, conditional, no_conditional, disjunction, conjunction, relation, sum, product, no_sign, nots, minuses, member, GoesOn, no_operator, or, and, plus, minus, times, Tests, no_test, equal, not_equal, less, less_equal, greater, greater_equal, is_in, has, like, is, is_of_in, Nots, last_not, more_nots, Minuses, last_minus, negative, more_minuses, Accesses, no_access, attribute, index, method, Primary, yes, no, number, text, slot, variable, entity, function, brackets, set, record_of}

-- ---- what goes on with an expression of a precedence

abbrev pub on_member : TokenKind → Bool
on_member kinds.Dot = true
on_member kinds.OpenSquare = true
on_member kinds.OpenRound = true
on_member kinds.Colons = true
on_member k = false

abbrev pub on_product : TokenKind → Bool
on_product kinds.Times = true
on_product k = on_member k

abbrev pub on_sum : TokenKind → Bool
on_sum kinds.Plus = true
on_sum kinds.Minus = true
on_sum k = on_product k

abbrev pub on_relation : TokenKind → Bool
on_relation kinds.Equal = true
on_relation kinds.NotEqual = true
on_relation kinds.Less = true
on_relation kinds.LessEqual = true
on_relation kinds.Greater = true
on_relation kinds.GreaterEqual = true
on_relation kinds.In = true
on_relation kinds.Has = true
on_relation kinds.Like = true
on_relation kinds.Is = true
on_relation k = on_sum k

abbrev pub on_and : TokenKind → Bool
on_and kinds.AndSign = true
on_and k = on_relation k

abbrev pub on_or : TokenKind → Bool
on_or kinds.OrSign = true
on_or k = on_and k

-- a token of this kind goes on with an expression of the precedence
abbrev pub goes_on : Precedence → TokenKind → Bool
goes_on precedences.Conditional k = on_or k
goes_on precedences.Or k = on_or k
goes_on precedences.And k = on_and k
goes_on precedences.Relation k = on_relation k
goes_on precedences.Sum k = on_sum k
goes_on precedences.Product k = on_product k
goes_on precedences.Unary k = on_member k
goes_on precedences.Member k = on_member k

-- nothing goes on with an expression of the precedence
abbrev pub Stops : Precedence → List Lexeme → Type 0
Stops l [] = Unit {0}
Stops l (lexeme k w ∷ ts) = goes_on l k ≡ false

pub true≢false : true ≡ false → ⊥
true≢false h = false≢true (sym h)

product_member : (k : TokenKind) → on_product k ≡ false → on_member k ≡ false
product_member kinds.Times h = absurd (true≢false h)
product_member k h = h

sum_product : (k : TokenKind) → on_sum k ≡ false → on_product k ≡ false
sum_product kinds.Plus h = absurd (true≢false h)
sum_product kinds.Minus h = absurd (true≢false h)
sum_product k h = h

relation_sum : (k : TokenKind) → on_relation k ≡ false → on_sum k ≡ false
relation_sum kinds.Equal h = absurd (true≢false h)
relation_sum kinds.NotEqual h = absurd (true≢false h)
relation_sum kinds.Less h = absurd (true≢false h)
relation_sum kinds.LessEqual h = absurd (true≢false h)
relation_sum kinds.Greater h = absurd (true≢false h)
relation_sum kinds.GreaterEqual h = absurd (true≢false h)
relation_sum kinds.In h = absurd (true≢false h)
relation_sum kinds.Has h = absurd (true≢false h)
relation_sum kinds.Like h = absurd (true≢false h)
relation_sum kinds.Is h = absurd (true≢false h)
relation_sum k h = h

and_relation : (k : TokenKind) → on_and k ≡ false → on_relation k ≡ false
and_relation kinds.AndSign h = absurd (true≢false h)
and_relation k h = h

or_and : (k : TokenKind) → on_or k ≡ false → on_and k ≡ false
or_and kinds.OrSign h = absurd (true≢false h)
or_and k h = h

pub at_product : (ts : List Lexeme) → Stops precedences.Product ts → Stops precedences.Unary ts
at_product [] h = tt
at_product (lexeme k w ∷ ts) h = product_member k h

pub at_sum : (ts : List Lexeme) → Stops precedences.Sum ts → Stops precedences.Product ts
at_sum [] h = tt
at_sum (lexeme k w ∷ ts) h = sum_product k h

pub at_relation : (ts : List Lexeme) → Stops precedences.Relation ts → Stops precedences.Sum ts
at_relation [] h = tt
at_relation (lexeme k w ∷ ts) h = relation_sum k h

pub at_and : (ts : List Lexeme) → Stops precedences.And ts → Stops precedences.Relation ts
at_and [] h = tt
at_and (lexeme k w ∷ ts) h = and_relation k h

pub at_or : (ts : List Lexeme) → Stops precedences.Or ts → Stops precedences.And ts
at_or [] h = tt
at_or (lexeme k w ∷ ts) h = or_and k h

pub stops_member : (ts : List Lexeme) → Stops precedences.Unary ts → Stops precedences.Member ts
stops_member [] h = tt
stops_member (lexeme k w ∷ ts) h = h

pub stops_unary : (ts : List Lexeme) → Stops precedences.Member ts → Stops precedences.Unary ts
stops_unary [] h = tt
stops_unary (lexeme k w ∷ ts) h = h

pub stops_or : (ts : List Lexeme) → Stops precedences.Conditional ts → Stops precedences.Or ts
stops_or [] h = tt
stops_or (lexeme k w ∷ ts) h = h

-- the level of the operands of a level
abbrev pub tighter : Precedence → Precedence
tighter precedences.Conditional = precedences.Or
tighter precedences.Or = precedences.And
tighter precedences.And = precedences.Relation
tighter precedences.Relation = precedences.Sum
tighter precedences.Sum = precedences.Product
tighter precedences.Product = precedences.Unary
tighter precedences.Unary = precedences.Member
tighter precedences.Member = precedences.Member

pub stops_tighter : (l : Precedence) (ts : List Lexeme) → Stops l ts → Stops (tighter l) ts
stops_tighter precedences.Conditional ts h = stops_or ts h
stops_tighter precedences.Or ts h = at_or ts h
stops_tighter precedences.And ts h = at_and ts h
stops_tighter precedences.Relation ts h = at_relation ts h
stops_tighter precedences.Sum ts h = at_sum ts h
stops_tighter precedences.Product ts h = at_product ts h
stops_tighter precedences.Unary ts h = stops_member ts h
stops_tighter precedences.Member ts h = h

-- where operators go on, or nothing does, the operand ends
pub operand_ends : {l : Precedence} {ts rest : List Lexeme} {a e : BareExpr} → GoesOn l ts a e rest → Stops l rest → Stops (tighter l) ts
operand_ends (no_operator {l = l} {rest = rest}) h = stops_tighter l rest h
operand_ends (or p g) h = refl
operand_ends (and p g) h = refl
operand_ends (plus p g) h = refl
operand_ends (minus p g) h = refl
operand_ends (times p g) h = refl

pub sum_ends : {ts rest : List Lexeme} {a e : BareExpr} → Tests ts a e rest → Stops precedences.Relation rest → Stops precedences.Sum ts
sum_ends (no_test {rest = rest}) h = at_relation rest h
sum_ends (equal p) h = refl
sum_ends (not_equal p) h = refl
sum_ends (less p) h = refl
sum_ends (less_equal p) h = refl
sum_ends (greater p) h = refl
sum_ends (greater_equal p) h = refl
sum_ends (is_in p) h = refl
sum_ends (has p) h = refl
sum_ends (like p) h = refl
sum_ends (is p) h = refl
sum_ends (is_of_in p q) h = refl

-- ---- what an expression begins with

abbrev pub opens_member : TokenKind → Bool
opens_member kinds.True = true
opens_member kinds.False = true
opens_member kinds.Digits = true
opens_member kinds.Quoted = true
opens_member kinds.Slot = true
opens_member kinds.Word = true
opens_member kinds.OpenRound = true
opens_member kinds.OpenSquare = true
opens_member kinds.OpenCurly = true
opens_member k = false

abbrev pub opens_unary : TokenKind → Bool
opens_unary kinds.Not = true
opens_unary kinds.Minus = true
opens_unary k = opens_member k

abbrev pub opens_conditional : TokenKind → Bool
opens_conditional kinds.If = true
opens_conditional k = opens_unary k

-- an expression of the precedence may begin with a token of this kind
abbrev pub opens : Precedence → TokenKind → Bool
opens precedences.Conditional k = opens_conditional k
opens precedences.Or k = opens_unary k
opens precedences.And k = opens_unary k
opens precedences.Relation k = opens_unary k
opens precedences.Sum k = opens_unary k
opens precedences.Product k = opens_unary k
opens precedences.Unary k = opens_unary k
opens precedences.Member k = opens_member k

abbrev pub Begins : (TokenKind → Bool) → List Lexeme → Type 0
Begins f [] = ⊥
Begins f (lexeme k w ∷ ts) = f k ≡ true

member_unary : (k : TokenKind) → opens_member k ≡ true → opens_unary k ≡ true
member_unary kinds.Not h = refl
member_unary kinds.Minus h = refl
member_unary k h = h

unary_conditional : (k : TokenKind) → opens_unary k ≡ true → opens_conditional k ≡ true
unary_conditional kinds.If h = refl
unary_conditional k h = h

begins_more : (f g : TokenKind → Bool) → ((k : TokenKind) → f k ≡ true → g k ≡ true) → (ts : List Lexeme) → Begins f ts → Begins g ts
begins_more f g more [] h = absurd h
begins_more f g more (lexeme k w ∷ ts) h = more k h

primary_begins : {ts rest : List Lexeme} {e : BareExpr} → Primary ts e rest → Begins opens_member ts
primary_begins yes = refl
primary_begins no = refl
primary_begins (number h) = refl
primary_begins (text h) = refl
primary_begins (slot h) = refl
primary_begins (variable h) = refl
primary_begins (entity p h) = refl
primary_begins (function p h) = refl
primary_begins (brackets h) = refl
primary_begins (set h) = refl
primary_begins (record_of h d) = refl

abbrev pub is_not : TokenKind → Bool
is_not kinds.Not = true
is_not k = false

abbrev pub is_minus : TokenKind → Bool
is_minus kinds.Minus = true
is_minus k = false

pub nots_begin : {n : ℕ} {ts rest : List Lexeme} {e : BareExpr} → Nots n ts e rest → Begins is_not ts
nots_begin (last_not p) = refl
nots_begin (more_nots p) = refl

pub minuses_begin : {n : ℕ} {ts rest : List Lexeme} {e : BareExpr} → Minuses n ts e rest → Begins is_minus ts
minuses_begin (last_minus h p) = refl
minuses_begin (negative h) = refl
minuses_begin (more_minuses p) = refl

not_unary : (k : TokenKind) → is_not k ≡ true → opens_unary k ≡ true
not_unary kinds.Not h = refl
not_unary k h = absurd (false≢true h)

minus_unary : (k : TokenKind) → is_minus k ≡ true → opens_unary k ≡ true
minus_unary kinds.Minus h = refl
minus_unary k h = absurd (false≢true h)

pub begins : {l : Precedence} {ts rest : List Lexeme} {e : BareExpr} → Reads l ts e rest → Begins (opens l) ts
begins (conditional p q r) = refl
begins (no_conditional {ts = ts} p) = begins_more opens_unary opens_conditional unary_conditional ts (begins p)
begins (disjunction p g) = begins p
begins (conjunction p g) = begins p
begins (relation p g) = begins p
begins (sum p g) = begins p
begins (product p g) = begins p
begins (no_sign {ts = ts} p) = begins_more opens_member opens_unary member_unary ts (begins p)
begins (nots {ts = ts} m p) = begins_more is_not opens_unary not_unary ts (nots_begin p)
begins (minuses {ts = ts} m p) = begins_more is_minus opens_unary minus_unary ts (minuses_begin p)
begins (member p g) = primary_begins p

-- no token begins both
abbrev pub Apart : (TokenKind → Bool) → (TokenKind → Bool) → Type 0
Apart f g = (k : TokenKind) → f k ≡ true → g k ≡ true → ⊥

pub apart : (f g : TokenKind → Bool) → Apart f g → (ts : List Lexeme) → Begins f ts → Begins g ts → ⊥
apart f g never [] h k = h
apart f g never (lexeme x w ∷ ts) h k = never x h k

pub not_member : Apart is_not opens_member
not_member kinds.Not h k = false≢true k
not_member x h k = false≢true h

pub minus_member : Apart is_minus opens_member
minus_member kinds.Minus h k = false≢true k
minus_member x h k = false≢true h

pub not_minus : Apart is_not is_minus
not_minus kinds.Not h k = false≢true k
not_minus x h k = false≢true h

-- ---- paths

-- no identifier follows behind two colons
abbrev pub ends_path : List Lexeme → Bool
ends_path (lexeme kinds.Colons c ∷ lexeme kinds.Word w ∷ ts) = false
ends_path ts = true

pub path_ends : (ts : List Lexeme) → Stops precedences.Member ts → ends_path ts ≡ true
path_ends [] h = refl
path_ends (lexeme kinds.Colons c ∷ ts) h = absurd (true≢false h)
path_ends (lexeme k w ∷ ts) h = refl

-- a number is alone where its expression ends
pub number_alone : (d : List ℕ) (ts : List Lexeme) → Stops precedences.Member ts → is_number_alone (lexeme kinds.Digits d ∷ ts) ≡ true
number_alone d [] h = refl
number_alone d (lexeme kinds.Dot w ∷ ts) h = absurd (true≢false h)
number_alone d (lexeme kinds.OpenSquare w ∷ ts) h = absurd (true≢false h)
number_alone d (lexeme k w ∷ ts) h = refl

-- ---- primaries

abbrev pub on_primary : TokenKind → Bool
on_primary kinds.OpenRound = true
on_primary kinds.Colons = true
on_primary k = false

abbrev pub EndsPrimary : List Lexeme → Type 0
EndsPrimary [] = Unit {0}
EndsPrimary (lexeme k w ∷ ts) = on_primary k ≡ false

member_primary : (k : TokenKind) → on_member k ≡ false → on_primary k ≡ false
member_primary kinds.Dot h = refl
member_primary kinds.OpenSquare h = refl
member_primary k h = h

stops_primary : (ts : List Lexeme) → Stops precedences.Member ts → EndsPrimary ts
stops_primary [] h = tt
stops_primary (lexeme k w ∷ ts) h = member_primary k h

pub primary_ends : {ts rest : List Lexeme} {a e : BareExpr} → Accesses ts a e rest → Stops precedences.Member rest → EndsPrimary ts
primary_ends (no_access {rest = rest}) h = stops_primary rest h
primary_ends (attribute g) h = refl
primary_ends (index t g) h = refl
primary_ends (method n i w e g) h = refl
