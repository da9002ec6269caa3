-- What a word begins: a variable, an entity or a call, behind the path that it begins.
use Rattle.std.proofs.Common.{◌≡◌, ℕ, Bool, true, false, List, ◌∷◌, None, refl, sym, ◌∙◌, ap, subst, arith}
use Rattle.std.proofs.lemmas.Bool.{false≢true}
use Rattle.cedar_names.specs.Names.{BareName}
use Rattle.cedar_terms.specs.Ops.{var_text}
use Rattle.cedar_terms.specs.declared.var.Var.{Var as Variable}
use Rattle.cedar_terms.specs.declared.precedence.Precedence.TheVariants as precedences
use Rattle.cedar_builders.specs.BareExpr.{Text, BareExprs}
use Rattle.cedar_lexer.specs.declared.token.TokenKind.{TokenKind}
use Rattle.cedar_lexer.specs.declared.token.TokenKind.TheVariants as kinds
use Rattle.semantics_grammar.specs.Lexemes.{Lexeme, lexeme}
use Rattle.semantics_grammar.specs.Written.{ArePathIds, IsTextOf, last_id}
use Rattle.semantics_grammar.specs.Grammar.{Items}
use Rattle.cedar_parser.specs.Waiting.{Waiting, arguments, last_of, Group}
use Rattle.cedar_parser.specs.Ahead.{GoesOnAfter, Rest, RowGoesOn, ends_path}
use Rattle.cedar_parser.specs.Meant.{first_kind}
use Rattle.cedar_parser.proofs.Ascending.{rest_dead}
use Rattle.cedar_parser.proofs.Onward.{behind_first, no_number, primary_ahead}
use Rattle.cedar_parser.proofs.Resuming.{AfterWord, after_word, is_call, is_entity, is_variable}
use Rattle.cedar_parser.proofs.AheadSteps.{rest_ends_path}
use Rattle.cedar_parser.proofs.Words.{one_path}

-- what stands behind the path that a word begins
pub data WordAhead (gs : List Group) (ws : List Waiting) (path : Text) (ts : List Lexeme) : Type 0 where
  variable_ahead : (v : Variable) → path ≡ var_text v → Rest gs ws precedences.Member ts → WordAhead gs ws path ts
  entity_ahead : (c q : List ℕ) (t : Text) (rest : List Lexeme) → ts ≡ lexeme kinds.Colons c ∷ lexeme kinds.Quoted q ∷ rest → IsTextOf q t
      → Rest gs ws precedences.Member rest → WordAhead gs ws path ts
  call_ahead : (o : List ℕ) (es : BareExprs) (us rest : List Lexeme) → ts ≡ lexeme kinds.OpenRound o ∷ us → Items kinds.CloseRound us es rest
      → Rest gs ws precedences.Member rest → WordAhead gs ws path ts

abbrev is_digits : TokenKind → Bool
is_digits kinds.Digits = true
is_digits k = false

after_path : (gs : List Group) (ws : List Waiting) (path w : Text) (ts us : List Lexeme) {from : List Lexeme} → AfterWord w ts from
    → Rest gs ws precedences.Member from → ArePathIds (lexeme kinds.Word w ∷ ts) path us → ends_path us ≡ true → WordAhead gs ws path us
after_path gs ws path w ts us (is_variable v e f) h p end =
    let at : Rest gs ws precedences.Member ts = subst (Rest gs ws precedences.Member) f h in
    let one = one_path p last_id end (rest_ends_path gs ws precedences.Member ts at) in
    variable_ahead v (one.0 ∙ e) (subst (Rest gs ws precedences.Member) (sym one.1) at)
after_path gs ws path w ts us {from = from} (is_entity {c = c} {q = q} {t = t} n i x) h p end =
    entity_ahead c q t from (one_path p i.ids end refl).1 x h
after_path gs ws path w ts us {from = from} (is_call {o = o} {es = es} {us = vs} n i x) h p end =
    call_ahead o es vs from (one_path p i.ids end refl).1 x h

pub word_ahead : (gs : List Group) (ws : List Waiting) (path w : Text) (ts us : List Lexeme) → GoesOnAfter gs ws None (lexeme kinds.Word w ∷ ts)
    → ArePathIds (lexeme kinds.Word w ∷ ts) path us → ends_path us ≡ true → WordAhead gs ws path us
word_ahead gs ws path w ts us h p end =
    let f = no_number (Rest gs ws) (last_of None ws) kinds.Word w ts (λ e. false≢true (ap is_digits e)) in
    let x = primary_ahead gs ws (lexeme kinds.Word w ∷ ts) refl f h in
    after_path gs ws path w ts us (after_word x.2) x.3 p end

abbrev is_colons : List Lexeme → Bool
is_colons (lexeme kinds.Colons c ∷ ts) = true
is_colons ts = false

-- an entity behind `::`
pub entity_behind : (gs : List Group) (ws : List Waiting) (path c : Text) (ts : List Lexeme) → WordAhead gs ws path (lexeme kinds.Colons c ∷ ts)
    → (q : List ℕ) × (t : Text) × (rest : List Lexeme) × (ts ≡ lexeme kinds.Quoted q ∷ rest) × IsTextOf q t × Rest gs ws precedences.Member rest
entity_behind gs ws path c ts (variable_ahead v e h) = absurd (rest_dead gs ws kinds.Colons c ts precedences.Member refl (omega arith) h)
entity_behind gs ws path c ts (entity_ahead d q t rest e x h) = (q, t, rest, ap behind_first e, x, h)
entity_behind gs ws path c ts (call_ahead o es us rest e x h) = absurd (false≢true (sym (ap is_colons e)))

-- arguments behind a bracket
pub call_behind : (gs : List Group) (ws : List Waiting) (path o : Text) (ts : List Lexeme) (n : BareName) → WordAhead gs ws path (lexeme kinds.OpenRound o ∷ ts)
    → RowGoesOn gs ws (arguments n) 0 ts
call_behind gs ws path o ts n (variable_ahead v e h) = absurd (rest_dead gs ws kinds.OpenRound o ts precedences.Member refl (omega arith) h)
call_behind gs ws path o ts n (entity_ahead d q t rest e x h) = absurd (false≢true (ap is_colons e))
call_behind gs ws path o ts n (call_ahead p es us rest e x h) =
    (es, rest, subst (λ y. Items kinds.CloseRound y es rest) (sym (ap behind_first e)) x, tt, h)

-- else a variable
pub variable_behind : (gs : List Group) (ws : List Waiting) (path : Text) (ts : List Lexeme) → (first_kind ts ≡ kinds.Colons → ⊥)
    → (first_kind ts ≡ kinds.OpenRound → ⊥) → WordAhead gs ws path ts → (v : Variable) × (path ≡ var_text v) × Rest gs ws precedences.Member ts
variable_behind gs ws path ts c o (variable_ahead v e h) = (v, e, h)
variable_behind gs ws path ts c o (entity_ahead d q t rest e x h) = absurd (c (ap first_kind e))
variable_behind gs ws path ts c o (call_ahead p es us rest e x h) = absurd (o (ap first_kind e))
