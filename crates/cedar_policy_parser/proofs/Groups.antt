-- Groups of tokens that are taken from a sound stream.
use Rattle.std.proofs.Common.{◌≡◌, ◌≤◌, ◌+◌, List, [], ◌∷◌, ◌++◌, length, length-append, IfErr, IfOk, MatchResult, Result, Ok, Err, refl, sym, ◌∙◌, ap, subst, arith}
use Rattle.cedar_lexer.specs.TokenStreams.{end_of, first_or, next_of, rest_of, tokens_left}
use Rattle.cedar_lexer.specs.declared.token.Span.{Span}
use Rattle.cedar_lexer.specs.declared.token.Token.{Token}
use Rattle.cedar_lexer.specs.declared.token.TokenKind.TheVariants as kinds
use Rattle.cedar_lexer.specs.declared.token_stream.TokenStream.{TokenStream}
use Rattle.semantics_grammar.specs.Lexemes.{Lexeme, lexeme_of, lexemes_of}
use Rattle.cedar_parser.specs.Meant.{AreLexemes, here}
use Rattle.cedar_parser.specs.Refused.{AreInOrder, stop_of}
use Rattle.cedar_parser.proofs.InOrder.{before}
use Rattle.cedar_parser.proofs.TakenSteps.{end_kept}
use Rattle.cedar_builders.specs.BareExpr.{BareExpr}
use Rattle.cedar_lexer.specs.declared.parse_failure.ParseFailure.{ParseFailure}
use Rattle.cedar_lexer.specs.declared.parse_failure.ParseFailure.TheVariants as failure
use Rattle.semantics_grammar.specs.Grammar.{Stands}
use Rattle.cedar_parser.specs.Refused.{IsWithin}
use Rattle.cedar_policy_parser.specs.Streams.{BeginsWithExpr, IsGroupTaken, IsRest, IsSound}
use Rattle.cedar_policy_parser.proofs.Taken.{within_more}

lexemes_split : (xs ys : List Token) → lexemes_of (xs ++ ys) ≡ lexemes_of xs ++ lexemes_of ys
lexemes_split [] ys = refl
lexemes_split (x ∷ xs) ys = ap (λ ts. lexeme_of x ∷ ts) (lexemes_split xs ys)

both_lexemes : (xs : List Token) (ys : List Lexeme) → AreLexemes (lexemes_of xs ++ ys) → AreLexemes (lexemes_of xs) × AreLexemes ys
both_lexemes [] ys h = (tt, h)
both_lexemes (x ∷ xs) ys h = let k = both_lexemes xs ys h.1 in ((h.0, k.0), k.1)

-- the tokens behind are in order
order_behind : (end : Token) (xs ys : List Token) → AreInOrder end (xs ++ ys) → AreInOrder end ys
order_behind end [] ys h = h
order_behind end (x ∷ xs) ys h = order_behind end xs ys h.2

-- the first of some tokens is a piece
first_piece : (end : Token) (ys : List Token) → AreInOrder end ys → (first_or end ys).span.start ≤ (first_or end ys).span.stop
first_piece end [] h = h
first_piece end (y ∷ ys) h = h.0

-- the tokens before are in order, up to where the next one begins
order_before : (end stop : Token) (xs ys : List Token) → stop.span ≡ (first_or end ys).span → AreInOrder end (xs ++ ys) → AreInOrder stop xs
order_before end stop [] ys e h = subst (λ (s : Span). s.start ≤ s.stop) (sym e) (first_piece end ys h)
order_before end stop (x ∷ []) ys e h =
    (h.0, subst (λ (s : Span). x.span.stop ≤ s.start) (sym e) h.1, order_before end stop [] ys e h.2)
order_before end stop (x ∷ z ∷ xs) ys e h = (h.0, h.1, order_before end stop (z ∷ xs) ys e h.2)

pub group_taken : (group old new : TokenStream) → IsSound old → rest_of old ≡ rest_of group ++ rest_of new → end_of new ≡ end_of old
    → (end_of group).kind ≡ kinds.End → (end_of group).span ≡ (next_of new).span → IsGroupTaken group old new
group_taken group old new s all same kind place =
    let split : here old ≡ here group ++ here new = ap lexemes_of all ∙ lexemes_split (rest_of group) (rest_of new) in
    let lex = both_lexemes (rest_of group) (here new) (subst AreLexemes split s.lexemes) in
    let order : AreInOrder (end_of new) (rest_of group ++ rest_of new) =
    subst (λ e. AreInOrder e (rest_of group ++ rest_of new)) (sym same) (subst (AreInOrder (end_of old)) all s.order.order) in
    let behind = before 0 new (omega arith) (order_behind (end_of new) (rest_of group) (rest_of new) order) in
    let inside = before 0 group (omega arith) (order_before (end_of new) (end_of group) (rest_of group) (rest_of new) place order) in
    let at : stop_of group ≡ (next_of new).span.stop = ap (λ (p : Span). p.stop) place in
    let stop : stop_of new ≡ stop_of old = ap (λ (t : Token). t.span.stop) same in
    let count : tokens_left old ≡ tokens_left group + tokens_left new = ap length all ∙ length-append (rest_of group) (rest_of new) in
    record {
      all = split;
      sound = record { order = inside; lexemes = lex.0; end = kind };
      ends = omega (arith, at, stop, behind.fits);
      rest = record {
        sound = record { order = behind; lexemes = lex.1; end = end_kept old new same s.end };
        stop = stop;
        left = omega (arith, count);
      };
    }

-- ---- an expression, all tokens of a group

pub expression_parsed : (e : BareExpr) (group old new : TokenStream) → IsGroupTaken group old new → Stands (here group) e
    → BeginsWithExpr (here old) e (here new) × IsRest old new
expression_parsed e group old new g h = (record { expr = here group; split = g.all; stands = h }, g.rest)

pub group_refused : (group old new : TokenStream) (e : ParseFailure) → IsGroupTaken group old new → IsWithin (stop_of group) e → IsWithin (stop_of old) e
group_refused group old new e g w = within_more (stop_of group) (stop_of old) e g.ends w

pub group_place : (group old new : TokenStream) → IsGroupTaken group old new
    → ((next_of group).span.start ≤ (next_of group).span.stop) × ((next_of group).span.stop ≤ stop_of old)
group_place group old new g = (g.sound.order.piece, omega (arith, g.sound.order.fits, g.ends))

-- the tree is the only one
pub tree_given : {A : Type 0} (f : A → BareExpr) (ts : List Lexeme) (tree : BareExpr) (r : Result A ParseFailure)
    → ((ts : List Lexeme) (a b : BareExpr) → Stands ts a → Stands ts b → a ≡ b) → IfOk r (λ x. Stands ts (f x))
    → IfErr r (λ e. (t : BareExpr) → Stands ts t → e ≡ failure.Memory) → Stands ts tree
    → MatchResult r (λ x. f x ≡ tree) (λ e. e ≡ failure.Memory)
tree_given f ts tree (Ok x) one p c h = one ts (f x) tree p h
tree_given f ts tree (Err e) one p c h = c tree h

pub ruleset expression_rules = (expression_parsed, group_refused, group_place)
