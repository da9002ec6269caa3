-- Tokens that are taken from a sound stream.
use Rattle.std.proofs.Common.{◌≡◌, ◌≤◌, ℕ, suc, List, ◌∷◌, length, IfErr, IfOk, MatchOption, MatchResult, Option, Some, None, Result, Ok, Err, refl, sym, ◌∙◌, ap, subst, arith}
use Rattle.cedar_lexer.specs.Told.{IsProblem}
use Rattle.cedar_lexer.specs.TokenStreams.{IsTaken, IsUntouched, next_of, tokens_left}
use Rattle.cedar_lexer.specs.declared.parse_failure.ParseFailure.{ParseFailure}
use Rattle.cedar_lexer.specs.declared.parse_failure.ParseFailure.TheVariants as failure
use Rattle.cedar_lexer.specs.declared.token.Token.{Token}
use Rattle.cedar_lexer.specs.declared.token.TokenKind.{TokenKind}
use Rattle.cedar_lexer.specs.declared.token_stream.TokenStream.{TokenStream}
use Rattle.semantics_grammar.specs.Lexemes.{lexeme}
use Rattle.cedar_parser.specs.Meant.{AreLexemes, here}
use Rattle.cedar_parser.specs.Refused.{IsWithin, stop_of}
use Rattle.cedar_parser.proofs.InOrder.{earlier, taken, untouched, wanted}
use Rattle.cedar_parser.proofs.TakenSteps.{end_kept, taken_is, untouched_here}
use Rattle.cedar_policy_parser.specs.Streams.{IsRest, IsSound, IsTokenTaken}

-- one token fewer is left
one_fewer : (old new : TokenStream) (t : Token) → IsTaken old t new → tokens_left old ≡ suc (tokens_left new)
one_fewer old new t h = ap length h.0

pub token_taken : (kind : TokenKind) (t : Token) (old new : TokenStream) → IsSound old → t.kind ≡ kind → IsTaken old t new
    → IsTokenTaken kind t old new
token_taken kind t old new s is h =
    let k = taken 0 old new t s.order h in
    let first = taken_is old new t kind is h in
    let lex : AreLexemes (lexeme kind t.text.now ∷ here new) = subst AreLexemes first s.lexemes in
    let fewer = one_fewer old new t h in
    record {
      first = first;
      text = lex.0;
      begins = k.0.piece;
      ends = omega (arith, k.0.fits, k.1);
      rest = record {
        sound = record {
          order = earlier t.span.stop 0 new (omega arith) k.0.before;
          lexemes = lex.1;
          end = end_kept old new h.1 s.end;
        };
        stop = k.1;
        left = omega (arith, fewer);
      };
      fewer = omega (arith, fewer);
    }

pub none_taken : (old new : TokenStream) → IsSound old → IsUntouched old new → IsRest old new × (here new ≡ here old)
none_taken old new s h =
    let same = untouched_here old new h in
    let l = untouched 0 old new s.order h in
    let count : tokens_left new ≡ tokens_left old = ap length h.0 in (
      record {
        sound = record {
          order = l.before;
          lexemes = subst AreLexemes same s.lexemes;
          end = end_kept old new h.1 s.end;
        };
        stop = l.stop;
        left = omega (arith, count);
      },
      sym same,
    )

pub unwanted : (tokens : TokenStream) (told : List ℕ) (e : ParseFailure) → IsSound tokens → IsProblem (next_of tokens).span told e
    → IsWithin (stop_of tokens) e
unwanted tokens told e s h = wanted 0 tokens told e s.order h

-- ---- what is left of what is left

pub rest_refl : (old : TokenStream) → IsSound old → IsRest old old
rest_refl old s = record { sound = s; stop = refl; left = omega arith }

pub rest_rest : (old mid new : TokenStream) → IsRest old mid → IsRest mid new → IsRest old new
rest_rest old mid new h k = record { sound = k.sound; stop = k.stop ∙ h.stop; left = omega (arith, h.left, k.left) }

pub within_rest : (old new : TokenStream) (e : ParseFailure) → IsRest old new → IsWithin (stop_of new) e → IsWithin (stop_of old) e
within_rest old new e h w = subst (λ n. IsWithin n e) h.stop w

pub within_more : (m n : ℕ) (e : ParseFailure) → m ≤ n → IsWithin m e → IsWithin n e
within_more m n (failure.Syntax span problem) h w = (w.0, omega (arith, w.1, h))
within_more m n failure.Memory h w = w

-- ---- what may be there

pub maybe_taken : (kind : TokenKind) (o : Option Token) (old new : TokenStream) → IsSound old
    → MatchOption o (IsUntouched old new) (λ t. (t.kind ≡ kind) × IsTaken old t new)
    → MatchOption o (IsRest old new × (here new ≡ here old)) (λ t. IsTokenTaken kind t old new)
maybe_taken kind None old new s h = none_taken old new s h
maybe_taken kind (Some t) old new s h = token_taken kind t old new s h.0 h.1

pub wanted_taken : (kind : TokenKind) (told : List ℕ) (r : Result Token ParseFailure) (old new : TokenStream) → IsSound old
    → MatchResult r (λ t. (t.kind ≡ kind) × IsTaken old t new) (λ e. IsProblem (next_of old).span told e × IsUntouched old new)
    → MatchResult r (λ t. IsTokenTaken kind t old new) (IsWithin (stop_of old))
wanted_taken kind told (Ok t) old new s h = token_taken kind t old new s h.0 h.1
wanted_taken kind told (Err e) old new s h = unwanted old told e s h.0

pub either_way : {A : Type 0} (P : A → Type 0) (Q : ParseFailure → Type 0) (r : Result A ParseFailure) → IfOk r P → IfErr r Q → MatchResult r P Q
either_way P Q (Ok x) h k = h
either_way P Q (Err e) h k = k

-- the first of the tokens is a piece up to the end
pub first_within : (tokens : TokenStream) → IsSound tokens
    → ((next_of tokens).span.start ≤ (next_of tokens).span.stop) × ((next_of tokens).span.stop ≤ stop_of tokens)
first_within tokens s = (s.order.piece, s.order.fits)

-- a piece that is within what is left is within all
pub about_rest : (old new : TokenStream) (told : List ℕ) (a b : ℕ) → IsRest old new → a ≤ b → b ≤ stop_of new → (a ≤ b) × (b ≤ stop_of old)
about_rest old new told a b h k l = (k, omega (arith, l, h.stop))
