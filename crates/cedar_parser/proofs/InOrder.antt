-- The tokens of a stream in order, as they are taken.
use Rattle.std.proofs.Common.{◌≡◌, ℕ, ◌≤◌, List, [], ◌∷◌, Option, Some, None, Result, Ok, Err, MatchOption, MatchResult, sym, ◌∙◌, ap, subst, arith}
use Rattle.cedar_parser.specs.declared.operand.Operand.{Operand}
use Rattle.cedar_parser.specs.declared.parser.Parser.{Parser}
use Rattle.cedar_lexer.specs.TokenStreams.{IsPairTaken, IsTaken, IsUntouched, end_of, first_or, next_of, rest_of}
use Rattle.cedar_lexer.specs.Told.{IsProblem}
use Rattle.cedar_lexer.specs.declared.parse_failure.ParseFailure.{ParseFailure}
use Rattle.cedar_lexer.specs.declared.parse_failure.ParseFailure.TheVariants as failure
use Rattle.cedar_lexer.specs.declared.token.TokenKind.{TokenKind}
use Rattle.cedar_lexer.specs.declared.token.Span.{Span}
use Rattle.cedar_lexer.specs.declared.token.Token.{Token}
use Rattle.cedar_lexer.specs.declared.token_stream.TokenStream.{TokenStream}
use Rattle.cedar_parser.specs.Refused.{AreInOrder, IsAbout, IsBefore, IsFirst, IsLeft, IsStep, IsUpTo, IsWithin, next_start, stop_of}

-- the next one is a piece, and ends up to the end
first_fits : (end : Token) (ts : List Token) → AreInOrder end ts
    → ((first_or end ts).span.start ≤ (first_or end ts).span.stop) × ((first_or end ts).span.stop ≤ end.span.stop)
first_fits end [] h = (h, omega arith)
first_fits end (t ∷ ts) h = let k = first_fits end ts h.2 in (h.0, omega (arith, h.1, k.0, k.1))

pub before : (at : ℕ) (tokens : TokenStream) → at ≤ next_start tokens → AreInOrder (end_of tokens) (rest_of tokens) → IsBefore at tokens
before at tokens h order =
    let k = first_fits (end_of tokens) (rest_of tokens) order in record { next = h; piece = k.0; fits = k.1; order = order }

first_taken : (end : Token) (ts : List Token) (t : Token) (us : List Token) → AreInOrder end ts → ts ≡ t ∷ us
    → (first_or end ts ≡ t) × AreInOrder end (t ∷ us)
first_taken end ts t us h e = (ap (first_or end) e, subst (AreInOrder end) e h)

pub taken : (at : ℕ) (old new : TokenStream) (t : Token) → IsBefore at old → IsTaken old t new
    → IsFirst at t new × (stop_of new ≡ stop_of old)
taken at old new t b h =
    let k = first_taken (end_of old) (rest_of old) t (rest_of new) b.order h.0 in
    let o : AreInOrder (end_of new) (t ∷ rest_of new) = subst (λ e. AreInOrder e (t ∷ rest_of new)) (sym h.1) k.1 in
    let n = first_fits (end_of new) (rest_of new) o.2 in
    let s : (next_of old).span.start ≡ t.span.start = ap (λ u. u.span.start) k.0 in (
      record {
        first = omega (arith, b.next, s);
        piece = o.0;
        fits = omega (arith, o.1, n.0, n.1);
        before = record { next = o.1; piece = n.0; fits = n.1; order = o.2 };
      },
      ap (λ u. u.span.stop) h.1,
    )

same_order : (old new : TokenStream) → IsUntouched old new → AreInOrder (end_of old) (rest_of old) → AreInOrder (end_of new) (rest_of new)
same_order old new h o = subst (λ e. AreInOrder e (rest_of new)) (sym h.1) (subst (AreInOrder (end_of old)) (sym h.0) o)

same_next : (old new : TokenStream) → IsUntouched old new → next_of new ≡ next_of old
same_next old new h = ap (λ e. first_or e (rest_of new)) h.1 ∙ ap (first_or (end_of old)) h.0

pub untouched : (at : ℕ) (old new : TokenStream) → IsBefore at old → IsUntouched old new → IsLeft at old new
untouched at old new b h =
    let s : next_start new ≡ next_start old = ap (λ u. u.span.start) (same_next old new h) in record {
      before = before at new (omega (arith, s, b.next)) (same_order old new h b.order);
      stop = ap (λ u. u.span.stop) h.1;
    }

pub earlier : (a b : ℕ) (tokens : TokenStream) → b ≤ a → IsBefore a tokens → IsBefore b tokens
earlier a b tokens h k = record { next = omega (arith, h, k.next); piece = k.piece; fits = k.fits; order = k.order }

-- ---- refusals

pub about : (span : Span) (n : ℕ) (e : ParseFailure) → span.start ≤ span.stop → span.stop ≤ n → IsAbout span e → IsWithin n e
about span n (failure.Syntax s problem) a b h =
    subst (λ (x : Span). (x.start ≤ x.stop) × (x.stop ≤ n)) (sym h) (a, b)
about span n failure.Memory a b h = h

pub wanted : (at : ℕ) (tokens : TokenStream) (told : List ℕ) (e : ParseFailure) → IsBefore at tokens → IsProblem (next_of tokens).span told e
    → IsWithin (stop_of tokens) e
wanted at tokens told (failure.Syntax s problem) b h = about (next_of tokens).span (stop_of tokens) (failure.Syntax s problem) b.piece b.fits h.0
wanted at tokens told failure.Memory b h = absurd h

pub within : (m n : ℕ) (e : ParseFailure) → m ≡ n → IsWithin m e → IsWithin n e
within m n e h k = subst (λ x. IsWithin x e) h k

-- ---- what is left behind one token more

pub here : (at : ℕ) (tokens : TokenStream) → IsBefore at tokens → IsBefore (next_start tokens) tokens
here at tokens h = record { next = omega arith; piece = h.piece; fits = h.fits; order = h.order }

pub skipped : (at : ℕ) (old new : TokenStream) (t : Token) → IsBefore at old → IsTaken old t new → IsLeft at old new
skipped at old new t b h =
    let k = taken at old new t b h in
    record { before = earlier t.span.stop at new (omega (arith, k.0.first, k.0.piece)) k.0.before; stop = k.1 }

pub then_left : (a b : ℕ) (old mid new : TokenStream) → IsLeft a old mid → IsLeft b mid new → IsLeft b old new
then_left a b old mid new h k = record { before = k.before; stop = k.stop ∙ h.stop }

pub left_from : (a b : ℕ) (old new : TokenStream) → b ≤ a → IsLeft a old new → IsLeft b old new
left_from a b old new h k = record { before = earlier a b new h k.before; stop = k.stop }

pub first_from : (a b : ℕ) (t : Token) (tokens : TokenStream) → b ≤ a → IsFirst a t tokens → IsFirst b t tokens
first_from a b t tokens h k = record { first = omega (arith, h, k.first); piece = k.piece; fits = k.fits; before = k.before }

pub maybe_taken : (at : ℕ) (old new : TokenStream) (o : Option Token) (kind : TokenKind) → IsBefore at old
    → MatchOption o (IsUntouched old new) (λ t. (t.kind ≡ kind) × IsTaken old t new) → IsLeft at old new
maybe_taken at old new None kind b h = untouched at old new b h
maybe_taken at old new (Some t) kind b h = skipped at old new t b h.1

pub pair_taken : (at : ℕ) (old new : TokenStream) (kind : TokenKind) (t : Token) → IsBefore at old → IsPairTaken old kind t new
    → IsFirst at t new × (stop_of new ≡ stop_of old)
pair_taken at old new kind t b h =
    let k = first_taken (end_of old) (rest_of old) h.0 (t ∷ rest_of new) b.order h.2 in
    let o : AreInOrder (end_of new) (h.0 ∷ t ∷ rest_of new) = subst (λ e. AreInOrder e (h.0 ∷ t ∷ rest_of new)) (sym h.3) k.1 in
    let n = first_fits (end_of new) (rest_of new) o.2.2 in
    let s : (next_of old).span.start ≡ h.0.span.start = ap (λ u. u.span.start) k.0 in (
      record {
        first = omega (arith, b.next, s, o.0, o.1);
        piece = o.2.0;
        fits = omega (arith, o.2.1, n.0, n.1);
        before = record { next = o.2.1; piece = n.0; fits = n.1; order = o.2.2 };
      },
      ap (λ u. u.span.stop) h.3,
    )

-- a step that takes no token
pub step_about : (at : ℕ) (span : Span) (old new : TokenStream) (r : Parser) (result : Result (Option Operand) ParseFailure)
    → MatchResult result (IsUpTo at r) (IsAbout span) → IsLeft at old new → span.start ≤ span.stop → span.stop ≤ stop_of old
    → IsStep old new r result
step_about at span old new r (Ok h) u l p f = left_from at _ old new (omega (arith, u.opened, u.operand)) l
step_about at span old new r (Err e) u l p f = about span (stop_of old) e p f u

-- a step that takes the last token of what begins at a place
pub step_ended : (at start : ℕ) (old new : TokenStream) (t : Token) (r : Parser) (result : Result (Option Operand) ParseFailure)
    → IsBefore at old → IsTaken old t new → start ≤ at
    → MatchResult result (IsUpTo at r) (IsAbout (record { start = start; stop = t.span.stop }))
    → IsStep old new r result
step_ended at start old new t r result b h p u =
    let k = taken at old new t b h in
    step_about at (record { start = start; stop = t.span.stop }) old new r result u
    (skipped at old new t b h) (omega (arith, p, k.0.first, k.0.piece)) (omega (arith, k.0.fits, k.1))

pub step_opened : (at : ℕ) (old new : TokenStream) (r : Parser) (result : Result (Option Operand) ParseFailure)
    → MatchResult result (IsUpTo at r) (λ e. e ≡ failure.Memory) → IsLeft at old new
    → IsStep old new r result
step_opened at old new r (Ok h) u l = left_from at _ old new (omega (arith, u.opened, u.operand)) l
step_opened at old new r (Err e) u l = subst (IsWithin (stop_of old)) (sym u) tt
