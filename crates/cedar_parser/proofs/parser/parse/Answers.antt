use Rattle.cedar_parser.proofs.Placed.{wider}
use Rattle.cedar_parser.proofs.Tokenized.{all_fit}
use Rattle.cedar_parser.specs.Places.{IsPlaced}
use Rattle.std.proofs.Common.{arith}
use Rattle.std.proofs.Common.{length}
use Rattle.std.proofs.Common.{◌≡◌, ◌∙◌, Err, subst, sym, rules}
use Rattle.cedar_exprs.specs.BareExpr.{bare_expr}
use Rattle.cedar_lexer.specs.TokenStreams.{IsEndBehind, end_of}
use Rattle.cedar_parser.specs.Refused.{IsWithin, stop_of}
use Rattle.cedar_parser.proofs.Tokenized.{all_before, stopped_within, stuck_within}
use Rattle.cedar_parser.proofs.CompleteWhole.{text_stands}
use Rattle.cedar_parser.proofs.Whole.{lexemes_of_text, text_parsed}
use Rattle.cedar_parser.proofs.parser.parse.Goals as goal

pub returns-in_err-found-clause-refused : goal.returns-in_err-found-clause-refused
returns-in_err-found-clause-refused c =
    let e = c.in_err-found.field-0.0 in
    let same : c.from_residual.result ≡ Err e = search rules in
    rw same (stuck_within c.args.text.now e c.in_err-found.ensures)

pub parse_tokens-requires : goal.parse_tokens-requires
parse_tokens-requires c =
    let tokens = c.new.result in
    let same = c.deref.ensures.value in
    all_before c.args.text.now c.in_ok-found.found.items tokens c.in_ok-found.ensures (c.new.ensures.all ∙ same)
    (subst (λ ts. IsEndBehind ts (end_of tokens)) same c.new.ensures.end)

pub returns-in-Ok-clause-parses : goal.returns-in-Ok-clause-parses
returns-in-Ok-clause-parses c none =
    let text = c.args.text.now in
    let found = c.in_ok-found.found.items in
    let tokens = c.new.result in
    let all = c.new.ensures.all ∙ c.deref.ensures.value in
    text_parsed text found tokens (bare_expr c.in-Ok.expr) c.in_ok-found.ensures all
    (c.in-Ok.ensures.parses none c.new.ensures.end.0 (lexemes_of_text text found tokens c.in_ok-found.ensures all))

pub told_of_signs-requires : goal.told_of_signs-requires
told_of_signs-requires c =
    let tokens = c.new-in-Err.result in
    let same = c.deref-in-Err.ensures.value in
    all_before c.args.text.now c.in_ok-found.found.items tokens c.in_ok-found.ensures (c.new-in-Err.ensures.all ∙ same)
    (subst (λ ts. IsEndBehind ts (end_of tokens)) same c.new-in-Err.ensures.end)

pub returns-clause-refused : goal.returns-clause-refused
returns-clause-refused c =
    let first = c.new.result in
    let tokens = c.new-in-Err.result in
    let found = c.in_ok-found.found.items in
    let before = subst (λ ts. IsEndBehind ts (end_of first)) c.deref.ensures.value c.new.ensures.end in
    let behind = subst (λ ts. IsEndBehind ts (end_of tokens)) c.deref-in-Err.ensures.value c.new-in-Err.ensures.end in
    let within = subst (λ n. IsWithin n c.in-Err.failure) (before.3 ∙ sym behind.3) c.in-Err.ensures.refused in
    stopped_within c.args.text.now found tokens c.told_of_signs.result c.in_ok-found.ensures behind (c.told_of_signs.ensures.within within)

pub returns-in_err-found-clause-complete : goal.returns-in_err-found-clause-complete
returns-in_err-found-clause-complete c =
    let e = c.in_err-found.field-0.0 in
    let same : c.from_residual.result ≡ Err e = search rules in
    rw same (λ tree p. c.tokens_are_unique.ensures.accepted c.args.text.now p.0 e p.1 c.in_err-found.ensures)

pub returns-clause-complete : goal.returns-clause-complete
returns-clause-complete c tree p =
    let text = c.args.text.now in
    let found = c.in_ok-found.found.items in
    let tokens = c.new.result in
    let all = c.new.ensures.all ∙ c.deref.ensures.value in
    c.told_of_signs.ensures.memory
    (c.in-Err.ensures.complete c.new.ensures.end.0 (lexemes_of_text text found tokens c.in_ok-found.ensures all) tree
    (text_stands text found tokens tree c.tokens_are_unique.ensures.same c.in_ok-found.ensures all p))

pub returns-in-Ok-clause-places : goal.returns-in-Ok-clause-places
returns-in-Ok-clause-places c none =
    let text = c.args.text.now in
    let found = c.in_ok-found.found.items in
    let tokens = c.new.result in
    let behind = subst (λ ts. IsEndBehind ts (end_of tokens)) c.deref.ensures.value c.new.ensures.end in
    let stop = stop_of tokens in
    let p : IsPlaced text 0 stop c.in-Ok.expr =
    subst (λ s. IsPlaced s 0 stop c.in-Ok.expr) c.in_ok-source.ensures.ok (c.in-Ok.ensures.places none) in
    wider {a = 0} {b = stop} 0 (length text) (omega arith) (all_fit text found tokens c.in_ok-found.ensures behind) p
