use Rattle.std.proofs.Common.{◌≡◌, ◌+◌, ◌∙◌, Err, ap, length, rules, sym}
use Rattle.cedar_lexer.proofs.FirstTokenLemmas.{lexeme_cut, no_lexeme, token_at}
use Rattle.cedar_lexer.specs.FirstTokens.{full_kind}
use Rattle.cedar_lexer.proofs.tokenizer.first_token.Goals as goal

pub returns-in_err-kind : goal.returns-in_err-kind
returns-in_err-kind c =
    let same : c.from_residual.result ≡ Err c.in_err-kind.field-0.0 = search rules in
    rw same (no_lexeme c.args.text.now c.in_err-kind.ensures.kind, c.in_err-kind.ensures.told)

pub split_at-requires : goal.split_at-requires
split_at-requires c = lexeme_cut c.args.text.now c.in_ok-kind.kind c.in_ok-kind.length c.utf8.text c.in_ok-kind.ensures.kind

pub returns : goal.returns
returns c =
    let w = sym c.token.ensures.text in
    token_at c.args.start c.args.text.now c.split_at.result.1.now c.in_ok-kind.kind c.in_ok-kind.length c.token.result
    c.in_ok-kind.ensures.kind (c.token.ensures.text ∙ c.split_at.ensures.front) c.split_at.ensures.back
    (c.token.ensures.kind ∙ ap (λ t. full_kind c.in_ok-kind.kind t) w) c.token.ensures.start
    (c.token.ensures.stop ∙ ap (λ t. c.args.start + length t) w)
