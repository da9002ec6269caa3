use Rattle.std.proofs.Common.{◌-◌, length, arith, rules}
use Rattle.std.proofs.lemmas.Bool.Decides.{nat_tests}
use Rattle.cedar_lexer.proofs.BlankLemmas.{rest_fits}
use Rattle.cedar_lexer.proofs.TokenPlacesLemmas.{next_shorter, tokens_begin, tokens_end, tokens_fit, tokens_go_on}
use Rattle.cedar_lexer.proofs.tokenizer.tokenize.Goals as goal

pub tokens-init : goal.tokens-init
tokens-init c = record {
  rest_utf8 = search rules;
  shorter = rest_fits c.skip_blanks-rest.ensures.skips;
  no_blank = c.skip_blanks-rest.ensures.all;
  so_far =
      tokens_begin c.args.text.now c.skip_blanks-rest.result.now c.new-tokens.result.items c.new-tokens.ensures.items
      c.skip_blanks-rest.ensures.skips;
}

pub tokens-preserved : goal.tokens-preserved
tokens-preserved c =
    let next = c.skip_blanks-rest-in-tokens.result.now in
    let before =
    tokens_go_on c.args.text.now c.tokens.rest.now c.in_ok-token.later.now next c.tokens.tokens.items c.push.new.self.items
    c.in_ok-token.token c.tokens.invariant.so_far c.in_ok-token.ensures c.skip_blanks-rest-in-tokens.ensures.skips
    c.in_ok-push.ensures.items in
    record {
      rest_utf8 = search rules;
      shorter = tokens_fit 0 c.args.text.now next c.push.new.self.items before;
      no_blank = c.skip_blanks-rest-in-tokens.ensures.all;
      so_far = before;
    }

pub tokens-smaller : goal.tokens-smaller
tokens-smaller c =
    next_shorter c.tokens.rest.now c.in_ok-token.later.now c.skip_blanks-rest-in-tokens.result.now
    (length c.args.text.now - length c.tokens.rest.now) c.in_ok-token.token c.in_ok-token.ensures c.skip_blanks-rest-in-tokens.ensures.skips

pub returns : goal.returns
returns c = tokens_end c.args.text.now c.tokens.rest.now c.tokens.tokens.items c.tokens.invariant.so_far (grind (arith, nat_tests))
