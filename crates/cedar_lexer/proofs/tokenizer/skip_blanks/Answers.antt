use Rattle.std.proofs.Common.{◌∙◌, arith, rules, sym}
use Rattle.std.proofs.lemmas.Bool.{false≢true}
use Rattle.cedar_lexer.proofs.BlankLemmas.{comment_skipped, comment_some, line_shorter, no_blank_left}
use Rattle.cedar_lexer.proofs.tokenizer.skip_blanks.Goals as goal

pub comments-preserved : goal.comments-preserved
comments-preserved c = record {
  rest_utf8 = search rules;
  so_far =
      comment_skipped c.args.text.now c.comments.rest.now c.behind_line.result.now c.skip_spaces-rest-in-comments.result.now
      c.comments.invariant.so_far (c.begins_comment.ensures.0 c.comments-test.true) c.behind_line.ensures
      c.skip_spaces-rest-in-comments.ensures.skips;
  no_space = c.skip_spaces-rest-in-comments.ensures.all;
}

pub comments-smaller : goal.comments-smaller
comments-smaller c =
    let some = comment_some c.comments.rest.now (c.begins_comment.ensures.0 c.comments-test.true) in
    let fewer = line_shorter c.comments.rest.now c.behind_line.result.now some c.behind_line.ensures in
    omega (arith, fewer, c.skip_spaces-rest-in-comments.ensures.shorter)

pub returns-clause-all : goal.returns-clause-all
returns-clause-all c = λ rest h.
    no_blank_left h c.comments.invariant.no_space (λ b. false≢true (sym c.comments-test.false ∙ c.begins_comment.ensures.1 b))
