use Rattle.cedar_lexer.proofs.BlankLemmas.{no_space_left, spaces_skipped}
use Rattle.cedar_lexer.proofs.tokenizer.skip_spaces.Goals as goal

pub returns-clause-skips : goal.returns-clause-skips
returns-clause-skips c = spaces_skipped c.args.text.now c.trim_start.result.now c.trim_start.ensures.value

pub returns-clause-all : goal.returns-clause-all
returns-clause-all c = no_space_left c.args.text.now c.trim_start.result.now c.trim_start.ensures.value
