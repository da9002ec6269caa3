use Rattle.cedar_lexer.proofs.Lines.{last_found, no_last_found}
use Rattle.cedar_lexer.proofs.error.last_line.Goals as goal

pub returns-in-Some : goal.returns-in-Some
returns-in-Some c = last_found c.args.text.now _ c.in-Some.line.now c.in-Some.ensures.cases

pub returns-in-None : goal.returns-in-None
returns-in-None c = no_last_found c.args.text.now c.in-None.ensures.cases
