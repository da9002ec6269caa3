use Rattle.cedar_parser.proofs.CompleteWhole.{told_memory}
use Rattle.cedar_parser.proofs.parser.parse_with_values.Goals as goal

pub returns-in-Err-clause-complete : goal.returns-in-Err-clause-complete
returns-in-Err-clause-complete c tree p = told_memory _ c.args.text.now c.in_text.result c.in_text.ensures (c.in-Err.ensures.complete tree p)
