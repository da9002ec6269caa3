use Rattle.cedar_parser.proofs.CompleteTexts.{name_accepted}
use Rattle.cedar_parser.proofs.leaves.name_of.Goals as goal

pub returns-in-Err-clause-complete : goal.returns-in-Err-clause-complete
returns-in-Err-clause-complete c n named plain =
    c.refused_name.ensures.memory
    (name_accepted c.name_texts_differ.ensures c.args.text.now c.in-Err.error _ c.in-Err.ensures.refused n named plain)
