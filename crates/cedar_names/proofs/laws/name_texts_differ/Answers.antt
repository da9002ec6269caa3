use Rattle.cedar_names.proofs.Split.{name_text-differs}
use Rattle.cedar_names.proofs.laws.name_texts_differ.Goals as goal

pub returns : goal.returns
returns c = name_text-differs
