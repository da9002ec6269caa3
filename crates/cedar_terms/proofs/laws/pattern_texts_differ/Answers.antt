use Rattle.cedar_terms.proofs.PatternTexts.{pattern_text-differs, pattern_bytes-differ}
use Rattle.cedar_terms.proofs.laws.pattern_texts_differ.Goals as goal

pub returns-clause-characters : goal.returns-clause-characters
returns-clause-characters c = pattern_text-differs

pub returns-clause-bytes : goal.returns-clause-bytes
returns-clause-bytes c = pattern_bytes-differ
