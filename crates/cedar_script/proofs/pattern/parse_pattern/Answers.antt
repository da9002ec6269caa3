use Rattle.std.specs.Str.{chars}
use Rattle.cedar_script.proofs.Spelling.{spells_none}
use Rattle.cedar_script.proofs.pattern.parse_pattern.Goals as goal

pub returns-in-Some-first_char-clause-bad : goal.returns-in-Some-first_char-clause-bad
returns-in-Some-first_char-clause-bad c =
    λ _. spells_none c.elems.elems.items (chars c.args.text.now) (chars c.elems.rest.now) _ _ c.elems.invariant.read c.in-Some-first_char.ensures c.in_default.ensures
