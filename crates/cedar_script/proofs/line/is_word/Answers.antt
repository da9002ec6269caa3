use Rattle.std.proofs.Common.{◌∙◌, ap}
use Rattle.std.specs.Bool.{◌==◌}
use Rattle.std.specs.List.{list_any}
use Rattle.cedar_script.proofs.Reading.{no_space_in, one_word}
use Rattle.cedar_script.proofs.line.is_word.Goals as goal

pub returns-then-not-is_empty : goal.returns-then-not-is_empty
returns-then-not-is_empty c = λ h.
    one_word c.args.text.now
    (no_space_in c.args.text.now c.contains.result
    (c.contains.ensures.value ∙ ap (list_any (λ b. b == 32)) c.as_bytes.ensures.value) h)
