use Rattle.std.proofs.Common.{map, ap, ◌∙◌, sym}
use Rattle.std.proofs.Output.{has_written_of_eq}
use Rattle.std.proofs.lemmas.Iterator.{YieldsList-from_chars}
use Rattle.std.proofs.lemmas.Iterator.Consumers.{YieldsList-end}
use Rattle.std.proofs.lemmas.List.{map-id}
use Rattle.cedar_lexer.specs.Excerpts.{blank_of}
use Rattle.cedar_lexer.proofs.error.write_blanks.Goals as goal

pub returns : goal.returns
returns g c = λ p _.
    let t = YieldsList-end (YieldsList-from_chars c.args.text.now c.utf8.text (cc)) c.loop-c.yielded _ c.loop-c.yielded_by _ _ c.in-None.is c.next.ensures.steps in
    has_written_of_eq _ _ _ _ _ (ap (map blank_of) (sym (map-id c.loop-c.yielded) ∙ t.0)) (c.loop-c.invariant p)
