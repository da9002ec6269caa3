use Rattle.std.proofs.Common.{refl, true}
use Rattle.std.proofs.Output.{has_written_append, has_written_of_eq}
use Rattle.cedar_terms.specs.declared.pattern.PatternElem.TheVariants.{Char}
use Rattle.cedar_terms.proofs.PatternTexts.{pattern_text-step}
use Rattle.cedar_terms.proofs.pattern.PatternDisplay.fmt.Goals as goal

pub loop-elem-preserved : goal.loop-elem-preserved
loop-elem-preserved g c = λ p.
    let before = c.loop-elem.invariant p in
    has_written_of_eq _ _ _ _ _ (pattern_text-step c.get_elems-elem-items.result.now c.loop-elem.elem-index (Char 0) c.loop-elem-test.true)
    (has_written_append _ _ _ _ _ _ before (c.in_ok-write_elem.ensures before.plain (refl {a = true})))
