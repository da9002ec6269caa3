use Rattle.std.proofs.Common.{◌≡◌, List, ◌∙◌}
use Rattle.std.proofs.lemmas.Result.{IfOk-weaker}
use Rattle.std.specs.Iterator.Runs.{WholeRun}
use Rattle.cedar_terms.specs.declared.pattern.PatternElem.{PatternElem}
use Rattle.cedar_terms.proofs.pattern.Pattern.from_items.Goals as goal

pub returns : goal.returns
returns g c =
    let run = c.in_ok-elems.ensures.runs tt in
    IfOk-weaker _ _ (λ (p : List PatternElem). WholeRun g.I.Iterator.next_gives c.args.items (λ r. p ≡ r.items)) (λ p e. (run.0, run.1, run.2, e ∙ run.3.0)) c.from_vec.ensures
