use Rattle.std.proofs.Common.{ap, ◌∙◌, option_map}
use Rattle.cedar_builders.specs.Keys.{meant_pairs}
use Rattle.cedar_evaluator.specs.Kinds.{at_key}
use Rattle.cedar_values.specs.BareValues.{bare_value}
use Rattle.cedar_values.specs.WellFormed.{well_formed}
use Rattle.cedar_evaluator.proofs.Paths.{copied_map, found_kept, looked_up}
use Rattle.cedar_evaluator.proofs.attributes.look_up.Goals as goal

pub returns-clause-found : goal.returns-clause-found
returns-clause-found g c =
    copied_map bare_value c.get.result ∙ ap (option_map bare_value) c.get.ensures.value
    ∙ looked_up c.as_str.result.now c.args.pairs.now.entries
    ∙ ap (λ k. at_key k (meant_pairs bare_value c.args.pairs.now.entries)) c.as_str.ensures.value

pub returns-clause-well_formed : goal.returns-clause-well_formed
returns-clause-well_formed g c =
    found_kept (well_formed g.X.Ord.cmp) _ c.args.pairs.now.entries c.get.result
    c.get.ensures.value
