use Rattle.std.proofs.Common.{ap, sym, ◌∙◌}
use Rattle.std.specs.Prelude.{ok_or}
use Rattle.std.specs.Rc.{rc_str_bytes}
use Rattle.cedar_builders.specs.Keys.{meant_pairs}
use Rattle.cedar_values.specs.BareValues.{bare_value}
use Rattle.semantics_eval.specs.Attributes.{get_in, list_of_pairs_of}
use Rattle.semantics_eval.specs.Outcomes.{Missing}
use Rattle.cedar_evaluator.specs.Kinds.{at_key}
use Rattle.cedar_evaluator.proofs.Paths.{entries_kept}
use Rattle.cedar_evaluator.proofs.fields.Fields.at.Goals as goal

pub returns-clause-found : goal.returns-clause-found
returns-clause-found c =
    let m = c.args.self.now.pairs in
    let k = rc_str_bytes c.args.key.now in
    ap (λ o. ok_or o Missing) (c.look_up.ensures.found
    ∙ (λ i. at_key k (meant_pairs bare_value (c.deref.ensures i).entries)))
    ∙ sym (ap (get_in k) (c.values_by_kind.ensures.record m)
    ∙ ap (λ ps. ok_or (at_key k ps) Missing)
    (list_of_pairs_of (meant_pairs bare_value m.value.entries)))

pub returns-clause-well_formed : goal.returns-clause-well_formed
returns-clause-well_formed c =
    let m = c.args.self.now.pairs in
    c.look_up.ensures.well_formed (entries_kept _ c.deref.ensures
    (sym (c.values_by_kind.ensures.record_kept m) ∙ c.args.self.now.kept))
