use Rattle.std.proofs.Common.{◌≡◌}
use Rattle.cedar_values.specs.BareValues.{bare_value, kind_of, value_place}
use Rattle.cedar_values.specs.Kinds.{IsCopy}
use Rattle.cedar_values.specs.WellFormed.{well_formed}
use Rattle.cedar_values.proofs.Making.{copy_of_four}
use Rattle.cedar_values.proofs.value.ValueClone.clone.Goals as goal

pub returns : goal.returns
returns g c =
    let v = c.args.self.now in
    record {
      cases = copy_of_four (λ copy. bare_value copy ≡ bare_value v) (λ copy. value_place copy ≡ value_place v) (λ copy. IsCopy (kind_of v) (kind_of copy)) (λ copy. (R : _) → well_formed R copy ≡ well_formed R v)
          c.copied.result c.copied.ensures.tree c.copied.ensures.place c.copied.ensures.inside c.copied.ensures.well_formed;
    }
