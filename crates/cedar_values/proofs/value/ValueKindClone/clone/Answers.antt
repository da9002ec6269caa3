use Rattle.std.proofs.Common.{◌≡◌}
use Rattle.cedar_values.specs.BareValues.{bare_value_kind}
use Rattle.cedar_values.specs.Kinds.{IsCopy}
use Rattle.cedar_values.specs.WellFormed.{kind_well_formed}
use Rattle.cedar_values.proofs.Making.{copy_of_three}
use Rattle.cedar_values.proofs.value.ValueKindClone.clone.Goals as goal

pub returns : goal.returns
returns g c =
    let k = c.args.self.now in
    record {
      cases = copy_of_three (λ copy. bare_value_kind copy ≡ bare_value_kind k) (IsCopy k) (λ copy. (R : _) → kind_well_formed R copy ≡ kind_well_formed R k)
          c.copied.result c.copied.ensures.tree c.copied.ensures.inside c.copied.ensures.well_formed;
    }
