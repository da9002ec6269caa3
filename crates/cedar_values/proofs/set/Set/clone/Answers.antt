use Rattle.std.proofs.Common.{◌≡◌, map}
use Rattle.std.proofs.lemmas.Result.{IfOk-weaker}
use Rattle.cedar_values.specs.BareValues.{bare_value}
use Rattle.cedar_values.specs.HashForms.{is_hash_form}
use Rattle.cedar_values.specs.Sets.{IsSetCopy, has_hash_form}
use Rattle.cedar_values.specs.WellFormed.{set_well_formed}
use Rattle.cedar_values.proofs.WellFormedSets.{same_set}
use Rattle.cedar_values.proofs.set.Set.clone.Goals as goal

pub returns-clause-well_formed : goal.returns-clause-well_formed
returns-clause-well_formed g c =
    IfOk-weaker c.copied.result (IsSetCopy c.args.self.now) (λ s. (R : _) → set_well_formed R s ≡ set_well_formed R c.args.self.now)
    (λ s is R. same_set R s c.args.self.now is.0 is.1) c.copied.ensures

pub returns-clause-hash_form : goal.returns-clause-hash_form
returns-clause-hash_form g c =
    IfOk-weaker c.copied.result (IsSetCopy c.args.self.now) (λ s. has_hash_form s ≡ has_hash_form c.args.self.now)
    (λ s is i. is_hash_form (map bare_value (is.0 i)) (is.1 i)) c.copied.ensures
