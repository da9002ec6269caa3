-- Which values are records.
use Rattle.std.proofs.Common.{◌≡◌, true, false, List, Some, None, refl}
use Rattle.cedar_builders.specs.BareExpr.{Text}
use Rattle.semantics_values.specs.BareValue.{BareValue, RecordValue}
use Rattle.cedar_evaluator.specs.Kinds.{pairs_in}
use Rattle.cedar_request.specs.Values.{is_record}

module _ {X : Type 0} where
  pub record_at : (t : BareValue X) (ps : List (Text × BareValue X)) → Some ps ≡ pairs_in t
      → true ≡ is_record t
  record_at (RecordValue qs) ps is = refl
  record_at t ps is = cc

  pub no_record_at : (t : BareValue X) → None ≡ pairs_in t → false ≡ is_record t
  no_record_at (RecordValue qs) is = cc
  no_record_at t is = refl
