-- Values without extension values.
use Rattle.std.proofs.Common.{◌≡◌, Bool, true, false, ap, Ok}
use Rattle.std.specs.Prelude.{not, ◌&&◌, if◌then◌else◌, Err}
use Rattle.std.specs.declared.cmp.Ordering.{Ordering}
use Rattle.semantics_values.specs.BareValue.{BareValue}
use Rattle.semantics_values.specs.ValueExpr.{has_extension}
use Rattle.semantics_values.specs.WellFormed.{is_well_formed}
use Rattle.semantics_eval.specs.Outcomes.{Open, Outcome}
use Rattle.semantics_request.specs.Residuals.{plain_or_open}

module _ {X : Type 0} (R : X → X → Ordering) (t : BareValue X) where
  abbrev chosen : Bool → Outcome X
  chosen b = if b then Ok t else Err Open

  -- a well formed value without extension values may be written
  pub is_plain : is_well_formed R t ≡ true → has_extension t ≡ false
      → plain_or_open R (Ok t) ≡ Ok t
  is_plain w h = ap chosen (λ i. w i && not (h i))

  -- and no other one
  pub is_open : is_well_formed R t ≡ true → has_extension t ≡ true
      → plain_or_open R (Ok t) ≡ Err Open
  is_open w h = ap chosen (λ i. w i && not (h i))

pub ruleset plain_laws = (is_plain, is_open)
