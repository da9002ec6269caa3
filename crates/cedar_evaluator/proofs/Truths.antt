-- Outcomes that are no Booleans.
use Rattle.std.proofs.Common.{◌≡◌, Option, None, Some, Result, Ok, Err, ok_or, refl, ap}

abbrev fault_of : {A E : Type 0} → E → Result A E → E
fault_of e (Ok a) = e
fault_of e (Err f) = f

-- what has no Boolean has this fault
pub no_truth : {A E : Type 0} (o : Option A) (e f : E) → ok_or o e ≡ Err f → e ≡ f
no_truth None e f h = ap (fault_of e) h
no_truth (Some a) e f h = ap (fault_of e) h
