-- The pairs of a record (`ValueKind::Record` of Cedar's `value.rs`).
use Rattle.std.specs.Prelude.{List, map}
use Rattle.std.specs.Global.{Global}
use Rattle.std.specs.declared.rc.RcStr.{RcStr}
use Rattle.cedar_builders.specs.Keys.{keyed}
use Rattle.semantics_values.specs.BareValue.{BarePairs, pairs_of}
use Rattle.cedar_values.specs.BareValues.{bare_value}
use Rattle.cedar_values.specs.declared.value.Value.{Value}

-- the keys as texts, each with the tree of its value
abbrev pub bare_pairs : {X : Type 0} → List (RcStr Global × Value X) → BarePairs X
bare_pairs es = pairs_of (keyed (map (λ e. (e.0, bare_value e.1)) es))
