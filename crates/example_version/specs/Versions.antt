-- Versions and their comparisons.
use Rattle.std.specs.Prelude.{◌≡◌, ◌↔◌, ◌<◌, ◌≤◌, ◌⊎◌, ⊤, codes, IsTrue, Option, Some, None, Ok, Err}
use Rattle.semantics_values.specs.BareValue.{BareValue, LitValue, ExtensionValue}
use Rattle.cedar_values.specs.BareValues.{bare_value}
use Rattle.cedar_terms.specs.Literals.{BoolLit}
use Rattle.cedar_names.specs.Names.{BareName, unqualified}
use Rattle.cedar_calls.specs.OutputValues.{Answer}
use Rattle.cedar_calls.specs.declared.output_value.ExtensionOutputValue.TheVariants.{Known, Unknown}
use Rattle.example_version.specs.declared.version.Version.{Version}
use Rattle.example_version.specs.declared.functions.Comparison.{Comparison}
use Rattle.example_version.specs.declared.functions.Comparison.TheVariants.{IsOlder, IsCompatible}

-- the name of the type
abbrev pub version_name : Version → BareName
version_name v = unqualified (codes "version")

-- the version that a value is, if it is one
abbrev pub version_in : BareValue Version → Option Version
version_in (ExtensionValue v given) = Some v
version_in v = None

-- the comparison holds of two versions: the first is older, or it serves where the second is wanted
abbrev pub Holds : Comparison → Version → Version → Type 0
Holds IsOlder v w = (v.major < w.major) ⊎ ((v.major ≡ w.major) × (v.minor < w.minor))
Holds IsCompatible v w = (v.major ≡ w.major) × (w.minor ≤ v.minor)

-- the value says whether a fact holds
abbrev pub Says : Type 0 → BareValue Version → Type 0
Says P (LitValue (BoolLit b)) = IsTrue b ↔ P
Says P v = ⊥

-- what is answered of two versions is whether the comparison holds of them, or a refusal; of
-- anything else a refusal
abbrev pub Compares : Comparison → Option Version → Option Version → Answer Version → Type 0
Compares f (Some v) (Some w) (Ok (Known x)) = Says (Holds f v w) (bare_value x)
Compares f v w (Ok o) = ⊥
Compares f v w (Err refusal) = ⊤
