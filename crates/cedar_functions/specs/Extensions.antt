-- Values of Cedar's extension types: the names of their types, and the calls that make them.
use Rattle.std.specs.Prelude.{ℕ, Bool, true, false, List, ◌++◌, codes}
use Rattle.cedar_names.specs.Names.{BareName, unqualified}
use Rattle.cedar_terms.specs.Literals.{StringLit}
use Rattle.cedar_builders.specs.BareExpr.{BareExpr, Lit, ExtensionFunctionApp, no_trees, tree}
use Rattle.cedar_extensions.specs.Datetimes.{datetime_text}
use Rattle.cedar_extensions.specs.Decimals.{decimal_text}
use Rattle.cedar_extensions.specs.Durations.{duration_text}
use Rattle.cedar_extensions.specs.IpAddrs.{ip_addr_text}
use Rattle.semantics_values.specs.BareValue.{BareCall}
use Rattle.cedar_functions.specs.declared.extension.BuiltinExtension.{BuiltinExtension}
use Rattle.cedar_functions.specs.declared.extension.BuiltinExtension.TheVariants as of

-- the name of the type
abbrev pub type_text : BuiltinExtension → List ℕ
type_text (of.Decimal d) = codes "decimal"
type_text (of.IpAddr r) = codes "ipaddr"
type_text (of.Datetime d) = codes "datetime"
type_text (of.Duration d) = codes "duration"

abbrev pub type_name_of : BuiltinExtension → BareName
type_name_of x = unqualified (type_text x)

-- the text of the call that makes it
abbrev pub extension_text : BuiltinExtension → List ℕ
extension_text (of.Decimal d) =
    codes "decimal(\"" ++ decimal_text d.ten_thousandths ++ codes "\")"
extension_text (of.IpAddr r) = codes "ip(\"" ++ ip_addr_text r ++ codes "\")"
extension_text (of.Datetime d) = datetime_text d.milliseconds
extension_text (of.Duration d) =
    codes "duration(\"" ++ duration_text d.milliseconds ++ codes "\")"

-- the call of a function on a text
abbrev pub call_on : List ℕ → List ℕ → BareCall
call_on function text = record {
  func = unqualified function;
  args = tree (Lit (StringLit text)) no_trees;
}

-- the same as an expression
abbrev pub made_of : List ℕ → List ℕ → BareExpr
made_of function text =
    ExtensionFunctionApp (unqualified function) (tree (Lit (StringLit text)) no_trees)

-- the call that makes a value; a moment is made of the first day of 1970 and a duration, since no
-- text stands for a moment past the year 9999
abbrev pub canonical_call : BuiltinExtension → BareCall
canonical_call (of.Decimal d) = call_on (codes "decimal") (decimal_text d.ten_thousandths)
canonical_call (of.IpAddr r) = call_on (codes "ip") (ip_addr_text r)
canonical_call (of.Datetime d) = record {
  func = unqualified (codes "offset");
  args = tree (made_of (codes "datetime") (codes "1970-01-01"))
      (tree (made_of (codes "duration") (duration_text d.milliseconds)) no_trees);
}
canonical_call (of.Duration d) = call_on (codes "duration") (duration_text d.milliseconds)

-- a text that names its type alone
abbrev pub short_text : BuiltinExtension → List ℕ
short_text (of.Decimal d) = codes "decimal(..)"
short_text (of.IpAddr r) = codes "ip(..)"
short_text (of.Datetime d) = codes "datetime(..)"
short_text (of.Duration d) = codes "duration(..)"

-- Cedar compares moments and durations by `<` too
abbrev pub is_compared : BuiltinExtension → Bool
is_compared (of.Decimal d) = false
is_compared (of.IpAddr r) = false
is_compared (of.Datetime d) = true
is_compared (of.Duration d) = true
