-- Functions by name (`Extension::new` of Cedar's `extension.rs`).
use Rattle.std.specs.Prelude.{◌≡◌, Bool, Option, Some, None, List, fold, if◌then◌else◌}
use Rattle.std.specs.BTreeMap.{BTreeMap}
use Rattle.std.specs.declared.cmp.Ord as ord
use Rattle.std.specs.declared.cmp.PartialEq as eq
use Rattle.std.specs.declared.cmp.PartialOrd as order
use Rattle.cedar_names.specs.NameOrder.{name_eq}
use Rattle.cedar_names.specs.Names.{BareName}
use Rattle.cedar_names.specs.PlainNames.{bare_name}
use Rattle.cedar_names.specs.declared.name.Name.{Name}
use Rattle.cedar_values.specs.declared.extension_value.ExtensionValue as values
use Rattle.cedar_calls.specs.Functions.{bare_name_of}
use Rattle.cedar_calls.specs.NameMaps.{value_at}
use Rattle.cedar_calls.specs.declared.extension_function.ExtensionFunction.{ExtensionFunction}
use Rattle.cedar_calls.specs.declared.object.BinaryFunction as binary
use Rattle.cedar_calls.specs.declared.object.NullaryFunction as nullary
use Rattle.cedar_calls.specs.declared.object.TernaryFunction as ternary
use Rattle.cedar_calls.specs.declared.object.UnaryFunction as unary
use Rattle.cedar_calls.specs.declared.object.VariadicFunction as variadic

-- the last of a list that passes the test
abbrev pub last_such : {A : Type 0} → (A → Bool) → List A → Option A
last_such test = fold (λ found a. if test a then Some a else found) None

module _ {X N U B T V : Type 0} {x : values.Ghosts X} {o : ord.Ghosts X} {e : eq.Ghosts X} {p : order.Ghosts X} {n : nullary.Ghosts N X} {u : unary.Ghosts U X} {b : binary.Ghosts B X} {t : ternary.Ghosts T X} {v : variadic.Ghosts V X} where
  -- the last function of a list that has the name
  abbrev pub last_named : BareName → List (ExtensionFunction X N U B T V x o e p n u b t v) → Option (ExtensionFunction X N U B T V x o e p n u b t v)
  last_named name = last_such (λ f. name_eq (bare_name_of f) name)

  -- the map has at each name the last function of the list that has it
  pub record HasLastOfEach (m : BTreeMap Name (ExtensionFunction X N U B T V x o e p n u b t v)) (fs : List (ExtensionFunction X N U B T V x o e p n u b t v)) : Type 0 where
    pub at : (name : Name) → value_at (bare_name name) m ≡ last_named (bare_name name) fs
