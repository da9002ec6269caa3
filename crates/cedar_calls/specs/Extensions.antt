-- Extensions as finite maps from names to functions (`Extension` of Cedar's `extension.rs`).
use Rattle.std.specs.Prelude.{Option, None, List, [], ◌∷◌}
use Rattle.std.specs.BTreeMap.{BTreeMap, values}
use Rattle.std.specs.Option.{option_or}
use Rattle.std.specs.declared.cmp.Ord as ord
use Rattle.std.specs.declared.cmp.PartialEq as eq
use Rattle.std.specs.declared.cmp.PartialOrd as order
use Rattle.cedar_names.specs.Names.{BareName}
use Rattle.cedar_names.specs.declared.name.Name.{Name}
use Rattle.cedar_values.specs.declared.extension_value.ExtensionValue as extension_value
use Rattle.cedar_calls.specs.NameMaps.{value_at}
use Rattle.cedar_calls.specs.declared.extension.Extension.{Extension}
use Rattle.cedar_calls.specs.declared.extension_function.ExtensionFunction.{ExtensionFunction}
use Rattle.cedar_calls.specs.declared.extensions.Extensions.{Extensions}
use Rattle.cedar_calls.specs.declared.object.BinaryFunction as binary
use Rattle.cedar_calls.specs.declared.object.NullaryFunction as nullary
use Rattle.cedar_calls.specs.declared.object.TernaryFunction as ternary
use Rattle.cedar_calls.specs.declared.object.UnaryFunction as unary
use Rattle.cedar_calls.specs.declared.object.VariadicFunction as variadic

module _ {X N U B T V : Type 0} {x : extension_value.Ghosts X} {o : ord.Ghosts X} {e : eq.Ghosts X} {p : order.Ghosts X} {n : nullary.Ghosts N X} {u : unary.Ghosts U X} {b : binary.Ghosts B X} {t : ternary.Ghosts T X} {v : variadic.Ghosts V X} where
  -- its name
  abbrev pub extension_name : Extension X N U B T V x o e p n u b t v → Name
  extension_name ext = ext.name

  -- its functions by name
  abbrev pub functions_by_name : Extension X N U B T V x o e p n u b t v → BTreeMap Name (ExtensionFunction X N U B T V x o e p n u b t v)
  functions_by_name ext = ext.functions

  -- its functions, in the order of their names
  abbrev pub functions_of : Extension X N U B T V x o e p n u b t v → List (ExtensionFunction X N U B T V x o e p n u b t v)
  functions_of ext = values ext.functions

  -- its function of a name, if there is one
  abbrev pub named : BareName → Extension X N U B T V x o e p n u b t v → Option (ExtensionFunction X N U B T V x o e p n u b t v)
  named name ext = value_at name ext.functions

  -- its types that take part in the overloading of operators, in the order of their names
  abbrev pub operator_types : Extension X N U B T V x o e p n u b t v → List Name
  operator_types ext = ext.types_with_operator_overloading.items

  -- extensions, in their order
  abbrev pub extensions_of : Extensions X N U B T V x o e p n u b t v → List (Extension X N U B T V x o e p n u b t v)
  extensions_of exts = exts.extensions.items

  -- the function of the first extension that has the name
  abbrev pub first_named : BareName → List (Extension X N U B T V x o e p n u b t v) → Option (ExtensionFunction X N U B T V x o e p n u b t v)
  first_named name [] = None
  first_named name (ext ∷ exts) = option_or (named name ext) (first_named name exts)
