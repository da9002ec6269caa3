-- Functions of extensions (`ExtensionFunction` of Cedar's `extension.rs`).
use Rattle.std.specs.Prelude.{List, [], Option}
use Rattle.std.specs.Option.{option_map_or}
use Rattle.std.specs.declared.cmp.Ord as ord
use Rattle.std.specs.declared.cmp.PartialEq as eq
use Rattle.std.specs.declared.cmp.PartialOrd as order
use Rattle.cedar_names.specs.Names.{BareName}
use Rattle.cedar_names.specs.PlainNames.{bare_name}
use Rattle.cedar_names.specs.declared.name.Name.{Name}
use Rattle.cedar_terms.specs.SchemaTypes.{bare_schema_type, extension_names}
use Rattle.cedar_terms.specs.declared.schema_type.SchemaType.{SchemaType}
use Rattle.cedar_values.specs.declared.extension_value.ExtensionValue as values
use Rattle.cedar_values.specs.declared.value.Value.{Value}
use Rattle.cedar_validation.specs.declared.call_style.CallStyle.{CallStyle}
use Rattle.cedar_calls.specs.Objects.{Counts, counts, MayGive}
use Rattle.cedar_calls.specs.OutputValues.{Answer}
use Rattle.cedar_calls.specs.declared.extension_function.ExtensionFunction.{ExtensionFunction}
use Rattle.cedar_calls.specs.declared.object.BinaryFunction as binary
use Rattle.cedar_calls.specs.declared.object.ExtensionFunctionObject.{ExtensionFunctionObject}
use Rattle.cedar_calls.specs.declared.object.NullaryFunction as nullary
use Rattle.cedar_calls.specs.declared.object.TernaryFunction as ternary
use Rattle.cedar_calls.specs.declared.object.UnaryFunction as unary
use Rattle.cedar_calls.specs.declared.object.VariadicFunction as variadic

module _ {X N U B T V : Type 0} {x : values.Ghosts X} {o : ord.Ghosts X} {e : eq.Ghosts X} {p : order.Ghosts X} {n : nullary.Ghosts N X} {u : unary.Ghosts U X} {b : binary.Ghosts B X} {t : ternary.Ghosts T X} {v : variadic.Ghosts V X} where
  -- its name
  abbrev pub name_of : ExtensionFunction X N U B T V x o e p n u b t v → Name
  name_of f = f.name

  -- its name without its place
  abbrev pub bare_name_of : ExtensionFunction X N U B T V x o e p n u b t v → BareName
  bare_name_of f = bare_name f.name

  -- how it is called
  abbrev pub style_of : ExtensionFunction X N U B T V x o e p n u b t v → CallStyle
  style_of f = f.style

  -- the stored function
  abbrev pub object_of : ExtensionFunction X N U B T V x o e p n u b t v → ExtensionFunctionObject X N U B T V
  object_of f = f.func

  -- how many arguments it takes
  abbrev pub counts_of : ExtensionFunction X N U B T V x o e p n u b t v → Counts
  counts_of f = counts f.func

  -- its return type, if one is declared
  abbrev pub return_type_of : ExtensionFunction X N U B T V x o e p n u b t v → Option SchemaType
  return_type_of f = f.return_type

  -- the types of its arguments, as they were declared
  abbrev pub arg_types_of : ExtensionFunction X N U B T V x o e p n u b t v → List SchemaType
  arg_types_of f = option_map_or (λ types. types.items) f.arg_types []

  -- the names of the extension types in its return type
  abbrev pub ext_types_of : ExtensionFunction X N U B T V x o e p n u b t v → List BareName
  ext_types_of f = option_map_or (λ ty. extension_names (bare_schema_type ty)) f.return_type []

  -- the stored function may give this answer to these arguments, in their order
  abbrev pub MayAnswer : ExtensionFunction X N U B T V x o e p n u b t v → List (Value X) → Answer X → Type 0
  MayAnswer f args r = MayGive n.gives u.gives b.gives t.gives v.gives f.func args r
