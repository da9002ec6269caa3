-- What a tree may hold that no text of Cedar could say (`try_validate` of Cedar's `expr.rs`).
use Rattle.std.specs.Prelude.{ℕ, zero, List, [], ◌∷◌, length, not, Option, Some, None}
use Rattle.std.specs.List.{find}
use Rattle.std.specs.Option.{option_map}
use Rattle.cedar_names.specs.Grammar.{is_unreserved_id}
use Rattle.cedar_names.specs.Names.{BareName}
use Rattle.cedar_builders.specs.BareExpr.{Text, BareExpr, ExtensionFunctionApp, HasAttr}
use Rattle.cedar_builders.specs.Walks.{members_of, positions, first_of}
use Rattle.cedar_validation.specs.Tables.{Styles}
use Rattle.cedar_validation.specs.declared.call_style.CallStyle.{CallStyle}
use Rattle.cedar_validation.specs.declared.call_style.CallStyle.TheVariants.{MethodStyle}

-- the call of a function that is not known, that of one in method style without arguments, and an attribute of a path that is no identifier
pub data Fault : Type 0 where
  unknown_function : BareName → Fault
  missing_receiver : BareName → Fault
  invalid_attribute : Text → Fault

-- the fault of a call, by how its function is called and the number of arguments
abbrev pub call_fault : BareName → Option CallStyle → ℕ → Option Fault
call_fault name None arguments = Some (unknown_function name)
call_fault name (Some MethodStyle) zero = Some (missing_receiver name)
call_fault name (Some style) arguments = None

-- the first attribute that no user may define
abbrev pub attribute_fault : List Text → Option Fault
attribute_fault attrs = option_map invalid_attribute (find (λ attr. not (is_unreserved_id attr)) attrs)

-- the fault of a path of attributes: one attribute alone may be any text
abbrev pub path_fault : Text → List Text → Option Fault
path_fault attr [] = None
path_fault attr (a ∷ attrs) = attribute_fault (attr ∷ a ∷ attrs)

-- the fault of a node
abbrev pub fault_at : Styles → BareExpr → Option Fault
fault_at style_at (ExtensionFunctionApp name args) = call_fault name (style_at name) (length (members_of args))
fault_at style_at (HasAttr e attr attrs) = path_fault attr attrs
fault_at style_at e = None

-- the fault of the first position that has one
abbrev pub first_fault : Styles → BareExpr → Option Fault
first_fault style_at e = first_of (fault_at style_at) (positions e)
