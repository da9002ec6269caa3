-- Tables of extension functions (what Cedar's file `expr.rs` asks of `Extensions`).
use Rattle.std.specs.Prelude.{◌≡◌, Option, None}
use Rattle.cedar_names.specs.Names.{BareName}
use Rattle.cedar_terms.specs.SchemaTypes.{BareSchemaType}
use Rattle.cedar_validation.specs.declared.call_style.CallStyle.{CallStyle}

-- how the function of a name is called; none where there is no such function
abbrev pub Styles : Type 0
Styles = BareName → Option CallStyle

-- the return type of the function of a name, if there is such a function and it has one
abbrev pub ReturnTypes : Type 0
ReturnTypes = BareName → Option BareSchemaType

-- a name without a style stands for no function, so it has no return type
abbrev pub AreTypesOfKnown : Styles → ReturnTypes → Type 0
AreTypesOfKnown style_at return_type_at =
    (name : BareName) → style_at name ≡ None → return_type_at name ≡ None
