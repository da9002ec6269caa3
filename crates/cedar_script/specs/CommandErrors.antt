-- Why lines are refused.
use Rattle.std.specs.Prelude.{◌≡◌, false, Result, Err}
use Rattle.cedar_names.specs.Names.{BareName}
use Rattle.cedar_names.specs.PlainNames.{bare_name}
use Rattle.cedar_builders.specs.BareExpr.{BareExpr}
use Rattle.cedar_builders.specs.declared.expression_construction_errors.ExpressionConstructionError.{ExpressionConstructionError}
use Rattle.cedar_builders.specs.declared.expression_construction_errors.ExpressionConstructionError.TheVariants as construction
use Rattle.cedar_script.specs.declared.command_error.CommandError.{CommandError}
use Rattle.cedar_builders.specs.declared.expr_builder.BuildFault.{BuildFault}
use Rattle.cedar_builders.specs.declared.expr_builder.BuildFault.TheVariants as build
use Rattle.cedar_builders.specs.declared.substitution_error.SubstitutionError.{SubstitutionError}
use Rattle.cedar_builders.specs.declared.substitution_error.SubstitutionError.TheVariants as substitution
use Rattle.semantics_values.specs.Reading.{is_readable}
use Rattle.cedar_values.specs.Holders.{NoExtension}
use Rattle.cedar_values.specs.declared.not_value.NotValue.{NotValue as Unread}
use Rattle.cedar_values.specs.declared.not_value.NotValue.TheVariants as unread
use Rattle.cedar_evaluator.specs.declared.fault.CallRefused.{CallRefused}
use Rattle.semantics_eval.specs.Outcomes.{Outcome}
use Rattle.cedar_script.specs.declared.command_error.CommandError.TheVariants.{DuplicateKey, NotAValue, TypeError, Called, Memory}

-- the error of a line whose expression can't be made
abbrev pub error_of_construction : ExpressionConstructionError → CommandError
error_of_construction (construction.DuplicateKey e) = DuplicateKey e
error_of_construction construction.Memory = Memory

-- the error names the types that were found to differ, or memory ran out
abbrev pub NamesClash : SubstitutionError → CommandError → Type 0
NamesClash e (TypeError clash) = e ≡ substitution.TypeError clash.value.expected clash.value.actual
NamesClash e r = r ≡ Memory

-- the error of a line whose expression is to be a value
abbrev pub error_of_value : Unread → CommandError
error_of_value (unread.NotValue loc) = NotAValue
error_of_value unread.Memory = Memory

-- the error names the call that was refused, or memory ran out
abbrev pub NamesCall : BuildFault CallRefused → CommandError → Type 0
NamesCall e (Called refused) = e ≡ build.Build refused.value
NamesCall e r = r ≡ Memory

-- an evaluation is refused at the first call, by the function's name
abbrev pub IsCallError : Result (Outcome NoExtension) BareName → CommandError → Type 0
IsCallError r (Called e) = r ≡ Err (bare_name e.value.name)
IsCallError r e = e ≡ Memory

-- an expression is refused as no value where a node is no literal, set or record
abbrev pub IsValueError : BareExpr → CommandError → Type 0
IsValueError e NotAValue = is_readable e ≡ false
IsValueError e r = r ≡ Memory
