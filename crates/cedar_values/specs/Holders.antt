-- Values where there are no extension values: what stands for one is a holder of what can't be.
use Rattle.std.specs.declared.convert.Infallible.{Infallible}
use Rattle.cedar_names.specs.Names.{BareName}
use Rattle.cedar_names.specs.PlainNames.{bare_name}
use Rattle.cedar_builders.specs.BareExpr.{no_trees}
use Rattle.cedar_builders.specs.Environment.{Env}
use Rattle.semantics_values.specs.BareValue.{BareCall}
use Rattle.cedar_values.specs.ValueMaps.{ValueMap, values_env}
use Rattle.cedar_values.specs.declared.extension_value.Holder.{Holder}

-- the name of the type that a holder stands for
abbrev pub held_name : {T : Type 0} → Holder T → BareName
held_name h = bare_name h.name

-- the call that would make it
abbrev pub held_call : {T : Type 0} → Holder T → BareCall
held_call h = record { func = bare_name h.name; args = no_trees }

-- no extension value
abbrev pub NoExtension : Type 0
NoExtension = Holder Infallible

-- what a map of values without extension values binds names to
abbrev pub plain_env : ValueMap NoExtension → Env
plain_env = values_env held_name held_call
