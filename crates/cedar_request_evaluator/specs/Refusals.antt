-- Refused calls.
use Rattle.cedar_names.specs.Names.{BareName}
use Rattle.cedar_names.specs.PlainNames.{bare_name}
use Rattle.cedar_evaluator.specs.declared.fault.CallRefused.{CallRefused}

-- the name of the function whose call is refused
abbrev pub refused_name : CallRefused → BareName
refused_name r = bare_name r.name
