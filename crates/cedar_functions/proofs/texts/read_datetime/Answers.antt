use Rattle.cedar_extensions.specs.Datetimes.{IsDatetimeText}
use Rattle.semantics_extensions.specs.Readings.{datetime_in}
use Rattle.cedar_functions.specs.declared.extension.BuiltinExtension.TheVariants as of
use Rattle.cedar_functions.proofs.Read.{refused}
use Rattle.cedar_functions.proofs.texts.read_datetime.Goals as goal

pub returns-in-Err : goal.returns-in-Err
returns-in-Err c = refused of.Datetime (datetime_in c.args.text.now) (IsDatetimeText c.args.text.now) (c.readings_are_exact.ensures.moments c.args.text.now) c.in-Err.ensures.value
