use Rattle.cedar_extensions.specs.Durations.{IsDurationText}
use Rattle.semantics_extensions.specs.Readings.{duration_in}
use Rattle.cedar_functions.specs.declared.extension.BuiltinExtension.TheVariants as of
use Rattle.cedar_functions.proofs.Read.{refused}
use Rattle.cedar_functions.proofs.texts.read_duration.Goals as goal

pub returns-in-Err : goal.returns-in-Err
returns-in-Err c = refused of.Duration (duration_in c.args.text.now) (IsDurationText c.args.text.now) (c.readings_are_exact.ensures.durations c.args.text.now) c.in-Err.ensures.value
