use Rattle.cedar_extensions.specs.Decimals.{IsDecimalText}
use Rattle.semantics_extensions.specs.Readings.{decimal_in}
use Rattle.cedar_functions.specs.declared.extension.BuiltinExtension.TheVariants as of
use Rattle.cedar_functions.proofs.Read.{refused}
use Rattle.cedar_functions.proofs.texts.read_decimal.Goals as goal

pub returns-in-Err : goal.returns-in-Err
returns-in-Err c = refused of.Decimal (decimal_in c.args.text.now) (IsDecimalText c.args.text.now) (c.readings_are_exact.ensures.decimals c.args.text.now) c.in-Err.ensures.value
