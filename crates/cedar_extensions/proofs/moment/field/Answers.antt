use Rattle.std.proofs.Common.{◌+◌, ◌-◌, arith}
use Rattle.cedar_extensions.proofs.ShapeLemmas.{field_read}
use Rattle.cedar_extensions.proofs.moment.field.Goals as goal

pub returns-clause-exact : goal.returns-clause-exact
returns-clause-exact c = (field_read c.args.text.now c.args.start c.args.count (c.args.start + c.args.count - c.args.start) c.number.result c.unwrap_or.result (omega arith) c.requires.digits c.requires.few c.number.ensures c.unwrap_or.ensures).0

pub returns-clause-bound : goal.returns-clause-bound
returns-clause-bound c = (field_read c.args.text.now c.args.start c.args.count (c.args.start + c.args.count - c.args.start) c.number.result c.unwrap_or.result (omega arith) c.requires.digits c.requires.few c.number.ensures c.unwrap_or.ensures).1
