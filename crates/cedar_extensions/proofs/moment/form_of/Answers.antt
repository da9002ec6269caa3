use Rattle.std.proofs.Common.{sym}
use Rattle.cedar_extensions.proofs.MomentTexts.{formless, last_form}
use Rattle.cedar_extensions.proofs.moment.form_of.Goals as goal

pub returns-then-has_shape-7 : goal.returns-then-has_shape-7
returns-then-has_shape-7 c = sym (last_form c.args.text.now (sym c.if-has_shape.ensures) (sym c.if-has_shape-2.ensures) (sym c.if-has_shape-3.ensures) (sym c.if-has_shape-4.ensures) (sym c.if-has_shape-5.ensures) (sym c.if-has_shape-6.ensures) (sym c.if-has_shape-7.ensures))

pub returns-else-has_shape-7 : goal.returns-else-has_shape-7
returns-else-has_shape-7 c = sym (formless c.args.text.now (sym c.if-has_shape.ensures) (sym c.if-has_shape-2.ensures) (sym c.if-has_shape-3.ensures) (sym c.if-has_shape-4.ensures) (sym c.if-has_shape-5.ensures) (sym c.if-has_shape-6.ensures) (sym c.if-has_shape-7.ensures))
