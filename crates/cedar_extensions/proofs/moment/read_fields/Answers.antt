use Rattle.cedar_extensions.proofs.MomentTexts.{all_digits}
use Rattle.cedar_extensions.proofs.moment.read_fields.Goals as goal

pub time_field-requires : goal.time_field-requires
time_field-requires c = (all_digits c.args.text.now c.args.form c.requires).hour

pub field-requires-clause-digits : goal.field-requires-clause-digits
field-requires-clause-digits c = (all_digits c.args.text.now c.args.form c.requires).year

pub field-requires-2-clause-digits : goal.field-requires-2-clause-digits
field-requires-2-clause-digits c = (all_digits c.args.text.now c.args.form c.requires).month

pub field-requires-3-clause-digits : goal.field-requires-3-clause-digits
field-requires-3-clause-digits c = (all_digits c.args.text.now c.args.form c.requires).day

pub time_field-requires-2 : goal.time_field-requires-2
time_field-requires-2 c = (all_digits c.args.text.now c.args.form c.requires).minute

pub time_field-requires-3 : goal.time_field-requires-3
time_field-requires-3 c = (all_digits c.args.text.now c.args.form c.requires).second

pub millisecond_field-requires : goal.millisecond_field-requires
millisecond_field-requires c = (all_digits c.args.text.now c.args.form c.requires).millisecond

pub zone_field-requires-clause-digits : goal.zone_field-requires-clause-digits
zone_field-requires-clause-digits c = (all_digits c.args.text.now c.args.form c.requires).zone_hours

pub zone_field-requires-2-clause-digits : goal.zone_field-requires-2-clause-digits
zone_field-requires-2-clause-digits c = (all_digits c.args.text.now c.args.form c.requires).zone_minutes
