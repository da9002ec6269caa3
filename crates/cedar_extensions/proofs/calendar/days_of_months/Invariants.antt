use Rattle.std.proofs.Common.{◌≡◌, ◌≤◌, ◌*◌}
use Rattle.cedar_extensions.specs.Calendar.{days_of_months}
use Rattle.cedar_extensions.proofs.calendar.days_of_months.Given as goal

abbrev pub invariant-loop-month : goal.invariant-loop-month
invariant-loop-month l = record {
  value : l.days ≡ days_of_months l.is_leap l.month;
  bound : l.days ≤ 31 * l.month;
}
