use Rattle.cedar_values.proofs.Firsts.{AreFirsts}
use Rattle.cedar_values.proofs.hash_form.firsts_by_hash.Given as goal

abbrev pub invariant-loop-value : goal.invariant-loop-value
invariant-loop-value g l = AreFirsts g.X.Ord.cmp l.firsts.items l.yielded l.literals
