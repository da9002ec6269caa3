use Rattle.std.proofs.Common.{◌≡◌, ◌++◌}
use Rattle.std.specs.Vec.Iter.{into_iter_items}
use Rattle.cedar_inputs.specs.Entities.{AreEntitiesOf}
use Rattle.cedar_inputs.proofs.entities.each_entity.Given as goal

-- those so far
abbrev pub invariant-loop-json : goal.invariant-loop-json
invariant-loop-json l = record {
  whole : l.fn.listed.items ≡ l.yielded ++ into_iter_items l.json-iterator;
  each : AreEntitiesOf l.yielded l.entities.items;
}
