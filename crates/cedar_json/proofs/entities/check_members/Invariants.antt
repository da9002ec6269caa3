use Rattle.serde_json.specs.View.{members_view}
use Rattle.std.proofs.Common.{◌≡◌}
use Rattle.cedar_json.specs.Entities.{are_named}
use Rattle.cedar_json.proofs.entities.check_members.Given as goal

-- the names of what is left are those of an entity exactly if all are
abbrev pub invariant-loop-name : goal.invariant-loop-name
invariant-loop-name l = are_named (members_view l.members.entries) ≡ are_named (members_view l.name-iterator)
