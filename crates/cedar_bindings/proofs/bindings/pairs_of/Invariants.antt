use Rattle.serde_json.specs.View.{members_view}
use Rattle.cedar_bindings.proofs.Pairs.{AreNamedWith}
use Rattle.cedar_bindings.proofs.bindings.pairs_of.Given as goal

-- the names that are left, and what was made, stand for the whole
abbrev pub invariant-loop-name : goal.invariant-loop-name
invariant-loop-name l = AreNamedWith l.name-iterator (members_view l.members.entries) l.pairs.items
