use Rattle.std.proofs.Common.{◌≡◌, drop, fold}
use Rattle.cedar_builders.specs.ShapeFeed.{row_fed, fields_fed}
use Rattle.cedar_exprs.specs.BareExpr.{bare_exprs, bare_fields}
use Rattle.cedar_exprs.proofs.shapes.hashing.+shape.Given as goal

-- what is left, fed to the state, gives what all gives
abbrev pub invariant-hash_members-loop-member : goal.invariant-hash_members-loop-member
invariant-hash_members-loop-member g l =
    fold g.H.Hasher.write l.state (row_fed (bare_exprs (drop l.member-index l.members))) ≡ fold g.H.Hasher.write l.initial.state (row_fed (bare_exprs l.members))

abbrev pub invariant-hash_pairs-loop-key : goal.invariant-hash_pairs-loop-key
invariant-hash_pairs-loop-key g l =
    (goal.iterator-hash_pairs-loop-key g).can_next l.key-iterator
    × (goal.iterator-hash_pairs-loop-key g).is_finite l.key-iterator
    × (fold g.H.Hasher.write l.state (fields_fed (bare_fields l.key-iterator)) ≡ fold g.H.Hasher.write l.initial.state (fields_fed (bare_fields l.pairs.entries)))
