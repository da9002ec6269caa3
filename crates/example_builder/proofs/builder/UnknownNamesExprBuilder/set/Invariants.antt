use Rattle.std.proofs.Common.{◌≡◌, ◌++◌, map}
use Rattle.std.specs.List.{flat_map}
use Rattle.std.specs.Vec.Iter.{into_iter_items}
use Rattle.example_builder.specs.UnknownNames.{texts_of}
use Rattle.example_builder.proofs.builder.UnknownNamesExprBuilder.set.Given as goal

-- what is joined, and then the rest
abbrev pub invariant-loop-member : goal.invariant-loop-member
invariant-loop-member l =
    texts_of l.all ++ flat_map (λ member. member) (map texts_of (into_iter_items l.member-iterator))
    ≡ flat_map (λ member. member) (map texts_of l.fn.members.items)
