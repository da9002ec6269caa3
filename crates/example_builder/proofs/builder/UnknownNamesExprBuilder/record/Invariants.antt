use Rattle.std.proofs.Common.{◌≡◌, ◌++◌}
use Rattle.std.specs.List.{flat_map}
use Rattle.std.specs.Vec.Iter.{into_iter_items}
use Rattle.cedar_ast.specs.Keys.{meant_pairs}
use Rattle.example_builder.specs.UnknownNames.{texts_of}
use Rattle.example_builder.proofs.builder.UnknownNamesExprBuilder.record.Given as goal

-- what is joined, and then the rest
abbrev pub invariant-loop-key : goal.invariant-loop-key
invariant-loop-key l =
    texts_of l.all ++ flat_map (λ pair. pair.1) (meant_pairs texts_of (into_iter_items l._key-iterator))
    ≡ flat_map (λ pair. pair.1) (meant_pairs texts_of l.fn.pairs.items)
