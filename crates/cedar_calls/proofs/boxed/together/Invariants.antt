use Rattle.std.proofs.Common.{◌≡◌, ◌∷◌, map, take}
use Rattle.cedar_calls.proofs.boxed.together.Given as goal

-- the first and those so far
abbrev pub invariant-loop-arg : goal.invariant-loop-arg
invariant-loop-arg l = map (λ a. a.now) l.args.items ≡ l.first ∷ take l.arg-index l.rest
