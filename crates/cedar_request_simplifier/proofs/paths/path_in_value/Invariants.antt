use Rattle.std.proofs.Common.{◌≡◌, IsTrue, Ok, map, drop}
use Rattle.std.specs.Rc.{rc_str_bytes}
use Rattle.cedar_values.specs.BareValues.{bare_value}
use Rattle.cedar_values.specs.WellFormed.{well_formed}
use Rattle.cedar_request_simplifier.proofs.PathSteps.{path}
use Rattle.cedar_request_simplifier.proofs.paths.path_in_value.Given as goal

-- the rest of the path from here answers as the whole does, and the value here is well formed
abbrev pub invariant-loop-next : goal.invariant-loop-next
invariant-loop-next g l =
    let R = g.X.Ord.cmp in
    let s = g.S.EntityStore.bare_entities l.entities in
    (path R s (Ok (bare_value l.here)) (rc_str_bytes l.key)
    (map rc_str_bytes (drop l.next-index l.rest))
    ≡ path R s (Ok (bare_value l.value)) (rc_str_bytes l.first) (map rc_str_bytes l.rest))
    × IsTrue (well_formed R l.here)
