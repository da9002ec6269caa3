use Rattle.std.proofs.Common.{◌≡◌, Ok, map, drop}
use Rattle.std.specs.Rc.{rc_str_bytes}
use Rattle.cedar_values.specs.BareValues.{bare_value}
use Rattle.semantics_request.specs.Entities.{attribute, has_attribute}
use Rattle.semantics_request.specs.Evaluator.{path_by}
use Rattle.cedar_request_evaluator.proofs.attributes.has_path.Given as goal

-- the rest of the path from here answers as the whole does
abbrev pub invariant-loop-next : goal.invariant-loop-next
invariant-loop-next g l =
    let s = g.S.EntityStore.bare_entities l.entities in
    path_by (has_attribute s) (attribute s) (Ok (bare_value l.here)) (rc_str_bytes l.key)
    (map rc_str_bytes (drop l.next-index l.rest))
    ≡ path_by (has_attribute s) (attribute s) (Ok (bare_value l.value)) (rc_str_bytes l.first)
    (map rc_str_bytes l.rest)
