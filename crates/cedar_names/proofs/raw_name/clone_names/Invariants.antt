use Rattle.std.proofs.Common.{◌≡◌, map, take}
use Rattle.cedar_names.specs.InternalNames.{bare_internal_name, internal_name_place}
use Rattle.cedar_names.proofs.raw_name.clone_names.Given as goal

abbrev pub invariant-loop-name : goal.invariant-loop-name
invariant-loop-name l = record {
  names : map bare_internal_name l.copy.items ≡ map bare_internal_name (take l.name-index l.names);
  places : map internal_name_place l.copy.items ≡ map internal_name_place (take l.name-index l.names);
}
