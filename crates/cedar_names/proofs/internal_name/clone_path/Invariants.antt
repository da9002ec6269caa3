use Rattle.std.proofs.Common.{◌≡◌, take}
use Rattle.cedar_names.proofs.internal_name.clone_path.Given as goal

abbrev pub invariant-loop-id : goal.invariant-loop-id
invariant-loop-id l = l.copy.items ≡ take l.id-index l.path
