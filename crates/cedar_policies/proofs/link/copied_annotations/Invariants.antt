use Rattle.std.proofs.Common.{◌≡◌, map, take}
use Rattle.cedar_policies.specs.Policies.{bare_annotation}
use Rattle.cedar_policies.proofs.link.copied_annotations.Given as goal

-- the copies so far
abbrev pub invariant-loop-annotation : goal.invariant-loop-annotation
invariant-loop-annotation l = map bare_annotation l.copies.items ≡ map bare_annotation (take l.annotation-index l.annotations)
