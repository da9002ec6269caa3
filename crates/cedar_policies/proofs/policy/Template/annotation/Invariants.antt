use Rattle.std.proofs.Common.{◌≡◌, map, drop}
use Rattle.semantics_policies.specs.Identifiers.{annotation_of}
use Rattle.cedar_policies.specs.Policies.{bare_annotation}
use Rattle.cedar_policies.proofs.policy.Template.annotation.Given as goal

-- none of those before has the key
abbrev pub invariant-loop-annotation : goal.invariant-loop-annotation
invariant-loop-annotation l =
    annotation_of l.key (map bare_annotation (drop l.annotation-index l.self.annotations.items))
    ≡ annotation_of l.key (map bare_annotation l.self.annotations.items)
