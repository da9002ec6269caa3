use Rattle.std.proofs.Common.{inl, inr, ◌∙◌}
use Rattle.cedar_builders.specs.Keys.{keyed}
use Rattle.cedar_script.proofs.Pairs.{all_paired}
use Rattle.cedar_script.proofs.work.pair_up.Goals as goal

pub returns : goal.returns
returns c =
    all_paired keyed _ _ _ _ c.loop-key.invariant.0
    (elim c.in-None.ensures.steps [ inl h ↦ inl (c.loop-key.invariant.1 ∙ h.1.0) | inr h ↦ inr (c.loop-key.invariant.2 ∙ h.1.0) ])
