use Rattle.std.proofs.Common.{◌≡◌, drop, false}
use Rattle.cedar_conditions.specs.Conditions.{has_other_style}
use Rattle.cedar_conditions.proofs.styles.first_other_style.Given as goal

-- what is left has such a call exactly if the whole has one
abbrev pub invariant-loop-at : goal.invariant-loop-at
invariant-loop-at l =
    has_other_style false l.tokens ≡ has_other_style l.is_dotted (drop l.at l.tokens)
