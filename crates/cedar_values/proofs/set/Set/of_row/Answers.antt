use Rattle.std.proofs.Common.{ap, None}
use Rattle.cedar_values.specs.Sets.{members}
use Rattle.cedar_values.specs.declared.set.Set.{Set-F, out-roll-Set}
use Rattle.cedar_values.specs.declared.value.Value.{Value}
use Rattle.cedar_values.proofs.set.Set.of_row.Goals as goal

pub returns : goal.returns
unfolding members
returns g c =
    let X = g.row.X.Denot in
    let l : Set-F X _ _ (Value X) = record { authoritative = c.args.row; fast = None } in
    ap (λ (s : Set-F X _ _ (Value X)). s.authoritative.value.items) (out-roll-Set X l)
