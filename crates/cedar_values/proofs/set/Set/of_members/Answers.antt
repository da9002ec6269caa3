use Rattle.std.proofs.Common.{ap, ◌∙◌}
use Rattle.std.specs.Prelude.{option_map}
use Rattle.cedar_values.specs.HashForms.{literals_of}
use Rattle.cedar_values.specs.Sets.{hashed_literals, members}
use Rattle.cedar_values.specs.declared.set.Set.{Set-F, out-roll-Set}
use Rattle.cedar_values.specs.declared.value.Value.{Value}
use Rattle.cedar_values.proofs.set.Set.of_members.Goals as goal

pub returns : goal.returns
unfolding members hashed_literals
returns g c =
    let X = g.row.X.Denot in
    let l : Set-F X _ _ (Value X) = record { authoritative = c.in_ok-members.members; fast = c.args.literals } in
    record {
      members = ap (λ (s : Set-F X _ _ (Value X)). s.authoritative.value.items) (out-roll-Set X l) ∙ λ i. (c.in_ok-members.ensures.ok i).items;
      hashed = ap (λ (s : Set-F X _ _ (Value X)). option_map (λ h. literals_of h.value) s.fast) (out-roll-Set X l);
    }
