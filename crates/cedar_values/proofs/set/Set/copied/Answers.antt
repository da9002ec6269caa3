use Rattle.std.proofs.Common.{◌≡◌, map, ap, ◌∙◌}
use Rattle.std.specs.Prelude.{option_map}
use Rattle.cedar_values.specs.BareValues.{bare_value}
use Rattle.cedar_values.specs.HashForms.{is_hash_form, literals_of}
use Rattle.cedar_values.specs.Sets.{hashed_literals, members}
use Rattle.cedar_values.specs.declared.set.Set.{Set, Set-F, out-roll-Set, roll-Set}
use Rattle.cedar_values.specs.declared.value.Value.{Value}
use Rattle.cedar_values.specs.declared.value.ValueKind.{ValueKind}
use Rattle.cedar_values.proofs.WellFormedSets.{same_set}
use Rattle.cedar_values.proofs.set.Set.copied.Goals as goal

abbrev level : (g : _) (c : goal.In_ok-members g) → Set-F g.row.X.Denot (ValueKind g.row.X.Denot) (Set g.row.X.Denot) (Value g.row.X.Denot)
level g c = record { authoritative = c.in_ok-members.members; fast = c.in_ok-fast.fast }

members_are : (g : _) (c : goal.In_ok-members g) → members (roll-Set g.row.X.Denot (level g c)) ≡ members c.args.self.now
unfolding members
members_are g c =
    ap (λ (s : Set-F g.row.X.Denot _ _ (Value g.row.X.Denot)). s.authoritative.value.items) (out-roll-Set g.row.X.Denot (level g c))
    ∙ λ i. (c.in_ok-members.ensures.cases i).items

literals_are : (g : _) (c : goal.In_ok-members g) → hashed_literals (roll-Set g.row.X.Denot (level g c)) ≡ hashed_literals c.args.self.now
unfolding hashed_literals
literals_are g c =
    ap (λ (s : Set-F g.row.X.Denot _ _ (Value g.row.X.Denot)). option_map (λ h. literals_of h.value) s.fast) (out-roll-Set g.row.X.Denot (level g c))
    ∙ c.in_ok-fast.ensures

pub returns : goal.returns
returns g c = (members_are g c, literals_are g c)
