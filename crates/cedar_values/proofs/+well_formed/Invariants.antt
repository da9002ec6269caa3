use Rattle.std.proofs.Common.{◌≡◌, drop}
use Rattle.std.specs.List.{list_all}
use Rattle.cedar_values.specs.WellFormed.{kind_well_formed, well_formed}
use Rattle.cedar_values.specs.Sets.{members}
use Rattle.cedar_values.proofs.+well_formed.Given as goal

abbrev pub invariant-set::Set::is_well_formed-loop-member :
    goal.invariant-set::Set::is_well_formed-loop-member
invariant-set::Set::is_well_formed-loop-member g l = record {
  whole : l.member-items ≡ members l.self;
  left : list_all (well_formed g.X.Ord.cmp) (drop l.member-index l.member-items) ≡ list_all (well_formed g.X.Ord.cmp) l.member-items;
}

abbrev pub invariant-value::ValueKind::is_well_formed-loop-value :
    goal.invariant-value::ValueKind::is_well_formed-loop-value
invariant-value::ValueKind::is_well_formed-loop-value g l = record {
  can_next : (goal.iterator-value::ValueKind::is_well_formed-loop-value g).can_next l.value-iterator;
  finite : (goal.iterator-value::ValueKind::is_well_formed-loop-value g).is_finite l.value-iterator;
  left : list_all (well_formed g.X.Ord.cmp) l.value-iterator ≡ kind_well_formed g.X.Ord.cmp l.self;
}
