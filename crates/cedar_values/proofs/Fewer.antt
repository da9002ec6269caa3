-- The values that the steps of a drop leave.
use Rattle.std.proofs.Common.{◌≡◌, ◌+◌, suc, refl, sym, ap, ◌∙◌, Global, List, [], ◌∷◌, map, BTreeMap}
use Rattle.std.specs.Rc.{rc_with_value}
use Rattle.std.specs.declared.rc.Rc.{Rc}
use Rattle.std.specs.declared.rc.RcStr.{RcStr}
use Rattle.semantics_values.specs.BareValue.{values_of}
use Rattle.cedar_values.specs.BareValues.{bare_value, kind_of}
use Rattle.cedar_values.specs.Conversions.{bare_pairs}
use Rattle.cedar_values.specs.Counts.{nodes, kind_nodes, member_nodes, pair_nodes}
use Rattle.cedar_values.specs.Drops.{row_nodes, entry_nodes}
use Rattle.cedar_values.specs.Sets.{members}
use Rattle.cedar_values.specs.declared.set.Set as set
use Rattle.cedar_values.specs.declared.value.Value.{Value}
use Rattle.cedar_values.specs.declared.value.ValueKind.{ValueKind}
use Rattle.cedar_values.specs.declared.value.ValueKind as kind
use Rattle.cedar_values.proofs.Levels.{value_tree, set_tree, record_tree}

module _ {X : Type 0} where
  in_row : (vs : List (Value X)) → member_nodes (values_of (map bare_value vs)) ≡ row_nodes vs
  in_row [] = refl
  in_row (v ∷ vs) = ap (λ n. nodes (bare_value v) + n) (in_row vs)

  in_record : (es : List (RcStr Global × Value X)) → pair_nodes (bare_pairs es) ≡ entry_nodes es
  in_record [] = refl
  in_record (e ∷ es) = ap (λ n. nodes (bare_value e.1) + n) (in_record es)

  -- the nodes of a set and of a record
  pub set_nodes : (k : ValueKind X) (s : set.Set X) → k ≡ kind.Set s → kind_nodes k ≡ suc (row_nodes (members s))
  set_nodes k s is = ap kind_nodes is ∙ ap nodes (set_tree s) ∙ ap suc (in_row (members s))

  pub record_nodes : (k : ValueKind X) (m : Rc (BTreeMap (RcStr Global) (Value X)) Global) → k ≡ kind.Record m → kind_nodes k ≡ suc (entry_nodes m.value.entries)
  record_nodes k m is = ap kind_nodes is ∙ ap nodes (record_tree m) ∙ ap suc (in_record m.value.entries)

  pub nodes_of_kind : (v : Value X) (k : ValueKind X) → k ≡ kind_of v → kind_nodes k ≡ nodes (bare_value v)
  nodes_of_kind v k is = ap kind_nodes is ∙ sym (ap nodes (value_tree v))

  -- a set whose row was written
  pub row_set : (s : set.Set X) (vs : List (Value X)) → members s ≡ vs → kind_nodes (kind.Set s) ≡ suc (row_nodes vs)
  row_set s vs is = set_nodes _ s refl ∙ ap (λ ws. suc (row_nodes ws)) is

  pub written_record : (es : Rc (BTreeMap (RcStr Global) (Value X)) Global) (m : BTreeMap (RcStr Global) (Value X)) → kind_nodes (kind.Record (rc_with_value es m)) ≡ suc (entry_nodes m.entries)
  written_record es m = record_nodes _ (rc_with_value es m) refl
