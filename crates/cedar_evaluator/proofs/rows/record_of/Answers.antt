use Rattle.std.proofs.Common.{◌≡◌, BTreeMap, IsTrue, ap, ◌∙◌}
use Rattle.std.specs.Global.{Global}
use Rattle.std.specs.List.{list_all}
use Rattle.std.specs.declared.cmp.Ordering.{Ordering}
use Rattle.std.specs.declared.rc.RcStr.{RcStr}
use Rattle.cedar_builders.specs.Keys.{meant_pairs}
use Rattle.semantics_values.specs.BareValue.{RecordValue, pairs_of}
use Rattle.cedar_values.specs.BareValues.{bare_value, bare_value_kind}
use Rattle.cedar_values.specs.WellFormed.{kind_well_formed, well_formed}
use Rattle.cedar_values.specs.declared.value.Value.{Value}
use Rattle.cedar_evaluator.proofs.rows.record_of.Goals as goal

pub returns-clause-tree : goal.returns-clause-tree
returns-clause-tree g c ascending =
    let by_kind = c.values_by_kind.ensures in
    by_kind.kind c.record_arc.result ∙ ap bare_value_kind c.record_arc.ensures.kind
    ∙ by_kind.record c.in_ok-values.values
    ∙ ap (λ m. RecordValue (pairs_of (meant_pairs bare_value m.entries))) c.in_ok-values.ensures.ok
    ∙ ap (λ es. RecordValue (pairs_of (meant_pairs bare_value es)))
    (c.in_ok-by_key.ensures.same ascending)

-- the values of one map are those of another
moved : {X : Type 0} (R : X → X → Ordering) (m n : BTreeMap (RcStr Global) (Value X)) → m ≡ n
    → IsTrue (list_all (λ e. well_formed R e.1) n.entries)
    → IsTrue (list_all (λ e. well_formed R e.1) m.entries)
moved R m n is all = ap (λ l. list_all (λ e. well_formed R e.1) l.entries) is ∙ all

pub returns-clause-well_formed : goal.returns-clause-well_formed
returns-clause-well_formed g c all =
    let by_kind = c.values_by_kind.ensures in
    let m = c.in_ok-values.values in
    by_kind.kept c.record_arc.result ∙ ap (kind_well_formed _) c.record_arc.ensures.kind
    ∙ by_kind.record_kept m
    ∙ moved _ m.value _ c.in_ok-values.ensures.ok (c.in_ok-by_key.ensures.well_formed all)
