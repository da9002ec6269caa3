use Rattle.std.proofs.Common.{rules, ◌≡◌, [], sym, ap, subst, ◌∙◌}
use Rattle.std.proofs.lemmas.List.{drop_all}
use Rattle.semantics_values.specs.BareValue.{RecordValue}
use Rattle.semantics_values.specs.AscendingKeys.{KeysAscend}
use Rattle.cedar_values.specs.BareValues.{bare_value_kind}
use Rattle.cedar_values.specs.Conversions.{bare_pairs}
use Rattle.cedar_values.proofs.BoundedRests.{dropped}
use Rattle.cedar_values.proofs.Levels.{record_tree}
use Rattle.cedar_values.proofs.AscendingKeys.{AscendIn, AscendInPairs, record_ascends, set_ascends}
use Rattle.cedar_values.proofs.keys_ascend.+keys_ascend.Goals as goal

pub walk_kind-returns-in-Record : goal.walk_kind-returns-in-Record
walk_kind-returns-in-Record g t c =
    subst KeysAscend
    ((λ i. RecordValue (bare_pairs (c.deref.ensures i).entries))
    ∙ sym (ap bare_value_kind c.in-Record.is ∙ record_tree c.in-Record.pairs))
    c.walk_pairs.ensures

pub walk_members-loop-member-init : goal.walk_members-loop-member-init
walk_members-loop-member-init g t c h =
    set_ascends c.args.set.now (subst AscendIn c.authoritative-members.ensures h)

pub walk_members-loop-member-preserved : goal.walk_members-loop-member-preserved
walk_members-loop-member-preserved g t c h =
    let ms = c.authoritative-members.result.now in
    let i = c.loop-member.member-index in
    c.loop-member.invariant
    (subst AscendIn (sym (dropped ms i c.member-item.result c.loop-member-test.true c.member-item.is))
    (c.walk.ensures, h))

pub walk_members-returns : goal.walk_members-returns
walk_members-returns g t c =
    c.loop-member.invariant
    (subst AscendIn
    (sym (drop_all c.loop-member.member-index c.authoritative-members.result.now c.loop-member-test.false))
    tt)

pub walk_pairs-loop-value-init : goal.walk_pairs-loop-value-init
walk_pairs-loop-value-init g t c h =
    let all : c.into_iter-value-iterator.result ≡ c.args.pairs.now.entries = search rules in
    record_ascends c.args.pairs.now.entries c.iter-value-items.ensures.ordered (subst AscendInPairs all h)

pub walk_pairs-loop-value-preserved : goal.walk_pairs-loop-value-preserved
walk_pairs-loop-value-preserved g t c h =
    c.loop-value.invariant
    (subst AscendInPairs (sym c.in-Some.ensures.steps) (c.walk.ensures, h))

pub walk_pairs-returns : goal.walk_pairs-returns
walk_pairs-returns g t c =
    let none : c.loop-value.value-iterator ≡ [] = search rules in
    c.loop-value.invariant (subst AscendInPairs (sym none) tt)
