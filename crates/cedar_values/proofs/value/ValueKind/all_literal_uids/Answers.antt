use Rattle.std.proofs.Common.{◌≡◌, ◌++◌, [], arith, map, sym, ap, subst, ◌∙◌, append-nil}
use Rattle.cedar_terms.specs.Literals.{bare_literal}
use Rattle.cedar_values.specs.BareValues.{kind_of}
use Rattle.cedar_values.specs.LiteralUids.{Gains, literal_uid, literal_uids}
use Rattle.cedar_values.specs.Sets.{members}
use Rattle.cedar_values.specs.Counts.{kind_has_nodes}
use Rattle.cedar_values.proofs.Levels.{extension_tree, kind_of_literal}
use Rattle.cedar_values.proofs.Uids.{Owes, kind_uids, put_in, record_uids, set_uids, uids_in, uids_put, uids_taken}
use Rattle.cedar_values.proofs.WaitingValues.{nodes_put, nodes_taken, record_count, set_count}
use Rattle.cedar_values.proofs.value.ValueKind.all_literal_uids.Goals as goal

pub walk-smaller-in-Continue-branch-2 : goal.walk-smaller-in-Continue-branch-2
walk-smaller-in-Continue-branch-2 g c =
    let k = c.in-Some.kind in
    omega (arith, nodes_taken c.walk.waiting.items c.pop.new.self.items k c.in-Some.ensures.items, kind_has_nodes k.now)

pub walk-preserved-in-Continue-branch-2 : goal.walk-preserved-in-Continue-branch-2
walk-preserved-in-Continue-branch-2 g c =
    let whole = kind_uids c.args.self.now in
    let ks = c.pop.new.self.items in
    let k = c.in-Some.kind in
    let l = c.in-Lit.literal in
    let one : kind_uids k.now ≡ literal_uid (bare_literal l) = ap kind_uids c.in-Lit.is ∙ ap literal_uids (kind_of_literal l) in
    put_in whole (uids_in ks) (kind_uids k.now) c.walk.uids c.add_literal.new.uids
    (subst (λ us. Owes whole us c.walk.uids) (uids_taken c.walk.waiting.items ks k c.in-Some.ensures.items) c.walk.invariant)
    (subst (λ us. Gains us c.walk.uids c.add_literal.new.uids) (sym one) c.in_ok-add_literal-in-Lit.ensures)

pub walk-smaller-in-Continue-branch-3 : goal.walk-smaller-in-Continue-branch-3
walk-smaller-in-Continue-branch-3 g c =
    let k = c.in-Some.kind in
    let s = c.in-Set.set in
    let ks = c.pop.new.self.items in
    let put = nodes_put ks c.push_members.new.waiting.items (map kind_of (members s)) c.in_ok-push_members-in-Set.ensures in
    omega (arith, put, set_count k.now s c.in-Set.is, nodes_taken c.walk.waiting.items ks k c.in-Some.ensures.items)

pub walk-preserved-in-Continue-branch-3 : goal.walk-preserved-in-Continue-branch-3
walk-preserved-in-Continue-branch-3 g c =
    let k = c.in-Some.kind in
    let s = c.in-Set.set in
    subst (λ us. Owes (kind_uids c.args.self.now) us c.walk.uids)
    (uids_put c.walk.waiting.items c.pop.new.self.items k c.in-Some.ensures.items c.push_members.new.waiting.items (map kind_of (members s)) c.in_ok-push_members-in-Set.ensures (set_uids k.now s c.in-Set.is))
    c.walk.invariant

pub walk-smaller-in-Continue-branch-4 : goal.walk-smaller-in-Continue-branch-4
walk-smaller-in-Continue-branch-4 g c =
    let k = c.in-Some.kind in
    let es = c.deref.result.now.entries in
    let ks = c.pop.new.self.items in
    let put = nodes_put ks c.push_values.new.waiting.items (map (λ e. kind_of e.1) es) c.in_ok-push_values-in-Record.ensures in
    let count = record_count k.now c.in-Record.pairs c.in-Record.is es (λ i. (c.deref.ensures i).entries) in
    omega (arith, put, count, nodes_taken c.walk.waiting.items ks k c.in-Some.ensures.items)

pub walk-preserved-in-Continue-branch-4 : goal.walk-preserved-in-Continue-branch-4
walk-preserved-in-Continue-branch-4 g c =
    let k = c.in-Some.kind in
    let es = c.deref.result.now.entries in
    subst (λ us. Owes (kind_uids c.args.self.now) us c.walk.uids)
    (uids_put c.walk.waiting.items c.pop.new.self.items k c.in-Some.ensures.items c.push_values.new.waiting.items (map (λ e. kind_of e.1) es) c.in_ok-push_values-in-Record.ensures
    (record_uids k.now c.in-Record.pairs c.in-Record.is es (λ i. (c.deref.ensures i).entries)))
    c.walk.invariant

pub walk-smaller : goal.walk-smaller
walk-smaller g c =
    let k = c.in-Some.kind in
    omega (arith, nodes_taken c.walk.waiting.items c.pop.new.self.items k c.in-Some.ensures.items, kind_has_nodes k.now)

pub walk-preserved : goal.walk-preserved
walk-preserved g c =
    let ks = c.pop.new.self.items in
    let k = c.in-Some.kind in
    let none : kind_uids k.now ≡ [] = ap kind_uids c.in-ExtensionValue.is ∙ ap literal_uids (extension_tree c.in-ExtensionValue.field-0) in
    subst (λ us. Owes (kind_uids c.args.self.now) us c.walk.uids)
    (uids_taken c.walk.waiting.items ks k c.in-Some.ensures.items ∙ ap (λ us. uids_in ks ++ us) none ∙ append-nil (uids_in ks))
    c.walk.invariant
