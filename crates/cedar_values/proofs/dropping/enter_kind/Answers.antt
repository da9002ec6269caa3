use Rattle.std.proofs.Common.{◌+◌, arith, sym, subst, ap, ◌∙◌, suc}
use Rattle.cedar_values.specs.Counts.{kind_has_nodes}
use Rattle.cedar_values.specs.Drops.{row_nodes, waiting_nodes, IsStep}
use Rattle.cedar_values.proofs.Fewer.{set_nodes, record_nodes}
use Rattle.cedar_values.proofs.dropping.enter_kind.Goals as goal

pub returns-in-Lit : goal.returns-in-Lit
returns-in-Lit g c = let some = kind_has_nodes c.args.left.kind in c.go_up.ensures _ _ (omega (arith, some))

pub returns-in-ExtensionValue : goal.returns-in-ExtensionValue
returns-in-ExtensionValue g c = let some = kind_has_nodes c.args.left.kind in c.go_up-in-ExtensionValue.ensures _ _ (omega (arith, some))

pub returns-in-Set : goal.returns-in-Set
returns-in-Set g c =
    let k = set_nodes c.args.left.kind c.in-Set.set c.in-Set.is ∙ ap (λ vs. suc (row_nodes vs)) c.into_row.ensures in
    subst (λ n. IsStep n (n + waiting_nodes c.args.left.waiting) c.enter_members.result) (sym k) c.enter_members.ensures

pub returns-in-Record : goal.returns-in-Record
returns-in-Record g c =
    let k = record_nodes c.args.left.kind c.in-Record.pairs c.in-Record.is in
    subst (λ n. IsStep n (n + waiting_nodes c.args.left.waiting) c.enter_pairs.result) (sym k) c.enter_pairs.ensures
