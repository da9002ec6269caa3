use Rattle.std.proofs.Common.{arith, refl, ap, sym, ◌∙◌}
use Rattle.std.proofs.lemmas.List.{nil_from_length}
use Rattle.cedar_builders.specs.Restricted.{is_restricted_node}
use Rattle.cedar_exprs.specs.FirstNodes.{found}
use Rattle.cedar_exprs.specs.NotRestricted.{first_not_restricted_of}
use Rattle.cedar_exprs.specs.Waiting.{next_first}
use Rattle.cedar_exprs.proofs.NotRestrictedLemmas.{first_itself, gives_way, fewer_wait, next_is}
use Rattle.cedar_exprs.proofs.walks.not_restricted.first_by_loop.Goals as goal

pub returns-then-not-is_restricted_node : goal.returns-then-not-is_restricted_node
returns-then-not-is_restricted_node g c =
    let e = c.down.reached.now in
    found is_restricted_node e _ (next_first c.down.waiting.items) _ refl c.down.invariant e (first_itself e (sym c.is_restricted_node.ensures ∙ c.if-not-is_restricted_node.true))

pub down-smaller : goal.down-smaller
down-smaller g c =
    let top = next_is c.push_children.new.waiting.items c.pop.new.self.items c.in-Some.next c.in-Some.ensures.items in
    omega (arith, fewer_wait c.down.reached.now (next_first c.down.waiting.items) _ (sym top ∙ c.in_ok-push_children.ensures))

pub down-preserved : goal.down-preserved
down-preserved g c =
    let top = next_is c.push_children.new.waiting.items c.pop.new.self.items c.in-Some.next c.in-Some.ensures.items in
    gives_way c.down.reached.now (next_first c.down.waiting.items) _ (sym top ∙ c.in_ok-push_children.ensures) _ (sym c.is_restricted_node.ensures ∙ c.if-not-is_restricted_node.false) c.down.invariant

pub returns-in-None : goal.returns-in-None
returns-in-None g c =
    let waiting = c.push_children.new.waiting in
    let none = ap next_first (nil_from_length waiting.items (omega (arith, c.in-None.ensures.cases.0, waiting.ok.0))) in
    sym (ap first_not_restricted_of none) ∙ gives_way c.down.reached.now (next_first c.down.waiting.items) _ c.in_ok-push_children.ensures _ (sym c.is_restricted_node.ensures ∙ c.if-not-is_restricted_node.false) c.down.invariant
