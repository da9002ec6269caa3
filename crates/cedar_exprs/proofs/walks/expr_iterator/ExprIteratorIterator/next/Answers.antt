use Rattle.std.proofs.Common.{◌≤◌, length, arith, ap, sym, ◌∙◌, subst, vec_capacity}
use Rattle.cedar_exprs.specs.Walks.{need_of}
use Rattle.cedar_exprs.proofs.Stacks.{still_fit, count_fits, gives_top}
use Rattle.cedar_exprs.proofs.walks.expr_iterator.ExprIteratorIterator.next.Goals as goal

pub push_children-requires : goal.push_children-requires
push_children-requires g c =
    let all = c.args.self.now.expression_stack in
    let left = c.pop.new.self in
    let few = count_fits all.items left.items c.in_ok-expr.expr c.in_ok-expr.ensures.items (vec_capacity all) c.args.self.now.room in
    omega (arith, few, c.in_ok-expr.ensures.capacity, left.ok.0)

pub invariant_of-self-2 : goal.invariant_of-self-2
invariant_of-self-2 g c =
    let all = c.args.self.now.expression_stack in
    let fit = still_fit all.items c.pop.new.self.items c.in_ok-expr.expr c.in_ok-expr.ensures.items (vec_capacity all) c.args.self.now.room in
    record { room = subst (λ es. need_of es ≤ vec_capacity c.push_children.new.stack) (sym c.push_children.ensures.items) (omega (arith, fit, c.push_children.ensures.room, c.in_ok-expr.ensures.capacity)) }

pub returns-clause-steps : goal.returns-clause-steps
returns-clause-steps g c =
    let gives = gives_top c.args.self.now.expression_stack.items c.pop.new.self.items c.in_ok-expr.expr c.in_ok-expr.ensures.items _ c.push_children.ensures.items in
    (gives, c.push_children.ensures.room ∙ c.in_ok-expr.ensures.capacity)

pub returns-clause-goes : goal.returns-clause-goes
returns-clause-goes g c =
    let steps = gives_top c.args.self.now.expression_stack.items c.pop.new.self.items c.in_ok-expr.expr c.in_ok-expr.ensures.items _ c.push_children.ensures.items in
    record { on = λ h. (tt, tt, omega (arith, ap length steps)); keeps = tt; rests = λ h. tt }
