use Rattle.std.proofs.Common.{arith}
use Rattle.cedar_exprs.proofs.Stacks.{needs_one}
use Rattle.cedar_exprs.proofs.walks.expr_iterator.ExprIterator.new.Goals as goal

pub push_reserved-requires : goal.push_reserved-requires
push_reserved-requires g c =
    omega (arith, needs_one c.args.expr.now, c.entries.ensures, c.in_ok-expression_stack.ensures.len, c.in_ok-expression_stack.ensures.capacity)
