use Rattle.std.proofs.Common.{ap, ◌++◌, ◌∙◌}
use Rattle.cedar_exprs.specs.Walks.{children, referents}
use Rattle.cedar_exprs.proofs.Stacks.{gives_top}
use Rattle.cedar_exprs.proofs.walks.positions.Positions.next.Goals as goal

pub returns-in_ok-reserve-in-Some : goal.returns-in_ok-reserve-in-Some
returns-in_ok-reserve-in-Some g c =
    let e = c.in-Some.expr in
    gives_top c.args.self.now.stack.items c.pop.new.self.items e c.in-Some.ensures.items _
    (c.push_children.ensures.items ∙ ap (λ es. referents es ++ children e.now) c.reserve.ensures.items)
