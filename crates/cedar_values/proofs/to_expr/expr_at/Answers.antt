use Rattle.cedar_values.proofs.Rebuilt.{into_rebuilt, into_rows, into_fewer, back_rebuilt, back_rows, back_row, back_fewer}
use Rattle.cedar_values.proofs.to_expr.expr_at.Goals as goal

pub walk-smaller-in-Into : goal.walk-smaller-in-Into
walk-smaller-in-Into g c =
    into_fewer g.X.ExtensionValue.canonical c.push.new.self.items c.walk.waiting.items c.in-Into.row c.in-Into.value c.walk.step c.in_ok-push-in-Into.ensures.items c.in-Into.is c.value_kind.result.now c.value_kind.ensures
    c.in_ok-step-in-Into.step c.in_ok-step-in-Into.ensures.fewer

pub walk-preserved-in-Into : goal.walk-preserved-in-Into
walk-preserved-in-Into g c =
    let C = g.X.ExtensionValue.canonical in
    let all = c.push.new.self.items in
    let ws = c.walk.waiting.items in
    let w = c.in-Into.row in
    let v = c.in-Into.value in
    let k = c.value_kind.result.now in
    let is = c.in_ok-push-in-Into.ensures.items in
    let next = c.in_ok-step-in-Into.step in (
      into_rebuilt C all ws w v c.walk.step is c.in-Into.is k c.value_kind.ensures _ next _ c.source_loc.ensures c.in_ok-step-in-Into.ensures.tree c.in_ok-step-in-Into.ensures.place c.walk.invariant.0,
      into_rows C all ws w v c.walk.step is c.in-Into.is k c.value_kind.ensures c.walk.invariant.1 c.walk.invariant.2,
      c.in_ok-step-in-Into.ensures.is_step,
    )

pub resume_row-requires-clause-is_row : goal.resume_row-requires-clause-is_row
resume_row-requires-clause-is_row g c =
    back_row g.X.ExtensionValue.canonical c.walk.waiting.items c.pop.new.self.items c.in-Some.row c.in-Made.expr c.walk.step c.in-Some.ensures.items c.in-Made.is c.walk.invariant.1

pub walk-smaller : goal.walk-smaller
walk-smaller g c =
    back_fewer g.X.ExtensionValue.canonical c.walk.waiting.items c.pop.new.self.items c.in-Some.row c.in-Made.expr c.walk.step c.in-Some.ensures.items c.in-Made.is c.in_ok-step-in-Some.step c.in_ok-step-in-Some.ensures.fewer

pub walk-preserved : goal.walk-preserved
walk-preserved g c =
    let C = g.X.ExtensionValue.canonical in
    let all = c.walk.waiting.items in
    let ws = c.pop.new.self.items in
    let is = c.in-Some.ensures.items in
    let next = c.in_ok-step-in-Some.step in (
      back_rebuilt C all ws c.in-Some.row c.in-Made.expr c.walk.step is c.in-Made.is next _ c.in_ok-step-in-Some.ensures.tree c.in_ok-step-in-Some.ensures.place c.walk.invariant.0,
      back_rows C all ws c.in-Some.row c.in-Made.expr c.walk.step is c.in-Made.is c.walk.invariant.1,
      c.in_ok-step-in-Some.ensures.is_step,
    )
