use Rattle.std.proofs.Common.{refl, subst, sym, ◌∙◌}
use Rattle.std.specs.Vec.Iter.{into_iter_items}
use Rattle.cedar_builders.specs.Keys.{meant_pairs}
use Rattle.cedar_exprs.specs.BareExpr.{bare_expr}
use Rattle.cedar_bindings.specs.Bindings.{AreBound}
use Rattle.cedar_bindings.proofs.Binding.{empty}
use Rattle.cedar_bindings.proofs.bindings.Bindings.bind_all.Goals as goal

pub loop-name-preserved : goal.loop-name-preserved
loop-name-preserved c = λ new h.
    let l = c.loop-name in
    l.invariant new
    (subst (λ qs. AreBound l.self (meant_pairs bare_expr qs) new) (sym c.in-Some.ensures.steps.0)
    (_, c.bind.new.self, c.in_ok-bind.ensures, h))

pub returns : goal.returns
returns c =
    let l = c.loop-name in
    l.invariant l.self
    (subst (λ qs. AreBound l.self (meant_pairs bare_expr qs) l.self)
    (sym (empty (into_iter_items l.name-iterator) (sym l.name-iterator.rest.ok.0 ∙ c.in-None.ensures.steps.0))) refl)
