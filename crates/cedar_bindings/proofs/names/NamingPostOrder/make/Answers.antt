use Rattle.std.proofs.Common.{sym, ap, ◌∙◌}
use Rattle.std.specs.Prelude.{option_map}
use Rattle.cedar_builders.specs.Answers.{never}
use Rattle.cedar_exprs.specs.BareExpr.{bare_expr}
use Rattle.cedar_bindings.specs.Names.{names_of}
use Rattle.cedar_bindings.proofs.Nodes.{named_built, other_built}
use Rattle.cedar_bindings.proofs.names.NamingPostOrder.make.Goals as goal

pub returns-in-Some : goal.returns-in-Some
returns-in-Some g c =
    named_built bare_expr never (names_of c.args.self.now.names.now) (bare_expr c.args.node.now) _
    (sym c.named.ensures ∙ ap (option_map (λ e. bare_expr e.now)) c.in-Some.is)
    c.args.done.now.items c.put.new.done.items c.put.result c.put.ensures

pub returns-in-None : goal.returns-in-None
returns-in-None g c =
    other_built bare_expr never (names_of c.args.self.now.names.now) (bare_expr c.args.node.now)
    (sym c.named.ensures ∙ ap (option_map (λ e. bare_expr e.now)) c.in-None.is)
    _ _ _ c.make.result c.make.ensures
