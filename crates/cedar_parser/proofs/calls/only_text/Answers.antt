use Rattle.std.proofs.Common.{◌∙◌, ap, sym}
use Rattle.semantics_grammar.specs.Written.{only_string}
use Rattle.cedar_exprs.specs.BareExpr.{bare_exprs}
use Rattle.cedar_parser.proofs.CallTrees.{if_tree, no_string}
use Rattle.cedar_parser.proofs.calls.only_text.Goals as goal

pub returns-in-Some : goal.returns-in-Some
returns-in-Some c =
    if_tree c.text_in.result _ _ c.text_in.ensures (λ text h. h ∙ ap (λ args. only_string (bare_exprs args)) (sym c.in-Some.ensures))

pub returns-in-None : goal.returns-in-None
returns-in-None c = sym (no_string c.args.args.now c.in-None.ensures)
