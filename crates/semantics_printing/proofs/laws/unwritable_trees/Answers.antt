use Rattle.std.proofs.Common.{None, sym, ◌∙◌, ap}
use Rattle.std.proofs.lemmas.Bool.{false≢true}
use Rattle.cedar_builders.specs.BareExpr.{Text, Unknown}
use Rattle.cedar_builders.specs.Trees.{sure}
use Rattle.cedar_terms.specs.declared.precedence.Precedence.{Precedence}
use Rattle.semantics_printing.specs.PolicyTexts.{policy_text_ops}
use Rattle.semantics_printing.specs.Writable.{unknown_call}
use Rattle.semantics_printing.proofs.Folds.{fold_is}
use Rattle.semantics_printing.proofs.Unwritten.{printed_alike, reads_plain}
use Rattle.semantics_printing.proofs.laws.unwritable_trees.Goals as goal

pub returns-clause-annotation : goal.returns-clause-annotation
returns-clause-annotation c ts name t h = false≢true (sym (reads_plain h))

pub returns-clause-call : goal.returns-clause-call
returns-clause-call c name p q is are =
    ap (λ (x : Text × Precedence). x.0) (ap sure (sym is ∙ fold_is policy_text_ops (unknown_call name)))
    ∙ (printed_alike name ∙ ap (λ (x : Text × Precedence). x.0) (ap sure (sym (fold_is policy_text_ops (Unknown name None)) ∙ are)))
