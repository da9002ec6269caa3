use Rattle.std.proofs.Common.{◌+◌, ◌∙◌, arith, subst, sym}
use Rattle.cedar_lexer.proofs.FirstTokenLemmas.{IsSoughtFrom, sought_first, sought_here, sought_later, sought_nowhere}
use Rattle.cedar_lexer.proofs.tokenizer.quoted_length.Goals as goal

pub loop-at-init : goal.loop-at-init
loop-at-init c = sought_first c.args.bytes.now

pub loop-at-preserved : goal.loop-at-preserved
loop-at-preserved c =
    subst (λ v. IsSoughtFrom c.args.bytes.now (c.loop-at.at + 1) v) (sym c.counts_as-is_escaped.ensures)
    (sought_later c.args.bytes.now c.loop-at.at c.loop-at.is_escaped (omega arith) (sym c.counts_as.ensures ∙ c.if-counts_as.false)
    c.loop-at.invariant)

pub returns-then-counts_as-clause-exact : goal.returns-then-counts_as-clause-exact
returns-then-counts_as-clause-exact c =
    sym (sought_here c.args.bytes.now c.loop-at.at c.loop-at.is_escaped (omega arith) (sym c.counts_as.ensures ∙ c.if-counts_as.true) c.loop-at.invariant)

pub returns-clause-exact : goal.returns-clause-exact
returns-clause-exact c = sym (sought_nowhere c.args.bytes.now c.loop-at.at c.loop-at.is_escaped (omega arith) c.loop-at.invariant)
