use Rattle.std.proofs.Common.{ℕ, ◌<◌, List, get_or, subst, arith}
use Rattle.std.specs.List.{All}
use Rattle.std.proofs.lemmas.List.{take_all}
use Rattle.std.proofs.lemmas.List.Elements.{All-more}
use Rattle.cedar_ancestors.proofs.levels.are_below.Goals as goal

pub loop-index-preserved : goal.loop-index-preserved
loop-index-preserved c = All-more (λ (y : ℕ). get_or c.args.ranks.now y 0 < c.args.rank) c.args.row.now c.loop-index.index-index 0 c.loop-index-test.true c.loop-index.invariant c.if-ranks-index.false

pub returns : goal.returns
returns c = λ _. subst (λ (xs : List ℕ). All (λ (y : ℕ). get_or c.args.ranks.now y 0 < c.args.rank) xs) (take_all c.loop-index.index-index c.args.row.now (omega arith)) c.loop-index.invariant
