use Rattle.std.proofs.Common.{length, sym, ap, arith}
use Rattle.std.proofs.lemmas.Bool.{true≢false}
use Rattle.cedar_ancestors.proofs.Keys.{above_inside}
use Rattle.cedar_ancestors.proofs.reach.Table.is_above.Goals as goal

pub returns-then-index-len : goal.returns-then-index-len
returns-then-index-len c = (
  (λ t. absurd (true≢false (sym t))),
  (λ a.
      let inside = above_inside c.args.self.now c.args.index c.args.other a in
      let long = ap length c.self.view_is in
      absurd (omega (arith, inside, long, c.len.ensures, c.if-index-len.true, c.self.inside.rows.ok.0))),
)
