use Rattle.std.proofs.Common.{rules, arith, ◌≡◌, ◌≤◌, ◌+◌, false, sym, ◌∙◌, ap, subst, [], drop, length}
use Rattle.std.proofs.lemmas.List.{drop_all}
use Rattle.cedar_lexer.specs.Groups.{IsCutAt, depth_behind, ends, kinds_of}
use Rattle.cedar_lexer.proofs.GroupCuts.{Deep, outside, cut_at, cut_end, depth_bound, more_at}
use Rattle.cedar_lexer.proofs.token_stream.group_length.Goals as goal
use Rattle.cedar_lexer.proofs.token_stream.group_length.Goals.{else-depth-eq0-via-then-depth-eq0+else-ends_group, else-depth-eq0-via-else-depth-eq0}

pub loop-at-init : goal.loop-at-init
loop-at-init c = record { bound = omega arith; deep = λ rest p end. outside p }

pub returns-then-ends_group-clause-exact : goal.returns-then-ends_group-clause-exact
returns-then-ends_group-clause-exact c rest p end =
    let none : c.loop-at.depth ≡ 0 = search rules in
    cut_at c.args.ends_at_comma c.args.tokens.now c.loop-at.at _ rest c.loop-at-test.true (sym c.ends_group.ensures ∙ c.if-ends_group.true)
    (subst (λ n. Deep c.args.ends_at_comma n (kinds_of (drop c.loop-at.at c.args.tokens.now)) rest) none (c.loop-at.invariant.deep rest p end))

pub loop-at-preserved : goal.loop-at-preserved
loop-at-preserved c = record {
  bound = subst (λ n. n ≤ c.loop-at.at + 1) (sym c.depth_behind-depth.ensures) (depth_bound _ c.loop-at.depth c.loop-at.at c.loop-at.invariant.bound);
  deep = λ rest p end.
      (subst (λ n. Deep c.args.ends_at_comma n (kinds_of (drop (c.loop-at.at + 1) c.args.tokens.now)) rest) (sym c.depth_behind-depth.ensures)
      (more_at c.args.ends_at_comma c.args.tokens.now c.loop-at.at c.loop-at.depth _ rest c.loop-at-test.true
      (λ zero. elim c.else-depth-eq0.branch [
        | else-depth-eq0-via-then-depth-eq0+else-ends_group w ↦ search rules
        | else-depth-eq0-via-else-depth-eq0 w ↦ absurd (w.if-depth-eq0.false zero)
      ]) end (c.loop-at.invariant.deep rest p end)));
}

pub returns-clause-exact : goal.returns-clause-exact
returns-clause-exact c rest p end =
    let ts = c.args.tokens.now in
    let comma = c.args.ends_at_comma in
    let none : kinds_of (drop c.loop-at.at ts) ≡ [] = ap kinds_of (drop_all c.loop-at.at ts c.loop-at-test.false) in
    ap kinds_of (drop_all (length ts) ts (omega arith))
    ∙ cut_end comma c.loop-at.depth rest (subst (λ ks. Deep comma c.loop-at.depth ks rest) none (c.loop-at.invariant.deep rest p end))
