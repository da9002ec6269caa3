use Rattle.std.proofs.Common.{rules, ◌++◌, [], ◌∷◌, map, sym, ap, subst, ◌∙◌, map-id}
use Rattle.std.specs.Prelude.{option_map}
use Rattle.std.proofs.lemmas.Bool.{true≢false}
use Rattle.std.proofs.lemmas.Cmp.{on_total}
use Rattle.std.proofs.lemmas.Iterator.Adapters.{YieldsList-from_vec}
use Rattle.std.proofs.lemmas.Iterator.Consumers.{YieldsList-end}
use Rattle.cedar_terms.specs.Literals.{bare_literal}
use Rattle.cedar_values.specs.BareValues.{bare_value}
use Rattle.cedar_values.specs.Sets.{HaveEachOf}
use Rattle.cedar_values.proofs.Firsts.{AreFirsts, first, later, none_yet, other}
use Rattle.cedar_values.proofs.HashForms.{not_false, not_true}
use Rattle.cedar_values.proofs.hash_form.firsts_by_hash.Goals as goal
use Rattle.cedar_values.proofs.hash_form.firsts_by_hash.Goals.{in-Some-try_as_lit+in_ok-is_first-in-Some-try_as_lit, in-None-try_as_lit}

pub loop-value-init : goal.loop-value-init
loop-value-init g c =
    let R = g.X.Ord.cmp in
    let h = c.in_ok-literals.literals in
    subst (λ ms. AreFirsts R ms [] h) (sym c.in_ok-firsts.ensures.items) (none_yet R h (ap (map bare_literal) c.in_ok-literals.ensures.empty))

pub loop-value-preserved-in-Continue-branch-4 : goal.loop-value-preserved-in-Continue-branch-4
loop-value-preserved-in-Continue-branch-4 g c =
    let R = g.X.Ord.cmp in
    let h = c.loop-value.literals in
    let ms = c.loop-value.firsts.items in
    let vs = c.loop-value.yielded in
    let v = c.in-Some.value in
    let inv = c.loop-value.invariant in
    subst (λ xs. AreFirsts R xs (vs ++ v ∷ []) c.match-try_as_lit.literals) (sym c.in_ok-push.ensures.items)
    (elim c.match-try_as_lit.branch [
      | in-Some-try_as_lit+in_ok-is_first-in-Some-try_as_lit w ↦
          subst (AreFirsts R (ms ++ v ∷ []) (vs ++ v ∷ [])) (sym w.literals-is)
          (first R ms vs v h inv w.add_literal.new.literals (bare_literal w.in-Some-try_as_lit.literal.now)
          (sym c.try_as_lit.ensures ∙ ap (option_map (λ l. bare_literal l.now)) w.in-Some-try_as_lit.is)
          w.in_ok-is_first-in-Some-try_as_lit.ensures.literals
          (not_true _ (sym w.in_ok-is_first-in-Some-try_as_lit.ensures.is_new ∙ sym w.is_first-is ∙ c.if-is_first.true)))
      | in-None-try_as_lit w ↦
          subst (AreFirsts R (ms ++ v ∷ []) (vs ++ v ∷ [])) (sym w.literals-is)
          (other R ms vs v h inv (sym c.try_as_lit.ensures ∙ ap (option_map (λ l. bare_literal l.now)) w.in-None-try_as_lit.is))
    ])

pub loop-value-preserved : goal.loop-value-preserved
loop-value-preserved g c =
    let R = g.X.Ord.cmp in
    let h = c.loop-value.literals in
    let ms = c.loop-value.firsts.items in
    let vs = c.loop-value.yielded in
    let v = c.in-Some.value in
    let inv = c.loop-value.invariant in
    elim c.match-try_as_lit.branch [
      | in-Some-try_as_lit+in_ok-is_first-in-Some-try_as_lit w ↦
          subst (AreFirsts R ms (vs ++ v ∷ [])) (sym w.literals-is)
          (later R ms vs v h inv w.add_literal.new.literals (bare_literal w.in-Some-try_as_lit.literal.now)
          (sym c.try_as_lit.ensures ∙ ap (option_map (λ l. bare_literal l.now)) w.in-Some-try_as_lit.is)
          w.in_ok-is_first-in-Some-try_as_lit.ensures.literals
          (on_total bare_value c.values_are_ordered.ensures.total)
          (not_false _ (sym c.if-is_first.false ∙ w.is_first-is ∙ w.in_ok-is_first-in-Some-try_as_lit.ensures.is_new)))
      | in-None-try_as_lit w ↦ absurd (true≢false (sym w.is_first-is ∙ c.if-is_first.false))
    ]

pub returns-clause-each : goal.returns-clause-each
returns-clause-each g c =
    let all = YieldsList-end (YieldsList-from_vec c.args.values.items (search rules) (search rules)) c.loop-value.yielded c.loop-value.value-iterator c.loop-value.yielded_by c.next.result c.next.new.self c.in-None.is c.next.ensures.steps in
    subst (HaveEachOf g.X.Ord.cmp c.loop-value.firsts.items) (sym (map-id _) ∙ all.0) c.loop-value.invariant.each
