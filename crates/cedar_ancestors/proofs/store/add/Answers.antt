use Rattle.std.proofs.Common.{◌≡◌, Some, cond, sym, subst, ◌∙◌}
use Rattle.std.specs.declared.cmp.Ordering.TheVariants.{Equal}
use Rattle.cedar_ancestors.proofs.Keys.{entry_by}
use Rattle.cedar_ancestors.proofs.Storing.{added_same, added_new}
use Rattle.cedar_ancestors.proofs.store.add.Goals as goal

pub returns-then-eq-clause-added : goal.returns-then-eq-clause-added
returns-then-eq-clause-added g c =
    let R = g.K.Ord.cmp in
    let m = c.args.map.now.entries in
    let k = c.in_ok-key.key in
    let alike = subst (λ q. R q k ≡ Equal) c.key.ensures (c.requires c.key.result.now k c.in_ok-key.ensures.cases) in
    let same = entry_by R g.K.PartialEq.eq g.met.K.Ord.matches_eq m k in
    added_same g.met.K.Ord.total g.V.PartialEq.eq g.V.HasKey.key_of m c.args.entry k alike
    c.in-Some.known.now (sym (c.in-Some.ensures.value ∙ same)) (sym c.eq.ensures ∙ c.if-eq.true)

pub returns-in-Some-clause-refusal : goal.returns-in-Some-clause-refusal
returns-in-Some-clause-refusal g c =
    let R = g.K.Ord.cmp in
    let m = c.args.map.now.entries in
    let k = c.in_ok-key.key in
    let alike = subst (λ q. R q k ≡ Equal) c.key.ensures (c.requires c.key.result.now k c.in_ok-key.ensures.cases) in
    let same = entry_by R g.K.PartialEq.eq g.met.K.Ord.matches_eq m k in
    (c.in-Some.known.now, sym (c.in-Some.ensures.value ∙ same), sym c.eq.ensures ∙ c.if-eq.false, alike)

pub returns-clause-added : goal.returns-clause-added
returns-clause-added g c =
    let R = g.K.Ord.cmp in
    let E = g.K.PartialEq.eq in
    let tie = g.met.K.Ord.matches_eq in
    let m = c.args.map.now.entries in
    let n = c.insert.new.self.entries in
    let v = c.args.entry in
    let k = c.in_ok-key.key in
    let alike = subst (λ q. R q k ≡ Equal) c.key.ensures (c.requires c.key.result.now k c.in_ok-key.ensures.cases) in
    added_new g.met.K.Ord.total g.V.PartialEq.eq g.V.HasKey.key_of m v k alike n
    (sym (c.in-None.ensures.value ∙ entry_by R E tie m k)) (g.met.V.Eq.laws.refl v)
    (λ q. sym (entry_by R E tie n q)
    ∙ (c.in_ok-insert-in-None.ensures.updates.0 q
    ∙ (λ i. cond (tie k q i) (Some v) (entry_by R E tie m q i))))
