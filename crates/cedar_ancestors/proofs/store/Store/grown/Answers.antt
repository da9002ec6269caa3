use Rattle.std.proofs.Common.{◌≡◌, Err, IfErr, sym, subst, rules}
use Rattle.cedar_ancestors.specs.Hierarchies.{HasNoCycle}
use Rattle.cedar_ancestors.specs.Stores.{IsRefusedStore, KnowsAllParents}
use Rattle.cedar_ancestors.proofs.Storing.{refused_all, refused_made, if_err_map, on_ok_map}
use Rattle.cedar_ancestors.proofs.store.Store.grown.Goals as goal

pub returns-in_err-add_all-clause-refusal : goal.returns-in_err-add_all-clause-refusal
returns-in_err-add_all-clause-refusal g c =
    let R = g.K.Ord.cmp in
    let F = g.V.PartialEq.eq in
    let key = g.V.HasKey.key_of in
    let P = g.V.HasParents.parents_of in
    let error = c.in_err-add_all.field-0.0 in
    let same : c.from_residual.result ≡ Err error = search rules in
    subst (λ r. IfErr r (IsRefusedStore R F key P c.args.map.entries c.args.more.items)) (sym same)
    (refused_all R F key P c.args.map.entries c.args.more.items error c.in_err-add_all.ensures.refusal)

pub returns-clause-refusal : goal.returns-clause-refusal
returns-clause-refusal g c =
    let R = g.K.Ord.cmp in
    let F = g.V.PartialEq.eq in
    let key = g.V.HasKey.key_of in
    let n = c.add_all.new.map.entries in
    if_err_map c.made.result
    (refused_made R F key g.V.HasParents.parents_of c.args.map.entries n c.args.more.items c.in_ok-add_all.ensures.added)
    c.made.ensures.refusal

pub returns-clause-parents : goal.returns-clause-parents
returns-clause-parents g c =
    on_ok_map c.made.result
    (λ s z is h. subst (KnowsAllParents g.K.Ord.cmp g.V.HasParents.parents_of) (sym is) (z h))
    c.made.ensures.parents c.made.ensures.entries

pub returns-clause-acyclic : goal.returns-clause-acyclic
returns-clause-acyclic g c =
    on_ok_map c.made.result
    (λ s z is. subst (HasNoCycle g.K.Ord.cmp g.V.HasParents.parents_of) (sym is) z)
    c.made.ensures.acyclic c.made.ensures.entries
