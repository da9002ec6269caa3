use Rattle.std.proofs.Common.{Bool, sym, ap, ◌∙◌, subst, IfOk}
use Rattle.cedar_sorted_slices.specs.Classes.{has_class}
use Rattle.cedar_ancestors.specs.Keyed.{IsRowBy, is_listed, lists}
use Rattle.cedar_ancestors.proofs.Keys.{entry_by}
use Rattle.cedar_ancestors.proofs.Rows.{no_indexes}
use Rattle.cedar_ancestors.proofs.keyed.row_for.Goals as goal

pub returns-in-Some : goal.returns-in-Some
returns-in-Some g c =
    let R = g.K.Ord.cmp in
    let same = entry_by R g.K.PartialEq.eq g.met.K.Ord.matches_eq c.args.parents.now.entries c.args.key.now in
    subst (λ (test : g.row.K.Denot → Bool). IfOk c.indexes_of.result (λ row. IsRowBy test c.args.keys.now.keys row.items))
    (ap (has_class R) c.parents.ensures ∙ ap (is_listed R g.V.HasParents.parents_of) (c.in-Some.ensures.value ∙ same))
    c.indexes_of.ensures

pub returns-in-None : goal.returns-in-None
returns-in-None g c =
    let R = g.K.Ord.cmp in
    let same = entry_by R g.K.PartialEq.eq g.met.K.Ord.matches_eq c.args.parents.now.entries c.args.key.now in
    rw c.new.ensures.items (no_indexes g.met.K.Ord.total (lists R g.V.HasParents.parents_of c.args.parents.now.entries c.args.key.now) c.args.keys.now.keys (λ k. ap (λ ps. is_listed R g.V.HasParents.parents_of ps k) (sym (c.in-None.ensures.value ∙ same))))
