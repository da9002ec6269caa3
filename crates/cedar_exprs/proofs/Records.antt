-- The bare fields of a map, and of a record.
use Rattle.std.proofs.Common.{◌≡◌, List, [], ◌∷◌, map, Ordering, nat_cmp, Global, refl, ap, sym, subst, ◌∙◌, BTreeMap, Result, Ok, Err, IfErr}
use Rattle.std.specs.Cmp.Lexicographic.{slice_cmp}
use Rattle.std.specs.Rc.{rc_str_bytes}
use Rattle.std.specs.Result.{IsErrAnd}
use Rattle.std.specs.declared.rc.Rc.{Rc}
use Rattle.std.specs.declared.rc.RcStr.{RcStr}
use Rattle.cedar_builders.specs.BareExpr.{BareExpr, Record, field, fields_of}
use Rattle.cedar_exprs.specs.BareExpr.{ExprKind, bare_expr, bare_expr_kind, node_step, bare_fields, kind_of}
use Rattle.cedar_builders.specs.Keys.{keyed, in_key_order, meant_pairs}
use Rattle.cedar_exprs.specs.RecordPairs.{record_fields, record_values}
use Rattle.cedar_exprs.specs.MadeNode.{IsMadeBy}
use Rattle.cedar_exprs.specs.declared.builder.ExprBuilder.{ExprBuilder}
use Rattle.cedar_exprs.specs.declared.expr.Expr.{Expr, fold_out-Expr}
use Rattle.cedar_exprs.specs.declared.expr.KindOf.TheVariants.{Record as RecordOf}

-- the map of a record, and an entry of it
abbrev pub Map : Type 0 → Type 0
Map T = BTreeMap (RcStr Global) (Expr T)

abbrev pub Entry : Type 0 → Type 0
Entry T = RcStr Global × Expr T

abbrev pub text_cmp : RcStr Global → RcStr Global → Ordering
text_cmp a b = slice_cmp nat_cmp (rc_str_bytes a) (rc_str_bytes b)

pub bare_kind_of : {T : Type 0} (e : Expr T) → bare_expr e ≡ bare_expr_kind (kind_of e)
bare_kind_of {T} e = fold_out-Expr T BareExpr node_step e

-- the bare tree of an expression whose kind is known
pub bare_at : {T : Type 0} (e : Expr T) (k : ExprKind T) → kind_of e ≡ k → bare_expr e ≡ bare_expr_kind k
bare_at e k is = bare_kind_of e ∙ ap bare_expr_kind is

-- the bare tree of an expression that is known to be a record
pub bare_at_record : {T : Type 0} (e : Expr T) (m : Rc (BTreeMap (RcStr Global) (Expr T)) Global) → kind_of e ≡ RecordOf m → bare_expr e ≡ Record (bare_fields m.value.entries)
bare_at_record e m = bare_at e (RecordOf m)

-- the fields and the values of a map, by its pairs with their keys as texts
pub fields-keyed : {T : Type 0} (es : List (Entry T)) → bare_fields es ≡ fields_of (map (λ p. (p.0, bare_expr p.1)) (keyed es))
fields-keyed [] = refl
fields-keyed (e ∷ es) = ap (field (rc_str_bytes e.0) (bare_expr e.1)) (fields-keyed es)

values-keyed : {T : Type 0} (es : List (Entry T)) → map (λ p. p.1) es ≡ map (λ p. p.1) (keyed es)
values-keyed [] = refl
values-keyed (e ∷ es) = ap (λ vs. e.1 ∷ vs) (values-keyed es)

-- the record of a map that was made of pairs
pub made_of_pairs : {T : Type 0} (b : ExprBuilder T) (m n : BTreeMap (RcStr Global) (Expr T)) (ps : List (Entry T)) (e : Expr T) → n ≡ m → keyed m.entries ≡ in_key_order (keyed ps)
    → IsMadeBy b (Record (bare_fields n.entries)) (map (λ p. p.1) n.entries) e → IsMadeBy b (Record (record_fields ps)) (record_values ps) e
made_of_pairs {T} b m n ps e same made node =
    let entries : keyed n.entries ≡ in_key_order (keyed ps) = ap (λ (q : BTreeMap (RcStr Global) (Expr T)). keyed q.entries) same ∙ made in
    record {
      tree = node.tree ∙ ap Record (fields-keyed n.entries ∙ ap (λ qs. fields_of (map (λ p. (p.0, bare_expr p.1)) qs)) entries);
      place = node.place;
      «data» = node.«data»;
      over = node.over ∙ (values-keyed n.entries ∙ ap (map (λ p. p.1)) entries);
    }

meant-keyed : {T : Type 0} (ps : List (Entry T)) → map (λ p. (p.0, bare_expr p.1)) (keyed ps) ≡ meant_pairs bare_expr ps
meant-keyed [] = refl
meant-keyed (p ∷ ps) = ap (λ qs. (rc_str_bytes p.0, bare_expr p.1) ∷ qs) (meant-keyed ps)

-- the fields of a map that was made of pairs in order
pub fields_in_order : {T : Type 0} (m n : BTreeMap (RcStr Global) (Expr T)) (ps : List (Entry T)) → n ≡ m → keyed m.entries ≡ keyed ps → bare_fields n.entries ≡ fields_of (meant_pairs bare_expr ps)
fields_in_order {T} m n ps same kept =
    fields-keyed n.entries ∙ ap (λ qs. fields_of (map (λ p. (p.0, bare_expr p.1)) qs)) (ap (λ (q : BTreeMap (RcStr Global) (Expr T)). keyed q.entries) same ∙ kept) ∙ ap fields_of (meant-keyed ps)

-- what holds of the error that an answer passes on
pub on_passed : {E F : Type 0} (r : Result E F) (f : F) (P : F → Type 0) → IsErrAnd r (λ e. e ≡ f) → P f → IfErr r P
on_passed (Ok x) f P h p = tt
on_passed (Err e) f P h p = subst P (sym h) p
