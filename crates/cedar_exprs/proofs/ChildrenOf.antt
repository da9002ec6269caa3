-- The bare trees and the children of expressions with lists of children.
use Rattle.std.proofs.Common.{◌≡◌, ℕ, Bool, List, [], ◌∷◌, map, length, Global, refl, sym, ap, ◌∙◌, subst, BTreeMap, Vec}
use Rattle.std.proofs.lemmas.List.{length-map}
use Rattle.std.proofs.lemmas.List.Folds.{list_all-map}
use Rattle.std.specs.List.{list_all}
use Rattle.std.specs.declared.rc.Rc.{Rc}
use Rattle.std.specs.declared.rc.RcStr.{RcStr}
use Rattle.cedar_names.specs.PlainNames.{bare_name}
use Rattle.cedar_names.specs.declared.name.Name.{Name}
use Rattle.cedar_terms.specs.Entities.{bare_entity_type}
use Rattle.cedar_terms.specs.Unknowns.{bare_unknown}
use Rattle.cedar_terms.specs.declared.entity.EntityType.{EntityType}
use Rattle.cedar_terms.specs.declared.unknown.Unknown.{Unknown as UnknownOf}
use Rattle.cedar_builders.specs.BareExpr.{BareExpr, ExtensionFunctionApp, Set, Record, Is, trees_of}
use Rattle.cedar_builders.specs.Walks.{members_of, values_of, children}
use Rattle.cedar_exprs.specs.BareExpr.{bare_expr, bare_exprs, bare_fields, kind_of, unknown_tree}
use Rattle.cedar_exprs.specs.declared.expr.Expr.{Expr}
use Rattle.cedar_exprs.specs.declared.expr.KindOf.TheVariants.{ExtensionFunctionApp as CallOf, Set as SetOf, Record as RecordOf, Unknown as OneUnknown, Is as IsOf}
use Rattle.cedar_exprs.proofs.Records.{bare_at}

-- the bare tree of an expression that is known to be a call, a set or a record
pub bare_at_call : {T : Type 0} (e : Expr T) (n : Name) (es : Rc (Vec (Expr T) Global) Global) (v : Vec (Expr T) Global) → kind_of e ≡ CallOf n es → v ≡ es.value → bare_expr e ≡ ExtensionFunctionApp (bare_name n) (bare_exprs v.items)
bare_at_call {T} e n es v is at =
    bare_at e (CallOf n es) is ∙ ap (λ (w : Vec (Expr T) Global). ExtensionFunctionApp (bare_name n) (bare_exprs w.items)) (sym at)

pub bare_at_set : {T : Type 0} (e : Expr T) (es : Rc (Vec (Expr T) Global) Global) (v : Vec (Expr T) Global) → kind_of e ≡ SetOf es → v ≡ es.value → bare_expr e ≡ Set (bare_exprs v.items)
bare_at_set {T} e es v is at =
    bare_at e (SetOf es) is ∙ ap (λ (w : Vec (Expr T) Global). Set (bare_exprs w.items)) (sym at)

pub bare_at_map : {T : Type 0} (e : Expr T) (m : Rc (BTreeMap (RcStr Global) (Expr T)) Global) (n : BTreeMap (RcStr Global) (Expr T)) → kind_of e ≡ RecordOf m → n ≡ m.value → bare_expr e ≡ Record (bare_fields n.entries)
bare_at_map {T} e m n is at =
    bare_at e (RecordOf m) is ∙ ap (λ (o : BTreeMap (RcStr Global) (Expr T)). Record (bare_fields o.entries)) (sym at)

pub bare_at_unknown : {T : Type 0} (e : Expr T) (u : UnknownOf) → kind_of e ≡ OneUnknown u → bare_expr e ≡ unknown_tree (bare_unknown u)
bare_at_unknown e u = bare_at e (OneUnknown u)

pub bare_at_is : {T : Type 0} (e : Expr T) (a : Rc (Expr T) Global) (t : EntityType) → kind_of e ≡ IsOf a t → bare_expr e ≡ Is (bare_expr a.value) (bare_entity_type t)
bare_at_is e a t = bare_at e (IsOf a t)

pub members_of-trees_of : (bs : List BareExpr) → members_of (trees_of bs) ≡ bs
members_of-trees_of [] = refl
members_of-trees_of (b ∷ bs) = ap (λ cs. b ∷ cs) (members_of-trees_of bs)

-- what holds of all expressions holds of all members
pub all_members : {T : Type 0} (p : BareExpr → Bool) (es : List (Expr T)) → list_all (λ e. p (bare_expr e)) es ≡ list_all p (members_of (bare_exprs es))
all_members p es = sym (list_all-map p bare_expr es) ∙ ap (list_all p) (sym (members_of-trees_of (map bare_expr es)))

pub values_of-fields : {T : Type 0} (es : List (RcStr Global × Expr T)) → values_of (bare_fields es) ≡ map (λ e. bare_expr e.1) es
values_of-fields [] = refl
values_of-fields (e ∷ es) = ap (λ cs. bare_expr e.1 ∷ cs) (values_of-fields es)

pub members-length : {T : Type 0} (es : List (Expr T)) → length (members_of (bare_exprs es)) ≡ length es
members-length es = ap length (members_of-trees_of (map bare_expr es)) ∙ length-map es bare_expr

pub values-length : {T : Type 0} (es : List (RcStr Global × Expr T)) → length (values_of (bare_fields es)) ≡ length es
values-length es = ap length (values_of-fields es) ∙ length-map es (λ e. bare_expr e.1)

-- what holds of a tree with so many children holds of an expression that has the tree
pub at_tree : {T : Type 0} (P : BareExpr → ℕ → Type 0) (e : Expr T) (b : BareExpr) (n : ℕ) → bare_expr e ≡ b → n ≡ length (children b) → P b n → P (bare_expr e) (length (children (bare_expr e)))
at_tree P e b n is long h = subst (λ t. P t (length (children t))) (sym is) (subst (P b) long h)
