-- The names of an object, one after the other.
use Rattle.std.proofs.Common.{◌≡◌, List, [], ◌∷◌, ◌++◌, ap, sym, ◌∙◌, subst, append_assoc, append-nil}
use Rattle.std.proofs.lemmas.List.{map-append}
use Rattle.std.specs.Prelude.{String, string_bytes}
use Rattle.std.specs.Global.{Global}
use Rattle.std.specs.Rc.{rc_str_bytes}
use Rattle.std.specs.declared.rc.RcStr.{RcStr}
use Rattle.serde_json.specs.Data.{Members}
use Rattle.serde_json.specs.View.{members_view, view}
use Rattle.serde_json.specs.declared.value.Value.{Value}
use Rattle.cedar_builders.specs.BareExpr.{Text, BareExpr}
use Rattle.cedar_builders.specs.Keys.{meant_pairs}
use Rattle.cedar_exprs.specs.BareExpr.{bare_expr}
use Rattle.cedar_exprs.specs.declared.expr.Expr.{Expr}
use Rattle.cedar_bindings.specs.Requests.{AreNamed, IsMember}

-- what the names that are left stand for, and what was made before, together are what all stand for
abbrev pub AreNamedWith : List (String Global × Value) → Members → List (RcStr Global × Expr Unit) → Type 0
AreNamedWith left all done =
    (rest : List (Text × BareExpr)) → AreNamed (members_view left) rest
    → AreNamed all (meant_pairs bare_expr done ++ rest)

pub named_go_on : (left next : List (String Global × Value)) (k : String Global) (v : Value)
    (all : Members) (done new : List (RcStr Global × Expr Unit)) (x : RcStr Global × Expr Unit)
    → left ≡ (k, v) ∷ next → new ≡ done ++ x ∷ [] → rc_str_bytes x.0 ≡ string_bytes k
    → IsMember (string_bytes k) (view v) (bare_expr x.1) → AreNamedWith left all done → AreNamedWith next all new
named_go_on left next k v all done new x steps more key is before rest h =
    let p : Text × BareExpr = (rc_str_bytes x.0, bare_expr x.1) in
    let same =
    ap (λ n. meant_pairs bare_expr n ++ rest) more
    ∙ ap (λ ps. ps ++ rest) (map-append (λ q. (rc_str_bytes q.0, bare_expr q.1)) done (x ∷ []))
    ∙ append_assoc (meant_pairs bare_expr done) (p ∷ []) rest in
    subst (AreNamed all) (sym same)
    (before (p ∷ rest) (subst (λ ms. AreNamed (members_view ms) (p ∷ rest)) (sym steps) (key, is, h)))

pub named_end : (left : List (String Global × Value)) (all : Members)
    (done : List (RcStr Global × Expr Unit)) → left ≡ [] → AreNamedWith left all done
    → AreNamed all (meant_pairs bare_expr done)
named_end left all done none before =
    subst (AreNamed all) (append-nil (meant_pairs bare_expr done))
    (before [] (subst (λ ms. AreNamed (members_view ms) []) (sym none) tt))
