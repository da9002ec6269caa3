-- Rows of items and of members, one longer, and loops over them.
use Rattle.std.proofs.Common.{◌≡◌, ◌≤◌, ◌<◌, ◌+◌, ℕ, zero, suc, List, [], ◌∷◌, ◌++◌, take, map, length, get_or, ap, refl, sym, ◌∙◌, subst, arith, append_assoc, append-nil}
use Rattle.std.proofs.Math.Seq.{take-suc}
use Rattle.std.proofs.lemmas.List.{take_all, map-append}
use Rattle.std.specs.Prelude.{String, string_bytes}
use Rattle.std.specs.Global.{Global}
use Rattle.serde_json.specs.Data.{Data, Items, no_items, item, Members, member}
use Rattle.std.specs.Rc.{rc_str_bytes}
use Rattle.std.specs.declared.rc.RcStr.{RcStr}
use Rattle.serde_json.specs.View.{items_of, members_view, view}
use Rattle.serde_json.specs.declared.value.Value.{Value}
use Rattle.cedar_builders.specs.BareExpr.{Text, BareExpr}
use Rattle.cedar_builders.specs.Keys.{meant_pairs}
use Rattle.cedar_exprs.specs.BareExpr.{bare_expr}
use Rattle.cedar_exprs.specs.declared.expr.Expr.{Expr}
use Rattle.cedar_json.specs.Values.{AreEach, AreMembers, AreFields, StandsFor}

pub both : {A B C : Type 0} (f : A → B → C) {a b : A} {c d : B} → a ≡ b → c ≡ d → f a c ≡ f b d
both f {a} {b} {c} {d} p q = ap (λ x. f x c) p ∙ ap (f b) q

module _ {A : Type 0} (P : Data → A → Type 0) where
  pub each_pushed : (ds : List Data) (xs : List A) (d : Data) (x : A) → AreEach P (items_of ds) xs → P d x
      → AreEach P (items_of (ds ++ d ∷ [])) (xs ++ x ∷ [])
  each_pushed [] [] d x h is = (is, tt)
  each_pushed [] (y ∷ xs) d x h is = elim h [ ]
  each_pushed (c ∷ ds) [] d x h is = elim h [ ]
  each_pushed (c ∷ ds) (y ∷ xs) d x h is = (h.0, each_pushed ds xs d x h.1 is)

  -- each item stands for something
  pub each_at : (vs : List Value) (xs : List A) (i : ℕ) (v : Value) → i < length vs → v ≡ get_or vs i v
      → AreEach P (items_of (map view vs)) xs → (x : A) × P (view v) x
  each_at [] xs i v lt is h = elim lt [ ]
  each_at (w ∷ vs) [] i v lt is h = elim h [ ]
  each_at (w ∷ vs) (x ∷ xs) zero v lt is h = (x, subst (λ u. P (view u) x) (sym is) h.0)
  each_at (w ∷ vs) (x ∷ xs) (suc i) v lt is h = each_at vs xs i v (omega (arith, lt)) is h.1

  -- what stands for the same items is as long
  pub each_length : (ds : Items) (xs ys : List A) → AreEach P ds xs → AreEach P ds ys → length xs ≡ length ys
  each_length no_items [] [] h k = refl
  each_length no_items [] (y ∷ ys) h k = elim k [ ]
  each_length no_items (x ∷ xs) ys h k = elim h [ ]
  each_length (item d ds) [] ys h k = elim h [ ]
  each_length (item d ds) (x ∷ xs) [] h k = elim k [ ]
  each_length (item d ds) (x ∷ xs) (y ∷ ys) h k = ap suc (each_length ds xs ys h.1 k.1)

  -- rows that stand for the same items are the same
  pub each_same : ((d : Data) (x y : A) → P d x → P d y → x ≡ y) → (ds : Items) (xs ys : List A) → AreEach P ds xs
      → AreEach P ds ys → xs ≡ ys
  each_same one no_items [] [] h k = refl
  each_same one no_items [] (y ∷ ys) h k = elim k [ ]
  each_same one no_items (x ∷ xs) ys h k = elim h [ ]
  each_same one (item d ds) [] ys h k = elim h [ ]
  each_same one (item d ds) (x ∷ xs) [] h k = elim k [ ]
  each_same one (item d ds) (x ∷ xs) (y ∷ ys) h k = both (λ a bs. a ∷ bs) (one d x y h.0 k.0) (each_same one ds xs ys h.1 k.1)

-- members of a set are each what they stand for
pub as_each : (ds : Items) (es : List BareExpr) → AreMembers ds es → AreEach StandsFor ds es
as_each no_items [] h = tt
as_each no_items (e ∷ es) h = elim h [ ]
as_each (item d ds) [] h = elim h [ ]
as_each (item d ds) (e ∷ es) h = (h.0, as_each ds es h.1)

pub as_members : (ds : Items) (es : List BareExpr) → AreEach StandsFor ds es → AreMembers ds es
as_members no_items [] h = tt
as_members no_items (e ∷ es) h = elim h [ ]
as_members (item d ds) [] h = elim h [ ]
as_members (item d ds) (e ∷ es) h = (h.0, as_members ds es h.1)

-- one item more is taken
taken : {A B : Type 0} (f : A → B) (xs : List A) (i : ℕ) (x : A) → i < length xs
    → x ≡ get_or xs i x → map f (take (i + 1) xs) ≡ map f (take i xs) ++ f x ∷ []
taken f xs i x lt is =
    let next : i + 1 ≡ suc i = omega arith in
    ap (λ n. map f (take n xs)) next
    ∙ ap (map f) (take-suc xs i x lt ∙ ap (λ y. take i xs ++ y ∷ []) (sym is))
    ∙ map-append f (take i xs) (x ∷ [])

module _ {A X : Type 0} (P : Data → A → Type 0) (m : X → A) where
  -- what holds of the items so far and what was made of them holds of one more
  pub goes_on : (vs : List Value) (i : ℕ) (v : Value) (done new : List X) (x : X)
      → i < length vs → v ≡ get_or vs i v → new ≡ done ++ x ∷ []
      → AreEach P (items_of (map view (take i vs))) (map m done) → P (view v) (m x)
      → AreEach P (items_of (map view (take (i + 1) vs))) (map m new)
  goes_on vs i v done new x lt is more before this =
      subst (λ ds. AreEach P (items_of ds) (map m new)) (sym (taken view vs i v lt is))
      (subst (AreEach P (items_of (map view (take i vs) ++ view v ∷ [])))
      (sym (ap (map m) more ∙ map-append m done (x ∷ [])))
      (each_pushed P (map view (take i vs)) (map m done) (view v) (m x) before this))

  -- and in the end it holds of all
  pub ends : (vs : List Value) (i : ℕ) (done : List X) → length vs ≤ i
      → AreEach P (items_of (map view (take i vs))) (map m done) → AreEach P (items_of (map view vs)) (map m done)
  ends vs i done le h = subst (λ ws. AreEach P (items_of (map view ws)) (map m done)) (take_all i vs le) h

-- what holds of the members that are left, and what was made before, together holds of all
abbrev pub AreFieldsWith : List (String Global × Value) → Members → List (RcStr Global × Expr Unit) → Type 0
AreFieldsWith left all done =
    (rest : List (Text × BareExpr)) → AreFields (members_view left) rest
    → AreFields all (meant_pairs bare_expr done ++ rest)

-- where all stand for something, so do those that are left
abbrev pub HaveLeft : List (String Global × Value) → Members → Type 0
HaveLeft left all = (ps : List (Text × BareExpr)) → AreFields all ps
    → (rest : List (Text × BareExpr)) × AreFields (members_view left) rest

-- and the first of them does
pub first_left : (ms : Members) (k : Text) (d : Data) (ps : List (Text × BareExpr)) → AreFields (member k d ms) ps
    → (e : BareExpr) × StandsFor d e
first_left ms k d [] h = elim h [ ]
first_left ms k d (p ∷ ps) h = (p.1, h.1)

next_left : (ms : Members) (k : Text) (d : Data) (ps : List (Text × BareExpr)) → AreFields (member k d ms) ps
    → (rest : List (Text × BareExpr)) × AreFields ms rest
next_left ms k d [] h = elim h [ ]
next_left ms k d (p ∷ ps) h = (ps, h.2)

pub fields_first : (left next : List (String Global × Value)) (k : String Global) (v : Value) (all : Members)
    → left ≡ (k, v) ∷ next → HaveLeft left all → (ps : List (Text × BareExpr)) → AreFields all ps
    → (e : BareExpr) × StandsFor (view v) e
fields_first left next k v all steps have ps h =
    let rest = have ps h in
    first_left (members_view next) (string_bytes k) (view v) rest.0
    (subst (λ ms. AreFields (members_view ms) rest.0) steps rest.1)

pub fields_next : (left next : List (String Global × Value)) (k : String Global) (v : Value) (all : Members)
    → left ≡ (k, v) ∷ next → HaveLeft left all → HaveLeft next all
fields_next left next k v all steps have ps h =
    let rest = have ps h in
    next_left (members_view next) (string_bytes k) (view v) rest.0
    (subst (λ ms. AreFields (members_view ms) rest.0) steps rest.1)

pub fields_go_on : (left next : List (String Global × Value)) (k : String Global) (v : Value)
    (all : Members) (done new : List (RcStr Global × Expr Unit)) (x : RcStr Global × Expr Unit)
    → left ≡ (k, v) ∷ next → new ≡ done ++ x ∷ [] → rc_str_bytes x.0 ≡ string_bytes k
    → StandsFor (view v) (bare_expr x.1) → AreFieldsWith left all done → AreFieldsWith next all new
fields_go_on left next k v all done new x steps more key is before rest h =
    let p : Text × BareExpr = (rc_str_bytes x.0, bare_expr x.1) in
    let same =
    ap (λ n. meant_pairs bare_expr n ++ rest) more
    ∙ ap (λ ps. ps ++ rest) (map-append (λ q. (rc_str_bytes q.0, bare_expr q.1)) done (x ∷ []))
    ∙ append_assoc (meant_pairs bare_expr done) (p ∷ []) rest in
    subst (AreFields all) (sym same)
    (before (p ∷ rest) (subst (λ ms. AreFields (members_view ms) (p ∷ rest)) (sym steps) (key, is, h)))

pub fields_end : (left : List (String Global × Value)) (all : Members)
    (done : List (RcStr Global × Expr Unit)) → left ≡ [] → AreFieldsWith left all done
    → AreFields all (meant_pairs bare_expr done)
fields_end left all done none before =
    subst (AreFields all) (append-nil (meant_pairs bare_expr done))
    (before [] (subst (λ ms. AreFields (members_view ms) []) (sym none) tt))
