-- Substitution node by node: a value may be refused where an unknown stands, and a leaf may stay as it is.
use Rattle.std.specs.Prelude.{◌≡◌, ⊤, Bool, true, false, List, [], ◌∷◌, Option, Some, None, Result, Ok, Err, refl}
use Rattle.std.specs.Option.{option_or}
use Rattle.std.proofs.Common.{sym, ap, ◌∙◌, subst}
use Rattle.cedar_terms.specs.Types.{BareType}
use Rattle.cedar_builders.specs.BareExpr.{Text, BareExpr, Lit, Var, Slot, Unknown, If, And, Or, UnaryApp, BinaryApp, ExtensionFunctionApp, GetAttr, HasAttr, Like, Set, Record, Is, BareExprs, no_trees, tree, trees_of, BareFields, no_fields, field, fields_of}
use Rattle.cedar_builders.specs.Ops.{Ops}
use Rattle.cedar_builders.specs.Environment.{Env}
use Rattle.cedar_builders.specs.Fold.{on_one, on_two, on_three, and_then, fold_with, fold_all, fold_fields}
use Rattle.cedar_builders.specs.Trees.{and_made, or_made, tree_ops_with, bound_tree, substituted, all_substituted, fields_substituted}
use Rattle.cedar_builders.specs.TypeClash.{TwoTypes, Refusals, refused_binding, first_refusal, first_refusal_of_all, first_refusal_of_fields}
use Rattle.cedar_builders.specs.Walks.{children}
use Rattle.cedar_builders.specs.NodeByNode.{gathered, strict_at, IsMadeByNodes, IsBuiltOf, fold_by_nodes}

-- the builder of trees, where a value may be refused
abbrev pub checked_ops : Ops BareExpr TwoTypes
checked_ops = tree_ops_with TwoTypes

-- what was refused, else the answer
abbrev pub unless_refused : {A : Type 0} → Option TwoTypes → A → Result A TwoTypes
unless_refused None a = Ok a
unless_refused (Some x) a = Err x

-- what an unknown gives: the tree that it is bound to, unless that is refused, else itself
abbrev pub at_binding : Refusals → Env → Text → Option BareType → Result BareExpr TwoTypes
at_binding refuse env n t = unless_refused (refused_binding refuse t (env n)) (bound_tree (env n) (Unknown n t))

-- what a tree is made by substitution, or the first refusal
abbrev pub substituted_unless : Refusals → Env → BareExpr → Result BareExpr TwoTypes
substituted_unless refuse env = fold_with checked_ops (at_binding refuse env)

-- whether a tree stays as it is, with its place
abbrev pub stays : BareExpr → Bool
stays (Lit l) = true
stays (Var v) = true
stays (Slot s) = true
stays e = false

-- a new tree, unless the tree stays as it is
abbrev pub new_unless : Bool → BareExpr → Option BareExpr
new_unless true t = None
new_unless false t = Some t

-- the new tree, else the one that stays
abbrev pub new_or : BareExpr → Option BareExpr → BareExpr
new_or e None = e
new_or e (Some t) = t

abbrev pub all_new_or : List BareExpr → List (Option BareExpr) → List BareExpr
all_new_or [] ms = []
all_new_or (e ∷ es) [] = []
all_new_or (e ∷ es) (m ∷ ms) = new_or e m ∷ all_new_or es ms

-- the new tree that a tree is made, if it does not stay
abbrev pub renewed : Refusals → Env → BareExpr → Result (Option BareExpr) TwoTypes
renewed refuse env e = on_one (new_unless (stays e)) (substituted_unless refuse env e)

-- a new tree is given where the tree does not stay, and a refusal where there is one
abbrev pub IsNew : Bool → (Result BareExpr TwoTypes → Type 0) → Result (Option BareExpr) TwoTypes → Type 0
IsNew stays IsMade (Err x) = IsMade (Err x)
IsNew true IsMade (Ok None) = ⊤
IsNew true IsMade (Ok (Some t)) = ⊥
IsNew false IsMade (Ok None) = ⊥
IsNew false IsMade (Ok (Some t)) = IsMade (Ok t)

-- what is made of a node and the new trees of its children
abbrev pub IsRenewedOf : Refusals → Env → BareExpr → List (Option BareExpr) → Result (Option BareExpr) TwoTypes → Type 0
IsRenewedOf refuse env e ms = IsNew (stays e) (IsBuiltOf checked_ops (at_binding refuse env) e (all_new_or (children e) ms))

module _ {A M N F : Type 0} (f : BareExpr → Result M F) (g : BareExpr → M → N) where
  on_each : (k : Result A F) (m : M → N) (r : Result M F) (s : Result (List N) F) (t : Result (List M) F) → and_then (λ _. k) s ≡ and_then (λ _. k) t
      → and_then (λ _. k) (on_two (λ n ns. n ∷ ns) (on_one m r) s) ≡ and_then (λ _. k) (on_two (λ n ns. n ∷ ns) r t)
  on_each k m (Ok a) (Ok b) (Ok c) h = h
  on_each k m (Ok a) (Ok b) (Err y) h = h
  on_each k m (Ok a) (Err x) (Ok c) h = h
  on_each k m (Ok a) (Err x) (Err y) h = h
  on_each k m (Err x) s t h = refl

  -- the errors are the same
  errors_same : (k : Result A F) (es : List BareExpr) → and_then (λ _. k) (gathered (λ e. on_one (g e) (f e)) es) ≡ and_then (λ _. k) (gathered f es)
  errors_same k [] = refl
  errors_same k (e ∷ es) = on_each k (g e) (f e) (gathered (λ x. on_one (g x) (f x)) es) (gathered f es) (errors_same k es)

inside : {M N F : Type 0} (g : M → N) (r : Result M F) (s : Result (List M) F) → r ≡ and_then (λ _. r) s → on_one g r ≡ and_then (λ _. on_one g r) s
inside g r (Ok ms) h = refl
inside g r (Err x) h = ap (on_one g) h

new_of : (b : Bool) (e : BareExpr) (r : Result BareExpr TwoTypes) (m : Option BareExpr) → (b ≡ true → r ≡ Ok e) → on_one (new_unless b) r ≡ Ok m → r ≡ Ok (new_or e m)
new_of true e (Ok t) m kept is = let same : None ≡ m = cc in kept refl ∙ ap (λ x. Ok (new_or e x)) same
new_of false e (Ok t) m kept is = let same : Some t ≡ m = cc in ap (λ x. Ok (new_or e x)) same
new_of b e (Err x) m kept is = cc

all_new_of : (e : BareExpr) (es : List BareExpr) (r : Result BareExpr TwoTypes) (s : Result (List BareExpr) TwoTypes) (g : Result (Option BareExpr) TwoTypes) (h : Result (List (Option BareExpr)) TwoTypes)
    (ms : List (Option BareExpr)) → ((m : Option BareExpr) → g ≡ Ok m → r ≡ Ok (new_or e m)) → ((ns : List (Option BareExpr)) → h ≡ Ok ns → s ≡ Ok (all_new_or es ns))
    → on_two (λ n ns. n ∷ ns) g h ≡ Ok ms → on_two (λ n ns. n ∷ ns) r s ≡ Ok (all_new_or (e ∷ es) ms)
all_new_of e es r s (Ok m) (Ok ns) ms one more is =
    let same : m ∷ ns ≡ ms = cc in
    subst (λ xs. on_two (λ n ns. n ∷ ns) r s ≡ Ok (all_new_or (e ∷ es) xs)) same (rw (one m refl, more ns refl) refl)
all_new_of e es r s (Ok m) (Err x) ms one more is = cc
all_new_of e es r s (Err x) h ms one more is = cc

one : {A B : Type 0} (x : Option TwoTypes) (f : A → B) (a : A) → on_one f (unless_refused x a) ≡ unless_refused x (f a)
one None f a = refl
one (Some x) f a = refl

two : {A B C : Type 0} (x y : Option TwoTypes) (f : A → B → C) (a : A) (b : B) → on_two f (unless_refused x a) (unless_refused y b) ≡ unless_refused (option_or x y) (f a b)
two None None f a b = refl
two None (Some y) f a b = refl
two (Some x) y f a b = refl

three : {A B C D : Type 0} (x y z : Option TwoTypes) (f : A → B → C → D) (a : A) (b : B) (c : C)
    → on_three f (unless_refused x a) (unless_refused y b) (unless_refused z c) ≡ unless_refused (option_or x (option_or y z)) (f a b c)
three None y z f a b c = two y z (f a) b c
three (Some x) y z f a b c = refl

then_tree : {A B : Type 0} (x : Option TwoTypes) (a : A) (f : A → B) → and_then (λ b. Ok (f b)) (unless_refused x a) ≡ unless_refused x (f a)
then_tree None a f = refl
then_tree (Some x) a f = refl

of_new : (b : Bool) (P : Result BareExpr TwoTypes → Type 0) (f : Result BareExpr TwoTypes) (e : BareExpr) (r : Result (Option BareExpr) TwoTypes)
    → ((t : Result BareExpr TwoTypes) → P t → f ≡ t) → (b ≡ true → f ≡ Ok e) → IsNew b P r → on_one (new_unless b) f ≡ r
of_new b P f e (Err x) made kept h = ap (on_one (new_unless b)) (made (Err x) h)
of_new true P f e (Ok None) made kept h = ap (on_one (new_unless true)) (kept refl)
of_new true P f e (Ok (Some t)) made kept h = absurd h
of_new false P f e (Ok None) made kept h = absurd h
of_new false P f e (Ok (Some t)) made kept h = ap (on_one (new_unless false)) (made (Ok t) h)

passed : (found : Option TwoTypes) (t u : BareExpr) → unless_refused found t ≡ Ok u → (found ≡ None) × (u ≡ t)
passed None t u is = let same : t ≡ u = cc in (refl, sym same)
passed (Some x) t u is = cc

found_is : (b : Bool) (found : Option TwoTypes) (t : BareExpr) (x : TwoTypes) → on_one (new_unless b) (unless_refused found t) ≡ Err x → found ≡ Some x
found_is b None t x is = cc
found_is b (Some y) t x is = let same : y ≡ x = cc in ap Some same

module _ (refuse : Refusals) (env : Env) where
  kept : (e : BareExpr) → stays e ≡ true → substituted_unless refuse env e ≡ Ok e
  kept (Lit l) h = refl
  kept (Var v) h = refl
  kept (Slot s) h = refl
  kept e h = cc

  new_is : (e : BareExpr) (m : Option BareExpr) → renewed refuse env e ≡ Ok m → substituted_unless refuse env e ≡ Ok (new_or e m)
  new_is e m is = new_of (stays e) e (substituted_unless refuse env e) m (kept e) is

  all_new : (es : List BareExpr) (ms : List (Option BareExpr)) → gathered (renewed refuse env) es ≡ Ok ms → gathered (substituted_unless refuse env) es ≡ Ok (all_new_or es ms)
  all_new [] ms is = refl
  all_new (e ∷ es) ms is = all_new_of e es (substituted_unless refuse env e) (gathered (substituted_unless refuse env) es) (renewed refuse env e) (gathered (renewed refuse env) es) ms (new_is e) (all_new es) is

  strict_renewed : (e : BareExpr) → renewed refuse env e ≡ strict_at (renewed refuse env) e
  strict_renewed e =
      inside (new_unless (stays e)) (substituted_unless refuse env e) (gathered (substituted_unless refuse env) (children e)) ((fold_by_nodes checked_ops (at_binding refuse env)).strict e)
      ∙ sym (errors_same (substituted_unless refuse env) (λ x. new_unless (stays x)) (renewed refuse env e) (children e))

  renewed_of : (e : BareExpr) (ms : List (Option BareExpr)) (r : Result (Option BareExpr) TwoTypes) → gathered (renewed refuse env) (children e) ≡ Ok ms → IsRenewedOf refuse env e ms r → renewed refuse env e ≡ r
  renewed_of e ms r is h =
      of_new (stays e) (IsBuiltOf checked_ops (at_binding refuse env) e (all_new_or (children e) ms)) (substituted_unless refuse env e) e r
      (λ t. (fold_by_nodes checked_ops (at_binding refuse env)).of_children e (all_new_or (children e) ms) t (all_new (children e) ms is)) (kept e) h

  -- substitution goes node by node
  pub renewed_by_nodes : IsMadeByNodes (renewed refuse env) (IsRenewedOf refuse env)
  renewed_by_nodes = record { strict = strict_renewed; of_children = renewed_of }

  abbrev IsListed : Result (List BareExpr) TwoTypes → Option TwoTypes → BareExprs → Type 0
  IsListed r found es = (xs : List BareExpr) × (r ≡ unless_refused found xs) × (trees_of xs ≡ es)

  abbrev IsPaired : Result (List (Text × BareExpr)) TwoTypes → Option TwoTypes → BareFields → Type 0
  IsPaired r found fs = (ps : List (Text × BareExpr)) × (r ≡ unless_refused found ps) × (fields_of ps ≡ fs)

  mutual
    -- the first refusal, else the tree in which each bound unknown is made its tree
    pub by_refusal : (e : BareExpr) → substituted_unless refuse env e ≡ unless_refused (first_refusal refuse env e) (substituted env e)
    by_refusal (Lit l) = refl
    by_refusal (Var v) = refl
    by_refusal (Slot s) = refl
    by_refusal (Unknown n t) = refl
    by_refusal (If a b c) = rw (by_refusal a, by_refusal b, by_refusal c) (three (first_refusal refuse env a) (first_refusal refuse env b) (first_refusal refuse env c) If (substituted env a) (substituted env b) (substituted env c))
    by_refusal (And a b) = rw (by_refusal a, by_refusal b) (two (first_refusal refuse env a) (first_refusal refuse env b) and_made (substituted env a) (substituted env b))
    by_refusal (Or a b) = rw (by_refusal a, by_refusal b) (two (first_refusal refuse env a) (first_refusal refuse env b) or_made (substituted env a) (substituted env b))
    by_refusal (UnaryApp o a) = rw (by_refusal a) (one (first_refusal refuse env a) (UnaryApp o) (substituted env a))
    by_refusal (BinaryApp o a b) = rw (by_refusal a, by_refusal b) (two (first_refusal refuse env a) (first_refusal refuse env b) (BinaryApp o) (substituted env a) (substituted env b))
    by_refusal (ExtensionFunctionApp n es) = let h = all_by_refusal es in rw h.1 (then_tree (first_refusal_of_all refuse env es) h.0 (λ xs. ExtensionFunctionApp n (trees_of xs)) ∙ ap (λ xs. unless_refused (first_refusal_of_all refuse env es) (ExtensionFunctionApp n xs)) h.2)
    by_refusal (GetAttr a k) = rw (by_refusal a) (one (first_refusal refuse env a) (λ m. GetAttr m k) (substituted env a))
    by_refusal (HasAttr a k ks) = rw (by_refusal a) (one (first_refusal refuse env a) (λ m. HasAttr m k ks) (substituted env a))
    by_refusal (Like a p) = rw (by_refusal a) (one (first_refusal refuse env a) (λ m. Like m p) (substituted env a))
    by_refusal (Set es) = let h = all_by_refusal es in rw h.1 (one (first_refusal_of_all refuse env es) (λ xs. Set (trees_of xs)) h.0 ∙ ap (λ xs. unless_refused (first_refusal_of_all refuse env es) (Set xs)) h.2)
    by_refusal (Record fs) = let h = fields_by_refusal fs in rw h.1 (one (first_refusal_of_fields refuse env fs) (λ ps. Record (fields_of ps)) h.0 ∙ ap (λ xs. unless_refused (first_refusal_of_fields refuse env fs) (Record xs)) h.2)
    by_refusal (Is a n) = rw (by_refusal a) (one (first_refusal refuse env a) (λ m. Is m n) (substituted env a))

    all_by_refusal : (es : BareExprs) → IsListed (fold_all checked_ops (at_binding refuse env) es) (first_refusal_of_all refuse env es) (all_substituted env es)
    all_by_refusal no_trees = ([], refl, refl)
    all_by_refusal (tree e es) =
        let h = all_by_refusal es in
        (substituted env e ∷ h.0, rw (by_refusal e, h.1) (two (first_refusal refuse env e) (first_refusal_of_all refuse env es) (λ m ms. m ∷ ms) (substituted env e) h.0), ap (tree (substituted env e)) h.2)

    fields_by_refusal : (fs : BareFields) → IsPaired (fold_fields checked_ops (at_binding refuse env) fs) (first_refusal_of_fields refuse env fs) (fields_substituted env fs)
    fields_by_refusal no_fields = ([], refl, refl)
    fields_by_refusal (field k e fs) =
        let h = fields_by_refusal fs in
        ((k, substituted env e) ∷ h.0, rw (by_refusal e, h.1) (two (first_refusal refuse env e) (first_refusal_of_fields refuse env fs) (λ m ms. (k, m) ∷ ms) (substituted env e) h.0), ap (field k (substituted env e)) h.2)

  -- the new tree is what substitution makes where nothing is refused
  pub renewed_is : (e : BareExpr) (m : Option BareExpr) → renewed refuse env e ≡ Ok m → (first_refusal refuse env e ≡ None) × (new_or e m ≡ substituted env e)
  renewed_is e m is = passed (first_refusal refuse env e) (substituted env e) (new_or e m) (sym (by_refusal e) ∙ new_is e m is)

  -- else what was refused first
  pub refused_is : (e : BareExpr) (x : TwoTypes) → renewed refuse env e ≡ Err x → first_refusal refuse env e ≡ Some x
  refused_is e x is = found_is (stays e) (first_refusal refuse env e) (substituted env e) x (ap (on_one (new_unless (stays e))) (sym (by_refusal e)) ∙ is)
