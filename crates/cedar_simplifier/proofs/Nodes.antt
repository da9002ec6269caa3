-- Whether a node calls nothing, by whether its children do.
use Rattle.std.proofs.Common.{◌≡◌, refl, sym, ◌∙◌, ap, Bool, true, false, ◌&&◌, List, [], ◌∷◌, map}
use Rattle.std.proofs.Math.Bool.{and-true, and_assoc}
use Rattle.std.specs.List.{list_all}
use Rattle.cedar_builders.specs.BareExpr.{BareExpr, trees_of}
use Rattle.cedar_builders.specs.Walks.{children, members_of}
use Rattle.semantics_simplify.specs.Asks.{passes, is_no_call, holds_no_call}
use Rattle.semantics_simplify.specs.Laws.{AsksByChildren}

-- e is the tree of a node d
module _ (law : AsksByChildren) (d e : BareExpr) (is : d ≡ e) where
  -- a call
  pub of_call : passes is_no_call e ≡ false → false ≡ holds_no_call d
  of_call here =
      sym (ap holds_no_call is ∙ law is_no_call e
      ∙ ap (λ p. p && list_all holds_no_call (children e)) here)

  module _ (here : passes is_no_call e ≡ true) where
    -- b says whether its children, of which these are the list, call nothing
    pub of_children : (cs : List BareExpr) → children e ≡ cs → (b : Bool)
        → b ≡ list_all holds_no_call cs → b ≡ holds_no_call d
    of_children cs below b h =
        h ∙ (ap (list_all holds_no_call) (sym below)
        ∙ (ap (λ p. p && list_all holds_no_call (children e)) (sym here)
        ∙ (sym (law is_no_call e) ∙ ap holds_no_call (sym is))))

    pub of_one : (a : BareExpr) → children e ≡ a ∷ [] → (b : Bool) → b ≡ holds_no_call a
        → b ≡ holds_no_call d
    of_one a below b h = of_children (a ∷ []) below b (h ∙ sym (and-true (holds_no_call a)))

    pub of_two : (a c : BareExpr) → children e ≡ a ∷ c ∷ [] → (b : Bool)
        → b ≡ (holds_no_call a && holds_no_call c) → b ≡ holds_no_call d
    of_two a c below b h =
        of_children (a ∷ c ∷ []) below b
        (h ∙ ap (λ p. holds_no_call a && p) (sym (and-true (holds_no_call c))))

    pub of_three : (a c f : BareExpr) → children e ≡ a ∷ c ∷ f ∷ [] → (b : Bool)
        → b ≡ ((holds_no_call a && holds_no_call c) && holds_no_call f) → b ≡ holds_no_call d
    of_three a c f below b h =
        of_children (a ∷ c ∷ f ∷ []) below b
        (h ∙ and_assoc (holds_no_call a) (holds_no_call c) (holds_no_call f)
        ∙ ap (λ p. holds_no_call a && (holds_no_call c && p)) (sym (and-true (holds_no_call f))))

-- the members of a set that is made of a list are those of the list
pub members_all : {A : Type 0} (f : A → BareExpr) (xs : List A)
    → list_all holds_no_call (members_of (trees_of (map f xs)))
    ≡ list_all (λ x. holds_no_call (f x)) xs
members_all f [] = refl
members_all f (x ∷ xs) = ap (λ b. holds_no_call (f x) && b) (members_all f xs)
