-- Outcomes and residuals worked out by hand.
use Rattle.std.specs.Prelude.{◌≡◌, ℤ, pos, Bool, true, false, List, [], ◌∷◌, Option, Some, None, Result, Ok, Err, codes, if◌then◌else◌}
use Rattle.std.specs.declared.cmp.Ordering.{Ordering}
use Rattle.cedar_names.specs.Names.{BareName, unqualified}
use Rattle.cedar_names.specs.NameOrder.{name_eq}
use Rattle.cedar_terms.specs.Entities.{BareEntityUID}
use Rattle.cedar_terms.specs.EntityOrder.{entity_uid_eq}
use Rattle.cedar_terms.specs.Literals.{BoolLit, LongLit, StringLit, EntityLit}
use Rattle.cedar_terms.specs.declared.ops.BinaryOp.TheVariants as Binary
use Rattle.cedar_terms.specs.declared.var.Var.TheVariants as Variable
use Rattle.cedar_builders.specs.BareExpr.{Text, BareExpr, Lit, Var, And, BinaryApp, ExtensionFunctionApp, GetAttr, HasAttr, Set, no_trees, tree, trees_of}
use Rattle.cedar_builders.specs.Environment.{empty}
use Rattle.semantics_values.specs.BareValue.{BareCall, BareValue, LitValue, BarePairs, no_pairs, pair}
use Rattle.semantics_eval.specs.Outcomes.{Mistake, WrongType, Missing, Store, Open, By, Outcome, truth}
use Rattle.semantics_simplify.specs.Simplified.{Simplified, Known, Residual}
use Rattle.semantics_request.specs.Entities.{Entity, NotKnown, NoSuchEntity, Data, Entities}
use Rattle.semantics_request.specs.Requests.{entity, Functions, Knowledge}
use Rattle.semantics_request.specs.Evaluator.{evaluated}
use Rattle.semantics_request.specs.Residuals.{residual}

abbrev uid : Text → Text → BareEntityUID
uid t i = record { entity_type = unqualified t; eid = i }

-- alice is in the group friends, her photo in an album; nothing is known of bob, carol is not there
abbrev pub alice : BareEntityUID
alice = uid (codes "User") (codes "alice")

abbrev pub bob : BareEntityUID
bob = uid (codes "User") (codes "bob")

abbrev pub carol : BareEntityUID
carol = uid (codes "User") (codes "carol")

abbrev pub friends : BareEntityUID
friends = uid (codes "Group") (codes "friends")

abbrev pub view : BareEntityUID
view = uid (codes "Action") (codes "view")

abbrev photo : BareEntityUID
photo = uid (codes "Photo") (codes "beach")

abbrev pub e : BareEntityUID → BareExpr
e u = Lit (EntityLit u)

abbrev pub long : ℤ → BareExpr
long n = Lit (LongLit n)

abbrev text : Text → BareExpr
text s = Lit (StringLit s)

abbrev pub principal : BareExpr
principal = Var Variable.Principal

abbrev pub resource : BareExpr
resource = Var Variable.Resource

abbrev pub context : BareExpr
context = Var Variable.Context

abbrev pub within : BareExpr → BareExpr → BareExpr
within = BinaryApp Binary.In

abbrev set : List BareExpr → BareExpr
set es = Set (trees_of es)

-- a call of `f`, and one of `g`
abbrev call_f : BareExpr
call_f = ExtensionFunctionApp (unqualified (codes "f")) (tree (long (pos 1)) no_trees)

abbrev pub call_g : BareExpr
call_g = ExtensionFunctionApp (unqualified (codes "g")) no_trees

module _ {X : Type 0} where
  abbrev of_alice : Entity X
  of_alice = record {
    attributes = no_pairs;
    tags = pair (codes "team") (LitValue (StringLit (codes "blue"))) no_pairs;
    is_descendant_of = entity_uid_eq friends;
  }

  abbrev of_photo : Entity X
  of_photo = record {
    attributes = pair (codes "owner") (entity alice) no_pairs;
    tags = no_pairs;
    is_descendant_of = λ u. false;
  }

  abbrev store : Entities X
  store u =
      if entity_uid_eq u alice then Data of_alice
      else if entity_uid_eq u photo then Data of_photo
      else if entity_uid_eq u bob then NotKnown
      else NoSuchEntity

  -- `f` makes its one argument
  abbrev pub table : Functions X
  table = record {
    call = λ n. if name_eq n (unqualified (codes "f")) then Some given else None;
    compare = λ x y. None;
  }
    where
      given : List (BareValue X) → Result (BareValue X) Mistake
      given (t ∷ []) = Ok t
      given ts = Err WrongType

  -- who asks to view the photo, in a context that is hidden or not, if that is known
  abbrev pub asks : BareEntityUID → Option Bool → Knowledge X
  asks u h = record {
    request = record {
      principal = Some u;
      action = Some view;
      resource = Some photo;
      context = in_context h;
    };
    entities = store;
    bindings = empty;
  }
    where
      in_context : Option Bool → Option (BarePairs X)
      in_context None = None
      in_context (Some b) = Some (pair (codes "hidden") (LitValue (BoolLit b)) no_pairs)

  abbrev gives : BareValue X → Result (Outcome X) BareName
  gives t = Ok (Ok t)

  abbrev is : Bool → Result (Outcome X) BareName
  is b = gives (truth b)

  abbrev is_open : Result (Outcome X) BareName
  is_open = Ok (Err Open)

  abbrev fails : Mistake → Result (Outcome X) BareName
  fails m = Ok (Err (By m))

  module _ (R : X → X → Ordering) (E : X → X → Bool) where
    abbrev eval : BareExpr → Result (Outcome X) BareName
    eval = evaluated R E table (asks alice None)

    pub record AreWorkedOutcomes : Type 0 where
      -- `in`: of an entity that is there, that is not there, of which nothing is known
      pub below : eval (within (e alice) (e friends)) ≡ is true
      pub itself : eval (within (e alice) (e alice)) ≡ is true
      pub not_below : eval (within (e alice) (e photo)) ≡ is false
      pub in_set : eval (within (e alice) (set (e photo ∷ e friends ∷ []))) ≡ is true
      pub in_no_set :
          eval (within (e alice) (set (e friends ∷ long (pos 1) ∷ []))) ≡ fails WrongType
      pub absent_in_itself : eval (within (e carol) (e carol)) ≡ is true
      pub absent_in : eval (within (e carol) (e friends)) ≡ is false
      pub unknown_in : eval (within (e bob) (e friends)) ≡ is_open
      pub no_entity_in : eval (within (long (pos 1)) (e friends)) ≡ fails WrongType
      -- attributes
      pub owner : eval (GetAttr resource (codes "owner")) ≡ gives (entity alice)
      pub no_attribute : eval (GetAttr resource (codes "rating")) ≡ fails Missing
      pub absent_attribute : eval (GetAttr (e carol) (codes "age")) ≡ fails Store
      pub absent_has : eval (HasAttr (e carol) (codes "age") []) ≡ is false
      pub unknown_has : eval (HasAttr (e bob) (codes "age") []) ≡ is_open
      pub path : eval (HasAttr resource (codes "owner") (codes "age" ∷ [])) ≡ is false
      -- tags
      pub team :
          eval (BinaryApp Binary.GetTag principal (text (codes "team")))
          ≡ gives (LitValue (StringLit (codes "blue")))
      pub no_tag : eval (BinaryApp Binary.GetTag principal (text (codes "age"))) ≡ fails Missing
      pub has_tag : eval (BinaryApp Binary.HasTag principal (text (codes "team"))) ≡ is true
      pub absent_tag : eval (BinaryApp Binary.HasTag (e carol) (text (codes "team"))) ≡ is false
      pub no_text : eval (BinaryApp Binary.HasTag principal (long (pos 1))) ≡ fails WrongType
      -- variables, and calls
      pub of_request : eval principal ≡ gives (entity alice)
      pub not_known : eval context ≡ is_open
      pub called : eval call_f ≡ gives (LitValue (LongLit (pos 1)))
      pub open_argument :
          eval (ExtensionFunctionApp (unqualified (codes "f")) (tree context no_trees)) ≡ is_open
      pub no_function : eval call_g ≡ Err (unqualified (codes "g"))

    -- residuals of the same request, where the context is not known
    module _ (C : X → BareCall) where
      abbrev residual_of : BareEntityUID → BareExpr → Simplified X
      residual_of u = residual R E C (asks u None)

      abbrev below_three : BareExpr
      below_three = BinaryApp Binary.Less (GetAttr context (codes "age")) (long (pos 3))

      pub record AreWorkedResiduals : Type 0 where
        pub in_group : residual_of alice (within principal (e friends)) ≡ Known (truth true)
        pub in_unknown :
            residual_of bob (within principal (e friends)) ≡ Residual (within (e bob) (e friends))
        pub owner : residual_of bob (GetAttr resource (codes "owner")) ≡ Known (entity alice)
        pub team :
            residual_of alice (BinaryApp Binary.GetTag principal (text (codes "team")))
            ≡ Known (LitValue (StringLit (codes "blue")))
        pub rest :
            residual_of alice (And (within principal (e friends)) below_three)
            ≡ Residual below_three
        pub not_asked :
            residual_of carol (And (within principal (e friends)) below_three) ≡ Known (truth false)
        -- a tree that has a fault stays, with what is known put in
        pub fault :
            residual_of alice (GetAttr resource (codes "rating"))
            ≡ Residual (GetAttr (e photo) (codes "rating"))
        pub nothing : residual_of alice below_three ≡ Residual below_three
