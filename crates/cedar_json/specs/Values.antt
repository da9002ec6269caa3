-- What JSON stands for where a value is wanted: an expression of literals, sets, records and calls
-- (Cedar's `entities/json/value.rs`).
use Rattle.std.specs.Prelude.{◌≡◌, ℕ, false, length, List, [], ◌∷◌, codes, Option, Some, None, option_map, option_and_then, ⊤}
use Rattle.serde_json.specs.Data.{Data, null, boolean, number, string, array, object, Items, no_items, item, Members, no_members, member}
use Rattle.serde_json.specs.Find.{as_array, as_i64, as_str, get, get_member}
use Rattle.cedar_function_names.specs.Names.{arity_of, function_named}
use Rattle.cedar_function_names.specs.declared.function.ExtensionFunction.{ExtensionFunction}
use Rattle.cedar_names.specs.Names.{BareName, IsNameOf, has_reserved}
use Rattle.cedar_terms.specs.Entities.{BareEntityUID}
use Rattle.cedar_terms.specs.Literals.{BoolLit, LongLit, StringLit, EntityLit}
use Rattle.cedar_builders.specs.BareExpr.{Text, BareExpr, Lit, ExtensionFunctionApp, Set, Record, trees_of, fields_of}
use Rattle.cedar_builders.specs.Keys.{in_key_order}

-- the text at a key of an object
abbrev pub text_at : Text → Data → Option Text
text_at k d = option_and_then as_str (get k d)

-- the name that a text is
abbrev pub IsNameIn : Text → BareName → Type 0
IsNameIn s n = IsNameOf s n × (has_reserved n ≡ false)

-- `{"type": T, "id": I}` is the entity of this type and this identifier
pub record IsEntity (d : Data) (u : BareEntityUID) : Type 0 where
  pub written : Text
  pub typed : text_at (codes "type") d ≡ Some written
  pub named : IsNameIn written u.entity_type
  pub identified : text_at (codes "id") d ≡ Some u.eid

-- the literal of this entity
abbrev pub IsEntityLiteral : Data → BareExpr → Type 0
IsEntityLiteral d e = (u : BareEntityUID) × IsEntity d u × (e ≡ Lit (EntityLit u))

-- truth values, integers of 64 bits and texts are literals
abbrev pub IsLiteral : Data → BareExpr → Type 0
IsLiteral null e = ⊥
IsLiteral (boolean b) e = e ≡ Lit (BoolLit b)
IsLiteral (number n) e = option_map (λ z. Lit (LongLit z)) (as_i64 n) ≡ Some e
IsLiteral (string s) e = e ≡ Lit (StringLit s)
IsLiteral (array ds) e = ⊥
IsLiteral (object ms) e = ⊥

-- the arguments of a call, as a member `arg` or a list `args` gives them
abbrev pub args_by : Option Data → Option Items → Option Items
args_by (Some d) None = Some (item d no_items)
args_by (Some d) (Some ds) = None
args_by None ds = ds

abbrev pub args_of : Data → Option Items
args_of d = args_by (get (codes "arg") d) (option_and_then as_array (get (codes "args") d))

-- each item stands for one of these
abbrev pub AreEach : {A : Type 0} → (Data → A → Type 0) → Items → List A → Type 0
AreEach P no_items [] = ⊤
AreEach P no_items (x ∷ xs) = ⊥
AreEach P (item d ds) [] = ⊥
AreEach P (item d ds) (x ∷ xs) = P d x × AreEach P ds xs

-- the text is the name of a function or a method of Cedar's that takes so many arguments
abbrev pub IsFunctionOf : Text → ℕ → Type 0
IsFunctionOf s n = (f : ExtensionFunction) × (function_named s ≡ Some f) × (arity_of f ≡ n)

-- the call of the function that the text at `fn` names, of as many arguments as it takes
pub record IsNamedCall (d : Data) (args : List BareExpr) (e : BareExpr) : Type 0 where
  pub written : Text
  pub function : text_at (codes "fn") d ≡ Some written
  pub takes : IsFunctionOf written (length args)
  pub name : BareName
  pub named : IsNameIn written name
  pub call : e ≡ ExtensionFunctionApp name (trees_of args)

-- it is a call of so many arguments, whatever they are
abbrev pub IsCallWith : Data → ℕ → BareExpr → Type 0
IsCallWith d n e = (args : List BareExpr) × (length args ≡ n) × IsNamedCall d args e

-- `{"fn": F, "arg": A}` and `{"fn": F, "args": [A, ..]}` are the call of this function, where P
-- says what an argument may be
pub record IsCallOf (P : Data → BareExpr → Type 0) (d : Data) (e : BareExpr) : Type 0 where
  pub items : Items
  pub given : args_of d ≡ Some items
  pub args : List BareExpr
  pub each : AreEach P items args
  pub call : IsNamedCall d args e

-- an argument is a literal, or `{"__extn": ..}` with a call of literals
abbrev pub ArgumentBy : Option Data → Data → BareExpr → Type 0
ArgumentBy (Some c) d e = IsCallOf IsLiteral c e
ArgumentBy None d e = IsLiteral d e

abbrev pub IsArgument : Data → BareExpr → Type 0
IsArgument d e = ArgumentBy (get (codes "__extn") d) d e

-- an object with a member `__entity` or `__extn` is an entity or a call; with `__expr` it is nothing
abbrev pub IsMarked : Option Data → Option Data → Option Data → BareExpr → Type 0
IsMarked (Some d) c x e = IsEntityLiteral d e
IsMarked None (Some c) x e = IsCallOf IsArgument c e
IsMarked None None x e = ⊥

-- any other object is a record
abbrev pub ObjectBy :
    Option Data → Option Data → Option Data → (BareExpr → Type 0) → BareExpr → Type 0
ObjectBy None None None IsRecord e = IsRecord e
ObjectBy d c x IsRecord e = IsMarked d c x e

-- it has none of these members
pub record IsUnmarked (d : Data) : Type 0 where
  pub no_entity : get (codes "__entity") d ≡ None
  pub no_call : get (codes "__extn") d ≡ None
  pub no_expr : get (codes "__expr") d ≡ None

-- the record of these pairs
abbrev pub record_tree : List (Text × BareExpr) → BareExpr
record_tree ps = Record (fields_of (in_key_order ps))

abbrev mutual
  -- `null` stands for nothing, a literal for itself, an array for a set
  pub StandsFor : Data → BareExpr → Type 0
  StandsFor null e = ⊥
  StandsFor (boolean b) e = IsLiteral (boolean b) e
  StandsFor (number n) e = IsLiteral (number n) e
  StandsFor (string s) e = IsLiteral (string s) e
  StandsFor (array ds) e = (es : List BareExpr) × AreMembers ds es × (e ≡ Set (trees_of es))
  StandsFor (object ms) e =
      ObjectBy (get_member (codes "__entity") ms) (get_member (codes "__extn") ms)
      (get_member (codes "__expr") ms)
      (λ f. (ps : List (Text × BareExpr)) × AreFields ms ps × (f ≡ record_tree ps)) e

  -- each item stands for one of these
  pub AreMembers : Items → List BareExpr → Type 0
  AreMembers no_items [] = ⊤
  AreMembers no_items (e ∷ es) = ⊥
  AreMembers (item d ds) [] = ⊥
  AreMembers (item d ds) (e ∷ es) = StandsFor d e × AreMembers ds es

  -- each member of an object stands for the field of its key
  pub AreFields : Members → List (Text × BareExpr) → Type 0
  AreFields no_members [] = ⊤
  AreFields no_members (p ∷ ps) = ⊥
  AreFields (member k d ms) [] = ⊥
  AreFields (member k d ms) (p ∷ ps) = (p.0 ≡ k) × StandsFor d p.1 × AreFields ms ps

-- the members are those of this record
abbrev pub IsRecordOf : Members → BareExpr → Type 0
IsRecordOf ms e = (ps : List (Text × BareExpr)) × AreFields ms ps × (e ≡ record_tree ps)
