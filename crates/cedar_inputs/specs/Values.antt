-- The values of expressions, by Cedar's extension functions alone.
use Rattle.std.specs.Prelude.{◌≡◌, List, [], ◌∷◌, Ok, ⊤}
use Rattle.std.specs.declared.cmp.Ord as Ord
use Rattle.std.specs.declared.cmp.PartialEq as PartialEq
use Rattle.std.specs.declared.cmp.PartialOrd as PartialOrd
use Rattle.cedar_builders.specs.BareExpr.{Text, BareExpr}
use Rattle.cedar_builders.specs.Environment.{empty}
use Rattle.cedar_builders.specs.Keys.{in_key_order, keyed}
use Rattle.semantics_request.specs.Entities.{NoSuchEntity}
use Rattle.semantics_request.specs.Evaluator.{evaluated}
use Rattle.semantics_request.specs.Requests.{Knowledge, no_request}
use Rattle.cedar_values.specs.declared.well_formed.WellFormedValue.{WellFormedValue}
use Rattle.cedar_request.specs.Values.{tree_of}
use Rattle.cedar_entities.specs.Parts.{Named}
use Rattle.cedar_functions.specs.Functions.{extension_functions}
use Rattle.cedar_functions.specs.declared.extension.BuiltinExtension.{BuiltinExtension}

-- nothing of a request, no entity, and no unknown
abbrev pub nothing_known : Knowledge BuiltinExtension
nothing_known = record { request = no_request; entities = λ u. NoSuchEntity; bindings = empty }

-- o, e and p are the comparisons of extension values
module _ {o : Ord.Ghosts BuiltinExtension} {e : PartialEq.Ghosts BuiltinExtension}
    {p : PartialOrd.Ghosts BuiltinExtension} where
  -- the tree evaluates to this value
  abbrev pub IsValueOf : BareExpr → WellFormedValue BuiltinExtension o e p → Type 0
  IsValueOf t v = evaluated o.cmp e.eq extension_functions nothing_known t ≡ Ok (Ok (tree_of v))

  -- so does each of these, and has the same name
  abbrev pub AreValuesOf :
      List (Text × BareExpr) → List (Text × WellFormedValue BuiltinExtension o e p) → Type 0
  AreValuesOf [] [] = ⊤
  AreValuesOf [] (v ∷ vs) = ⊥
  AreValuesOf (t ∷ ts) [] = ⊥
  AreValuesOf (t ∷ ts) (v ∷ vs) = (v.0 ≡ t.0) × IsValueOf t.1 v.1 × AreValuesOf ts vs

  -- they are the values of a map
  pub record AreNamedValues
      (ts : List (Text × BareExpr)) (m : Named (WellFormedValue BuiltinExtension o e p)) :
      Type 0 where
    pub values : List (Text × WellFormedValue BuiltinExtension o e p)
    pub each : AreValuesOf ts values
    pub ordered : keyed m.entries ≡ in_key_order values
