-- Attributes of records, and the tests of texts and of entities.
use Rattle.std.specs.Prelude.{◌≡◌, false, is_some, nat_eq, chars, List, [], ◌∷◌, Option, Result, Ok, Err, ok_or, refl}
use Rattle.std.specs.Map.{lookup}
use Rattle.std.specs.Cmp.Lexicographic.{pointwise}
use Rattle.std.proofs.Common.{ap}
use Rattle.cedar_names.specs.Names.{BareName}
use Rattle.cedar_names.specs.NameOrder.{name_eq}
use Rattle.cedar_terms.specs.Literals.{StringLit, EntityLit}
use Rattle.cedar_terms.specs.Patterns.{matches}
use Rattle.cedar_terms.specs.declared.pattern.PatternElem.{PatternElem}
use Rattle.cedar_builders.specs.BareExpr.{Text}
use Rattle.semantics_values.specs.BareValue.{BareValue, LitValue, RecordValue, BarePairs, no_pairs, pair, pairs_of}
use Rattle.semantics_eval.specs.Outcomes.{Mistake, WrongType, Missing, Store, Outcome, truth, strict, if_outcome}

-- the pairs of a record, as a list
abbrev pub list_of_pairs : {X : Type 0} → BarePairs X → List (Text × BareValue X)
list_of_pairs no_pairs = []
list_of_pairs (pair k t ps) = (k, t) ∷ list_of_pairs ps

-- it is the list that the record was made of
pub list_of_pairs_of :
    {X : Type 0} (ps : List (Text × BareValue X)) → list_of_pairs (pairs_of ps) ≡ ps
list_of_pairs_of [] = refl
list_of_pairs_of (p ∷ ps) = ap (λ qs. p ∷ qs) (list_of_pairs_of ps)

-- the value at a key of a record, if it has the key
abbrev pub value_at : {X : Type 0} → Text → BarePairs X → Option (BareValue X)
value_at k ps = lookup (pointwise nat_eq k) (list_of_pairs ps)

-- the value of an attribute: the store alone knows an entity's
abbrev pub get_in : {X : Type 0} → Text → BareValue X → Result (BareValue X) Mistake
get_in k (RecordValue ps) = ok_or (value_at k ps) Missing
get_in k (LitValue (EntityLit u)) = Err Store
get_in k t = Err WrongType

-- whether there is an attribute
abbrev pub has_in : {X : Type 0} → Text → BareValue X → Result (BareValue X) Mistake
has_in k (RecordValue ps) = Ok (truth (is_some (value_at k ps)))
has_in k (LitValue (EntityLit u)) = Err Store
has_in k t = Err WrongType

-- whether there is a path of attributes: a fault or false at the first attribute answers, else its
-- value is asked for the rest
abbrev pub has_path : {X : Type 0} → Outcome X → Text → List Text → Outcome X
has_path m k [] = strict (has_in k) m
has_path m k (j ∷ js) =
    if_outcome (strict (has_in k) m) (has_path (strict (get_in k) m) j js) (Ok (truth false))

-- whether a pattern matches a text
abbrev pub like_in : {X : Type 0} → List PatternElem → BareValue X → Result (BareValue X) Mistake
like_in p (LitValue (StringLit s)) = Ok (truth (matches p (chars s)))
like_in p t = Err WrongType

-- whether an entity is of a type
abbrev pub is_in : {X : Type 0} → BareName → BareValue X → Result (BareValue X) Mistake
is_in n (LitValue (EntityLit u)) = Ok (truth (name_eq u.entity_type n))
is_in n t = Err WrongType
