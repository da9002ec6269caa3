-- The text of a value of whose sets and records only so many members are shown (`BoundedDisplay` of
-- Cedar's `value.rs`), as UTF-8.
use Rattle.std.specs.Prelude.{ℕ, List, [], ◌∷◌, ◌++◌, take, drop, Option, Some, None, codes, if◌then◌else◌}
use Rattle.std.specs.List.{concat}
use Rattle.cedar_names.specs.Grammar.{is_unreserved_id}
use Rattle.cedar_terms.specs.Literals.{literal_text}
use Rattle.cedar_builders.specs.BareExpr.{Text}
use Rattle.semantics_values.specs.BareValue.{BareValue, LitValue, SetValue, RecordValue, ExtensionValue, BareValues, no_values, value, BarePairs, no_pairs, pair}

-- the first of some items, as many as the bound says; without a bound all
abbrev pub shown : {A : Type 0} → Option ℕ → List A → List A
shown None xs = xs
shown (Some n) xs = take n xs

-- those behind them
abbrev pub hidden : {A : Type 0} → Option ℕ → List A → List A
hidden None xs = []
hidden (Some n) xs = drop n xs

-- what stands for items that are not shown: nothing where there is none
abbrev pub elision : {A : Type 0} → List A → Text
elision [] = []
elision (x ∷ xs) = codes ".. "

-- what stands before some texts: nothing where there is none
abbrev pub separator : List Text → Text
separator [] = []
separator (x ∷ xs) = codes ", "

-- the texts of a collection, each that is not the last with a comma and a space behind it
abbrev pub separated : List Text → List Text
separated [] = []
separated (x ∷ xs) = (x ++ separator xs) ∷ separated xs

-- what stands between the signs of a collection
abbrev pub inside : Option ℕ → List Text → Text
inside n xs = concat (shown n (separated xs)) ++ elision (hidden n xs)

-- an identifier that a user may define stands as it is, any other key in double quotes
abbrev pub key_text : Text → Text
key_text k = if is_unreserved_id k then k else codes "\"" ++ (k ++ codes "\"")

abbrev mutual
  -- the text of a value, where T says the text of an extension value; the bound, if there is one, is
  -- that of each set and of each record inside
  pub bounded_text : {X : Type 0} → (X → Text) → Option ℕ → BareValue X → Text
  bounded_text T n (LitValue l) = literal_text l
  bounded_text T n (SetValue ts) = codes "[" ++ (inside n (member_texts T n ts) ++ codes "]")
  bounded_text T n (RecordValue ps) = codes "{" ++ (inside n (pair_texts T n ps) ++ codes "}")
  bounded_text T n (ExtensionValue x g) = T x

  -- the texts of the members of a set
  pub member_texts : {X : Type 0} → (X → Text) → Option ℕ → BareValues X → List Text
  member_texts T n no_values = []
  member_texts T n (value t ts) = bounded_text T n t ∷ member_texts T n ts

  -- the texts of the pairs of a record
  pub pair_texts : {X : Type 0} → (X → Text) → Option ℕ → BarePairs X → List Text
  pair_texts T n no_pairs = []
  pair_texts T n (pair k t ps) =
      (key_text k ++ (codes ": " ++ bounded_text T n t)) ∷ pair_texts T n ps
