-- The literals that a set keeps by hash beside its members (`fast` of `Set` in Cedar's `value.rs`).
use Rattle.std.specs.Prelude.{◌≡◌, Bool, false, not, ◌&&◌, List, [], ◌∷◌, map, Option, Some, None}
use Rattle.std.specs.HashSet.{HashSet, keys}
use Rattle.std.specs.List.{list_all, list_any}
use Rattle.std.specs.declared.hash.BuildHasherDefault.{BuildHasherDefault}
use Rattle.std.specs.declared.hash.FoldHasher.{FoldHasher}
use Rattle.cedar_terms.specs.LiteralOrder.{literal_eq}
use Rattle.cedar_terms.specs.Literals.{BareLiteral, bare_literal}
use Rattle.cedar_terms.specs.declared.literal.Literal.{Literal}
use Rattle.semantics_values.specs.BareValue.{BareValue, LitValue, SetValue, RecordValue, ExtensionValue}
use Rattle.cedar_values.specs.Places.{is_lit_value}

-- whether a literal is among some
abbrev pub is_among : List BareLiteral → BareLiteral → Bool
is_among ls l = list_any (literal_eq l) ls

-- whether a value is a literal among some
abbrev pub is_literal_among : {X : Type 0} → List BareLiteral → BareValue X → Bool
is_literal_among ls (LitValue l) = is_among ls l
is_literal_among ls (SetValue ts) = false
is_literal_among ls (RecordValue ps) = false
is_literal_among ls (ExtensionValue x g) = false

-- whether each literal of the one list is in the other
abbrev pub are_alike : List BareLiteral → List BareLiteral → Bool
are_alike ks ls = list_all (is_among ls) ks && list_all (is_among ks) ls

-- the literals among some values
abbrev pub literals_in : {X : Type 0} → List (BareValue X) → List BareLiteral
literals_in [] = []
literals_in (LitValue l ∷ ts) = l ∷ literals_in ts
literals_in (SetValue us ∷ ts) = literals_in ts
literals_in (RecordValue ps ∷ ts) = literals_in ts
literals_in (ExtensionValue x g ∷ ts) = literals_in ts

-- where all the values are literals these are given, and they are just those; else none are given
abbrev pub is_hash_form : {X : Type 0} → List (BareValue X) → Option (List BareLiteral) → Bool
is_hash_form ts None = not (list_all is_lit_value ts)
is_hash_form ts (Some ks) = list_all is_lit_value ts && are_alike ks (literals_in ts)

-- a set of literals, as `HashSet` of Rust's standard library is by default
abbrev pub LiteralSet : Type 0
LiteralSet = HashSet Literal (BuildHasherDefault FoldHasher)

-- what it has
abbrev pub literals_of : LiteralSet → List BareLiteral
literals_of h = map bare_literal (keys h)

-- it has just these
abbrev pub HasLiterals : List BareLiteral → LiteralSet → Type 0
HasLiterals ls h = (l : BareLiteral) → is_among (literals_of h) l ≡ is_among ls l
