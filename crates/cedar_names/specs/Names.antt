-- Names as a path of identifiers and a last one, and their texts (Cedar's file `name.rs`).
use Rattle.std.specs.Prelude.{◌≡◌, ℕ, List, [], ◌∷◌, ◌++◌, Bool, ◌||◌, IsTrue, Option, Some, None, codes}
use Rattle.std.specs.List.{list_all, list_any, flat_map, join_by}
use Rattle.cedar_names.specs.Grammar.{is_id, is_reserved}

-- a name without its place: the identifiers of its namespace, and its own (`InternalName` of
-- `name.rs`)
pub record BareName : Type 0 where
  pub path : List (List ℕ)
  pub basename : List ℕ

-- each identifier of a path, with `::` behind it
abbrev pub path_text : List (List ℕ) → List ℕ
path_text ps = flat_map (λ p. p ++ codes "::") ps

-- the text of a name: its identifiers joined by `::` (`Display` in `name.rs`)
abbrev pub name_text : BareName → List ℕ
name_text n = path_text n.path ++ n.basename

-- the text of a path: its identifiers joined by `::`, nothing where there are none (`namespace` in
-- `name.rs`)
abbrev pub joined_text : List (List ℕ) → List ℕ
joined_text ps = join_by (λ p. p) (codes "::") ps

-- each component is an identifier
abbrev pub IsNameOfIds : BareName → Type 0
IsNameOfIds n = IsTrue (list_all is_id n.path) × IsTrue (is_id n.basename)

-- the name is one of identifiers, and this is its text
abbrev pub IsNameOf : List ℕ → BareName → Type 0
IsNameOf s n = IsNameOfIds n × (name_text n ≡ s)

-- the text is inside the grammar: that of some name of identifiers (`name.rs`)
abbrev pub IsNameText : List ℕ → Type 0
IsNameText s = (n : BareName) × IsNameOfIds n × (name_text n ≡ s)

-- some component is `__cedar` (`is_reserved` in `name.rs`, after RFC 52)
abbrev pub has_reserved : BareName → Bool
has_reserved n = list_any is_reserved n.path || is_reserved n.basename

-- an identifier with no namespace
abbrev pub unqualified : List ℕ → BareName
unqualified b = record { path = []; basename = b }

-- the identifier within a namespace, whose path and basename go before it (`type_in_namespace` in
-- `name.rs`)
abbrev pub within : BareName → List ℕ → BareName
within ns b = record { path = ns.path ++ (ns.basename ∷ []); basename = b }

-- a path and a basename, within a namespace where the path is empty
abbrev pub qualified_by : List (List ℕ) → List ℕ → BareName → BareName
qualified_by [] b ns = within ns b
qualified_by (p ∷ ps) b ns = record { path = p ∷ ps; basename = b }

-- an unqualified name goes within the namespace that is given; any other name stays
-- (`qualify_with` in `name.rs`)
abbrev pub qualified : BareName → Option BareName → BareName
qualified n None = n
qualified n (Some ns) = qualified_by n.path n.basename ns
