-- What a reader of texts answers where it refuses one.
use Rattle.std.specs.Prelude.{◌≡◌, ℕ, List, Option, None, IsTrue, ⊤}
use Rattle.cedar_names.specs.Place.{Place}
use Rattle.cedar_names.specs.Grammar.{is_reserved}
use Rattle.cedar_names.specs.Names.{BareName, IsNameOf, has_reserved, unqualified}
use Rattle.cedar_names.specs.InternalNames.{bare_internal_name, internal_name_place, IsWholeOf}
use Rattle.cedar_names.specs.declared.err.ParseErrors.{ParseErrors}
use Rattle.cedar_names.specs.declared.err.ParseErrors.TheVariants.{NotNormalized, Reserved, Memory}
use Rattle.cedar_names.specs.declared.err.ReservedNameError.{ReservedNameError}

-- the name that the error holds
abbrev pub refused_name : ReservedNameError → BareName
refused_name e = bare_internal_name e.name

-- the place of that name
abbrev pub refused_place : ReservedNameError → Option Place
refused_place e = internal_name_place e.name

-- the error holds the name with this text, which has the component `__cedar`, and the place of the
-- whole text (`ReservedNameError` in `name.rs`, after RFC 52)
abbrev pub IsReservedName : List ℕ → ReservedNameError → Type 0
IsReservedName s e =
    IsNameOf s (refused_name e)
    × IsTrue (has_reserved (refused_name e))
    × IsWholeOf s (refused_place e)

-- the text is the identifier `__cedar`, which the error holds as a name with no place (`id.rs`,
-- after RFC 52)
abbrev pub IsReservedId : List ℕ → ReservedNameError → Type 0
IsReservedId s e =
    IsTrue (is_reserved s) × (refused_name e ≡ unqualified s) × (refused_place e ≡ None)

-- nothing that the grammar has is reserved
abbrev pub IsNeverReserved : List ℕ → ReservedNameError → Type 0
IsNeverReserved s e = ⊥

-- why a reader refuses: outside the grammar, with the word for what was asked; a forbidden name,
-- which the error holds; or no memory
abbrev pub OnReadError : ParseErrors → List ℕ → Type 0 → (ReservedNameError → Type 0) → Type 0
OnReadError (NotNormalized kind) word Outside Forbidden = Outside × (kind.now ≡ word)
OnReadError (Reserved e) word Outside Forbidden = Forbidden e
OnReadError Memory word Outside Forbidden = ⊤
