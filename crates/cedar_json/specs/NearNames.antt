-- The known name that is nearest to a wanted one.
use Rattle.std.specs.Prelude.{◌≡◌, ◌≤◌, ◌<◌, ◌++◌, ℕ, List, Option, None, Some, String, codes, if◌then◌else◌, length, nat_eq, nat_le, string_bytes}
use Rattle.std.specs.Borrow.{Bor}
use Rattle.std.specs.Global.{Global}
use Rattle.std.specs.List.{All, Contains}
use Rattle.std.specs.Str.{chars}
use Rattle.strsim.specs.Edits.{levenshtein_row}
use Rattle.cedar_builders.specs.BareExpr.{Text}

-- how many edits lead from one text to another: each adds, removes or replaces a character
abbrev pub edits : Text → Text → ℕ
edits s t = levenshtein_row nat_eq (chars s) (chars t) (length (chars t))

-- from how many edits on a name of this length is no slip
abbrev pub slips : ℕ → ℕ
slips n = if nat_le n 2 then 2 else (if nat_le n 5 then 3 else 4)

-- so many edits at least lead to each of the known names, where names of more than 60 bytes don't
-- count
abbrev pub AreAway : Text → ℕ → List (Bor Text) → Type 0
AreAway s n ts = All (λ t. length s ≤ 60 → length t.now ≤ 60 → n ≤ edits s t.now) ts

-- this is a known name to which the fewest edits lead, few enough for a slip; or there is none
abbrev pub IsNearest : Text → List (Bor Text) → Option (Bor Text) → Type 0
IsNearest s ts None = AreAway s (slips (length s)) ts
IsNearest s ts (Some t) =
    Contains ts t × (edits s t.now < slips (length s)) × AreAway s (edits s t.now) ts

-- the text asks whether that name was meant
abbrev pub IsMeant : Text → List (Bor Text) → Option (String Global) → Type 0
IsMeant s ts None = IsNearest s ts None
IsMeant s ts (Some text) = (t : Bor Text) × IsNearest s ts (Some t)
    × (string_bytes text ≡ codes "did you mean `" ++ t.now ++ codes "`?")
