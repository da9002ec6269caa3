-- The texts of identifiers, as lists of bytes (Cedar's files `id.rs` and `name.rs`, and RFC 52 for
-- `__cedar`).
use Rattle.std.specs.Prelude.{ℕ, List, [], ◌∷◌, Bool, false, not, ◌&&◌, ◌||◌, ◌==◌, codes}
use Rattle.std.specs.List.{list_all}
use Rattle.std.specs.Str.{bytes_eq}
use Rattle.std.specs.Char.{is_ascii_alphabetic, is_ascii_alphanumeric}

-- what an identifier may begin with: `_` or an ASCII letter (`name.rs`)
abbrev pub is_start : ℕ → Bool
is_start b = is_ascii_alphabetic b || b == 95

-- what may stand behind its first byte: the same or an ASCII digit (`name.rs`)
abbrev pub is_part : ℕ → Bool
is_part b = is_ascii_alphanumeric b || b == 95

-- any identifier, keywords too: `AnyId` of `id.rs`
abbrev pub is_any_id : List ℕ → Bool
is_any_id [] = false
is_any_id (b ∷ bs) = is_start b && list_all is_part bs

-- the nine words that are no identifiers (`name.rs`)
abbrev pub is_keyword : List ℕ → Bool
is_keyword s =
    bytes_eq s (codes "true") || bytes_eq s (codes "false") || bytes_eq s (codes "if")
    || bytes_eq s (codes "then") || bytes_eq s (codes "else") || bytes_eq s (codes "in")
    || bytes_eq s (codes "is") || bytes_eq s (codes "like") || bytes_eq s (codes "has")

-- an identifier that is no keyword: `Id` of `id.rs`
abbrev pub is_id : List ℕ → Bool
is_id s = is_any_id s && not (is_keyword s)

-- `__cedar`, which only Cedar itself may define (RFC 52)
abbrev pub is_reserved : List ℕ → Bool
is_reserved s = bytes_eq s (codes "__cedar")

-- an identifier that a user may define: `UnreservedId` of `id.rs`, after RFC 52
abbrev pub is_unreserved_id : List ℕ → Bool
is_unreserved_id s = is_id s && not (is_reserved s)
