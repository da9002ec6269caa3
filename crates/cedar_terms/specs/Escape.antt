-- How characters are shown inside quotes and in patterns.
use Rattle.std.specs.Prelude.{ℕ, Bool, false, not, ◌||◌, List, [], ◌∷◌, ◌++◌, nat_lt, ◌==◌, if◌then◌else◌, codes}
use Rattle.std.specs.List.{flat_map}
use Rattle.std.specs.Fmt.{digits}
use Rattle.std.specs.Str.{chars, encode_utf8_all}

-- the controls of ASCII: those below 20 hexadecimal, and 7F
abbrev pub is_control : ℕ → Bool
is_control c = nat_lt c 0x20 || c == 0x7F

-- the hexadecimal digits of a code, lower-case and without leading zeros
abbrev pub hexadecimal : ℕ → List ℕ
hexadecimal c = digits 16 false c

-- the escape of a character, as Rust's `char::escape_debug` has it for ASCII; past ASCII a
-- character stands as itself
abbrev pub escape_char : ℕ → List ℕ
escape_char c =
    if c == 0 then codes "\\0" else
    if c == 9 then codes "\\t" else
    if c == 10 then codes "\\n" else
    if c == 13 then codes "\\r" else
    if c == 34 then codes "\\\"" else
    if c == 39 then codes "\\'" else
    if c == 92 then codes "\\\\" else
    if is_control c then codes "\\u{" ++ (hexadecimal c ++ codes "}") else
    c ∷ []

-- whether a byte is neither a control of ASCII nor a quote nor a backslash: the characters of a text
-- of such bytes are their own escapes
abbrev pub is_plain : ℕ → Bool
is_plain b = not (is_control b || (b == 34 || (b == 39 || b == 92)))

-- the escape of each character, one after the other
abbrev pub escape : List ℕ → List ℕ
escape cs = flat_map escape_char cs

-- the escape of a text, both as UTF-8
abbrev pub escaped : List ℕ → List ℕ
escaped text = encode_utf8_all (escape (chars text))

-- the same between double quotes
abbrev pub quoted : List ℕ → List ℕ
quoted text = 34 ∷ (escaped text ++ (34 ∷ []))
