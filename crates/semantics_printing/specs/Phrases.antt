-- Texts of Cedar's syntax with their precedences (the grammar is in Cedar's `grammar.lalrpop`).
use Rattle.std.specs.Prelude.{Bool, ◌||◌, List, [], ◌∷◌, ◌++◌, codes, if◌then◌else◌, nat_lt}
use Rattle.std.specs.List.{flat_map}
use Rattle.std.specs.Str.{bytes_eq}
use Rattle.cedar_builders.specs.BareExpr.{Text}
use Rattle.cedar_names.specs.Grammar.{is_unreserved_id}
use Rattle.cedar_terms.specs.Escape.{quoted}
use Rattle.cedar_terms.specs.Precedences.{precedence_number}
use Rattle.cedar_terms.specs.declared.precedence.Precedence.{Precedence}
use Rattle.cedar_terms.specs.declared.precedence.Precedence.TheVariants as precedences

-- the text where one of at least this precedence may stand: in round brackets if it binds less tightly
abbrev pub text_at : Precedence → Text × Precedence → Text
text_at least p = if nat_lt (precedence_number p.1) (precedence_number least) then 40 ∷ (p.0 ++ (41 ∷ [])) else p.0

-- a text that never needs brackets
abbrev pub member : Text → Text × Precedence
member t = (t, precedences.Member)

-- two texts with a word or a sign between them
abbrev pub infix_of : Precedence → Text → Text → Text → Text × Precedence
infix_of own left sign right = (left ++ (32 ∷ (sign ++ (32 ∷ right))), own)

-- a test and its two branches, each of any precedence
abbrev pub conditional_text : Text → Text → Text → Text
conditional_text t a b = codes "if " ++ (t ++ (codes " then " ++ (a ++ (codes " else " ++ b))))

-- a sign and its operand
abbrev pub prefix_of : Text → Text × Precedence → Text × Precedence
prefix_of sign p = (sign ++ text_at precedences.Member p, precedences.Unary)

-- a call of a method
abbrev pub method_of : Text × Precedence → Text → Text → Text × Precedence
method_of p name args = member (text_at precedences.Member p ++ (46 ∷ (name ++ (40 ∷ (args ++ (41 ∷ []))))))

-- an attribute behind its record, in square brackets if it is no identifier
abbrev pub attribute_text : Text → Text
attribute_text k = if is_unreserved_id k then 46 ∷ k else 91 ∷ (quoted k ++ (93 ∷ []))

-- an attribute behind `has`, in quotes if it is no identifier
abbrev pub key_text : Text → Text
key_text k = if is_unreserved_id k then k else quoted k

-- the attributes of a path with dots between them
abbrev pub path_text : Text → List Text → Text
path_text k ks = key_text k ++ flat_map (λ a. 46 ∷ key_text a) ks

-- the texts, each behind a comma
abbrev pub others_text : List (Text × Precedence) → Text
others_text [] = []
others_text (p ∷ ps) = codes ", " ++ (p.0 ++ others_text ps)

-- the texts with commas between them
abbrev pub row_text : List (Text × Precedence) → Text
row_text [] = []
row_text (p ∷ ps) = p.0 ++ others_text ps

-- a key of a record with its value
abbrev pub field_of : Text × (Text × Precedence) → Text × Precedence
field_of p = member (quoted p.0 ++ (codes ": " ++ p.1.0))

-- the methods of datetimes and durations
abbrev pub is_method_of_times : Text → Bool
is_method_of_times t =
    bytes_eq t (codes "offset") || bytes_eq t (codes "durationSince") || bytes_eq t (codes "toDate")
    || bytes_eq t (codes "toTime") || bytes_eq t (codes "toMilliseconds") || bytes_eq t (codes "toSeconds")
    || bytes_eq t (codes "toMinutes") || bytes_eq t (codes "toHours") || bytes_eq t (codes "toDays")

-- the methods of addresses and decimals
abbrev pub is_method_of_numbers : Text → Bool
is_method_of_numbers t =
    bytes_eq t (codes "isIpv4") || bytes_eq t (codes "isIpv6") || bytes_eq t (codes "isLoopback")
    || bytes_eq t (codes "isMulticast") || bytes_eq t (codes "isInRange") || bytes_eq t (codes "lessThan")
    || bytes_eq t (codes "lessThanOrEqual") || bytes_eq t (codes "greaterThan")
    || bytes_eq t (codes "greaterThanOrEqual")

-- the names that Cedar's extensions give to methods, and not to functions
abbrev pub is_method : Text → Bool
is_method t = is_method_of_times t || is_method_of_numbers t

-- the call of a function, with its arguments in round brackets
abbrev pub function_of : Text → List (Text × Precedence) → Text × Precedence
function_of name ps = member (name ++ (40 ∷ (row_text ps ++ (41 ∷ []))))

-- the call of a method, with its first argument in front
abbrev pub method_call_of : Text → List (Text × Precedence) → Text × Precedence
method_call_of name [] = function_of name []
method_call_of name (p ∷ ps) = method_of p name (row_text ps)

-- a call of an extension function
abbrev pub call_of : Text → List (Text × Precedence) → Text × Precedence
call_of name ps = if is_method name then method_call_of name ps else function_of name ps
