-- Which expressions are conditions.
use Rattle.std.specs.Prelude.{◌≡◌, ◌⊎◌, ◌*◌, ◌^◌, ◌-◌, ◌&&◌, ◌||◌, ℕ, suc, Bool, true, false, not, List, [], ◌∷◌, length, map, max, min, nat_eq, nat_le}
use Rattle.std.specs.List.{list_any}
use Rattle.std.specs.Option.{option_map_or}
use Rattle.cedar_names.specs.Names.{name_text}
use Rattle.cedar_function_names.specs.Names.{arity_of, function_named, is_method}
use Rattle.cedar_function_names.specs.declared.function.ExtensionFunction.{ExtensionFunction}
use Rattle.cedar_builders.specs.BareExpr.{Text, BareExpr, ExtensionFunctionApp, Set, Record}
use Rattle.cedar_builders.specs.Walks.{forward, members_of, walk}
use Rattle.cedar_lexer.specs.TokenPlaces.{AreTokens}
use Rattle.cedar_lexer.specs.declared.token.Token.{Token}
use Rattle.cedar_lexer.specs.declared.token.TokenKind.{TokenKind}
use Rattle.cedar_lexer.specs.declared.token.TokenKind.TheVariants as kinds

-- it is a set or a record
abbrev pub is_container : BareExpr → Bool
is_container (Set es) = true
is_container (Record fs) = true
is_container e = false

-- how many sets and records are around the children of a tree around which there are n
abbrev pub around_children : BareExpr → ℕ → ℕ
around_children (Set es) n = suc n
around_children (Record fs) n = suc n
around_children e n = n

-- a node around which are n sets and records, and then those of its children
abbrev pub node_first : BareExpr → List (ℕ → List (ℕ × BareExpr)) → ℕ → List (ℕ × BareExpr)
node_first e below n = (n, e) ∷ forward (map (λ f. f (around_children e n)) below)

-- the nodes of a tree around which are n sets and records, each with the number around it
abbrev pub nodes_within : BareExpr → ℕ → List (ℕ × BareExpr)
nodes_within = walk node_first

-- the nodes of a tree, each with the number of sets and records around it
abbrev pub nodes : BareExpr → List (ℕ × BareExpr)
nodes e = nodes_within e 0

-- with so many nodes a tree is too large: 100,000, or, where that is more, 16 for each byte of its
-- text, as far as 64 bits count them
abbrev pub too_many : Text → ℕ
too_many text = max (min (length text * 16) (2 ^ 64 - 1)) 100000

-- a function or a method of Cedar has this name and takes so many arguments
abbrev pub is_function_of : Text → ℕ → Bool
is_function_of s n = option_map_or (λ f. nat_eq (arity_of f) n) (function_named s) false

-- it is a call of what is no function or method of Cedar, or with another number of arguments
abbrev pub is_wrong_call : BareExpr → Bool
is_wrong_call (ExtensionFunctionApp n es) =
    not (is_function_of (name_text n) (length (members_of es)))
is_wrong_call e = false

-- it is a set or a record with 1,000 others around it, or a wrong call
abbrev pub is_refused_node : ℕ × BareExpr → Bool
is_refused_node x = (nat_le 1000 x.0 && is_container x.1) || is_wrong_call x.1

-- the tree of a text has too many nodes, or one of them is refused
abbrev pub is_refused : Text → BareExpr → Bool
is_refused text e = nat_le (too_many text) (length (nodes e)) || list_any is_refused_node (nodes e)

-- it is a word, a dot, an opening bracket
abbrev pub is_word : TokenKind → Bool
is_word kinds.Word = true
is_word k = false

abbrev pub is_dot : TokenKind → Bool
is_dot kinds.Dot = true
is_dot k = false

abbrev pub is_open_round : TokenKind → Bool
is_open_round kinds.OpenRound = true
is_open_round k = false

-- the tokens begin with an opening bracket
abbrev pub opens : List Token → Bool
opens [] = false
opens (t ∷ ts) = is_open_round t.kind

-- behind a dot a function is called in the other style, and without one a method
abbrev pub is_other_for : Bool → ExtensionFunction → Bool
is_other_for true f = not (is_method f)
is_other_for false f = is_method f

-- this names a function that is called in the other style
abbrev pub is_other_style : Bool → Text → Bool
is_other_style dotted s = option_map_or (is_other_for dotted) (function_named s) false

-- among the tokens a function is called as a method, or a method as a function, where the first may
-- have a dot before it
abbrev pub has_other_style : Bool → List Token → Bool
has_other_style dotted [] = false
has_other_style dotted (t ∷ ts) =
    (is_word t.kind && (opens ts && is_other_style dotted t.text.now)) || has_other_style (is_dot t.kind) ts

-- whether a text has such a call
abbrev pub IsOtherwise : Text → Bool → Type 0
IsOtherwise text b = (ts : List Token) × AreTokens text ts × (has_other_style false ts ≡ b)

-- the text is no condition, though it stands for the tree: the tree is refused, or a call is written
-- otherwise
abbrev pub IsRefused : Text → BareExpr → Type 0
IsRefused text e = (is_refused text e ≡ true) ⊎ IsOtherwise text true

-- neither
abbrev pub IsTaken : Text → BareExpr → Type 0
IsTaken text e = (is_refused text e ≡ false) × IsOtherwise text false
