-- What a name stands for, by its JSON: the variables of a request as a request has them (Cedar's
-- `entities/json/context.rs` and `RequestJSON` of its command line).
use Rattle.std.specs.Prelude.{◌≡◌, Bool, true, false, ◌||◌, List, [], ◌∷◌, codes, ⊤}
use Rattle.std.specs.Str.{bytes_eq}
use Rattle.serde_json.specs.Data.{Data, null, boolean, number, string, array, object, Members, no_members, member}
use Rattle.cedar_terms.specs.Entities.{BareEntityUID}
use Rattle.cedar_terms.specs.Literals.{EntityLit}
use Rattle.cedar_builders.specs.BareExpr.{Text, BareExpr, Lit}
use Rattle.cedar_json.specs.Entities.{IsUid}
use Rattle.cedar_json.specs.Values.{StandsFor}
use Rattle.cedar_parser.specs.Meant.{IsParse}

-- whether it is the name of the principal, the action or the resource
abbrev pub is_entity_variable : Text → Bool
is_entity_variable n =
    bytes_eq n (codes "principal") || (bytes_eq n (codes "action") || bytes_eq n (codes "resource"))

-- the entity that a text is in Cedar's syntax, or an object
abbrev pub IsEntityFor : Data → BareEntityUID → Type 0
IsEntityFor null u = ⊥
IsEntityFor (boolean b) u = ⊥
IsEntityFor (number n) u = ⊥
IsEntityFor (string s) u = IsParse s (Lit (EntityLit u))
IsEntityFor (array ds) u = ⊥
IsEntityFor (object ms) u = IsUid (object ms) u

abbrev pub MemberBy : Bool → Data → BareExpr → Type 0
MemberBy true d e = (u : BareEntityUID) × IsEntityFor d u × (e ≡ Lit (EntityLit u))
MemberBy false d e = StandsFor d e

-- what a name stands for, by its JSON
abbrev pub IsMember : Text → Data → BareExpr → Type 0
IsMember n d e = MemberBy (is_entity_variable n) d e

-- what the names of an object stand for, each by its JSON
abbrev pub AreNamed : Members → List (Text × BareExpr) → Type 0
AreNamed no_members [] = ⊤
AreNamed no_members (p ∷ ps) = ⊥
AreNamed (member n d ms) [] = ⊥
AreNamed (member n d ms) (p ∷ ps) = (p.0 ≡ n) × IsMember n d p.1 × AreNamed ms ps
