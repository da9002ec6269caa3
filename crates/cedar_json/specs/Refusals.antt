-- Why a piece of JSON stands for nothing: the path to the part that does not, and what is wrong with it.
use Rattle.std.specs.Prelude.{◌≡◌, ◌++◌, Err, MatchResult, Ok, Result, ⊤, string_bytes}
use Rattle.cedar_builders.specs.BareExpr.{Text}
use Rattle.cedar_json.specs.declared.json_error.JsonError.{JsonError}
use Rattle.cedar_json.specs.declared.json_error.JsonError.TheVariants as error
use Rattle.cedar_json.specs.declared.no_value.NoValue.{NoValue}
use Rattle.cedar_json.specs.declared.no_value.NoValue.TheVariants.{Because, Memory}

-- this path leads to the part, and this is wrong with it; or there was no memory to say so
abbrev pub IsBecause : Text → Text → NoValue → Type 0
IsBecause path problem (Because p q) = (string_bytes p ≡ path) × (string_bytes q ≡ problem)
IsBecause path problem Memory = ⊤

-- the error of a text tells the same
abbrev pub IsErrorOf : Text → Text → JsonError → Type 0
IsErrorOf path problem (error.NoValue p q) = (string_bytes p ≡ path) × (string_bytes q ≡ problem)
IsErrorOf path problem error.Memory = ⊤
IsErrorOf path problem (error.Json e) = ⊥
IsErrorOf path problem (error.TooDeep e) = ⊥
IsErrorOf path problem error.NoObject = ⊥

-- the error is that of a part of what has this name
abbrev pub IsErrorIn : Text → NoValue → JsonError → Type 0
IsErrorIn start (Because p q) e = IsErrorOf (start ++ string_bytes p) (string_bytes q) e
IsErrorIn start Memory e = e ≡ error.Memory

-- there is nothing that P holds of, or no memory to find it
abbrev pub IsNothing : {A : Type 0} → (A → Type 0) → NoValue → Type 0
IsNothing P (Because path problem) = (a : _) → P a → ⊥
IsNothing P Memory = ⊤

-- P holds of what is answered, as f sees it, and a refusal says that it holds of nothing
abbrev pub Reads : {A B : Type 0} → (A → Type 0) → (B → A) → Result B NoValue → Type 0
Reads P f result = MatchResult result (λ b. P (f b)) (IsNothing P)

-- what was made of a part is answered, and else a refusal, for want of memory if that is one
abbrev pub IsHandedOn : {B : Type 0} → Result B NoValue → Result B NoValue → Type 0
IsHandedOn (Ok b) result = result ≡ Ok b
IsHandedOn (Err e) result = MatchResult result (λ b. ⊥) (λ f. e ≡ Memory → f ≡ Memory)

-- this is answered, as f sees it, unless memory ran out
abbrev pub Gives : {A B : Type 0} → (B → A) → A → Result B NoValue → Type 0
Gives f a result = MatchResult result (λ b. f b ≡ a) (λ e. e ≡ Memory)
