-- Why nothing stands where a refusal says so, and that one thing at most does.
use Rattle.std.proofs.Common.{◌≡◌, Err, Ok, MatchResult, Result, refl, sym, subst}
use Rattle.std.specs.Prelude.{String, ⊤}
use Rattle.std.specs.Global.{Global}
use Rattle.cedar_json.specs.Refusals.{Gives, IsNothing, Reads}
use Rattle.cedar_json.specs.declared.no_value.NoValue.{NoValue}
use Rattle.cedar_json.specs.declared.no_value.NoValue.TheVariants.{Because, Memory}

Wants : NoValue → Type 0
Wants (Because path problem) = ⊥
Wants Memory = ⊤

pub because_is : (path problem : String Global) → Because path problem ≡ Memory → ⊥
unfolding Wants
because_is path problem e = subst Wants (sym e) tt

-- what a callee refused is handed on
pub passed : {B : Type 0} (P : B → Type 0) (N : NoValue → Type 0) (r : Result B NoValue) (e : NoValue) → r ≡ Err e
    → N e → MatchResult r P N
passed P N r e same none = subst (λ x. MatchResult x P N) (sym same) none

module _ {A : Type 0} (P : A → Type 0) where
  pub nothing : ((a : A) → P a → ⊥) → (r : NoValue) → IsNothing P r
  nothing h (Because path problem) = h
  nothing h Memory = tt

  -- what is answered is the one thing that P holds of
  pub given : {B : Type 0} (f : B → A) → ((a b : A) → P a → P b → a ≡ b) → (r : Result B NoValue) → Reads P f r
      → (a : A) → P a → Gives f a r
  given f one (Ok b) h a p = one (f b) a h p
  given f one (Err (Because path problem)) h a p = absurd (h a p)
  given f one (Err Memory) h a p = refl

module _ {A B : Type 0} (P : A → Type 0) (Q : B → Type 0) where
  -- where P holds of something if Q does
  pub nothing_of : ((b : B) → Q b → (a : A) × P a) → (r : NoValue) → IsNothing P r → IsNothing Q r
  nothing_of h (Because path problem) none = λ b q. let p = h b q in none p.0 p.1
  nothing_of h Memory none = tt

  -- so it is for another refusal, which is want of memory if this is
  pub nothing_behind : ((b : B) → Q b → (a : A) × P a) → (old new : NoValue) → (old ≡ Memory → new ≡ Memory)
      → IsNothing P old → IsNothing Q new
  nothing_behind h old Memory same none = tt
  nothing_behind h (Because s t) (Because path problem) same none = λ b q. let p = h b q in none p.0 p.1
  nothing_behind h Memory (Because path problem) same none = absurd (because_is path problem (same refl))

-- where two hold of the same
pub same_read : {A B : Type 0} (P Q : A → Type 0) → ((a : A) → P a → Q a) → ((a : A) → Q a → P a) → (f : B → A)
    (r : Result B NoValue) → Reads P f r → Reads Q f r
same_read P Q to back f (Ok b) h = to (f b) h
same_read P Q to back f (Err (Because path problem)) h = λ a q. h a (back a q)
same_read P Q to back f (Err Memory) h = tt
