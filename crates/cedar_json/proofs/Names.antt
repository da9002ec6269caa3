-- Where a text is no name.
use Rattle.std.proofs.Common.{◌≡◌, ℕ, List, ap, refl, sym, ◌∙◌}
use Rattle.std.proofs.lemmas.Bool.{false≢true}
use Rattle.cedar_names.specs.Names.{BareName, IsNameOfIds, IsNameText, has_reserved, name_text}
use Rattle.cedar_names.specs.Readers.{IsReservedName, OnReadError, refused_name}
use Rattle.cedar_names.specs.declared.err.ParseErrors.{ParseErrors}
use Rattle.cedar_names.specs.declared.err.ParseErrors.TheVariants as errors
use Rattle.cedar_json.specs.Refusals.{IsNothing}
use Rattle.cedar_json.specs.Values.{IsNameIn}
use Rattle.cedar_json.specs.declared.no_value.NoValue.{NoValue}
use Rattle.cedar_json.specs.declared.no_value.NoValue.TheVariants.{Because, Memory}
use Rattle.cedar_json.proofs.Nothing.{because_is}

pub unnamed : ((m n : BareName) → IsNameOfIds m → IsNameOfIds n → name_text m ≡ name_text n → m ≡ n) → (text : List ℕ)
    (e : ParseErrors) (kind : List ℕ) (r : NoValue) → (e ≡ errors.Memory → r ≡ Memory)
    → OnReadError e kind (IsNameText text → ⊥) (IsReservedName text) → IsNothing (IsNameIn text) r
unnamed one text e kind Memory memory h = tt
unnamed one text (errors.NotNormalized k) kind (Because p q) memory h = λ n named. h.0 (n, named.0.0, named.0.1)
unnamed one text (errors.Reserved x) kind (Because p q) memory h = λ n named.
    let same = one (refused_name x) n h.0.0 named.0.0 (h.0.1 ∙ sym named.0.1) in
    absurd (false≢true (sym named.1 ∙ (ap has_reserved (sym same) ∙ h.1)))
unnamed one text errors.Memory kind (Because p q) memory h = absurd (because_is p q (memory refl))
