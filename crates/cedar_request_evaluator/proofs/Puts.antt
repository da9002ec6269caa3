-- What is made of the last results is put in their place.
use Rattle.std.proofs.Common.{◌≡◌, ℕ, List, [], ◌∷◌, ◌++◌, refl, sym, ap, ◌∙◌, append_assoc, append-nil}
use Rattle.cedar_exprs.specs.PostOrder.{Takes}

-- an item that is made of the last n results stands in their place
abbrev pub Puts : {X : Type 0} → (X → List X → Type 0) → ℕ → List X → List X → Type 0
Puts {X} P n all new =
    (out : X) × (rest : List X) × (new ≡ rest ++ out ∷ []) × Takes n (P out) all rest

module _ {X : Type 0} {P : X → List X → Type 0} {all new : List X} (out : X) where
  pub put_none : new ≡ all ++ out ∷ [] → P out [] → Puts P 0 all new
  put_none pushed made = (out, all, pushed, ([], sym (append-nil all), refl, made))

  pub put_one : (rest : List X) (a : X) → all ≡ rest ++ a ∷ [] → new ≡ rest ++ out ∷ []
      → P out (a ∷ []) → Puts P 1 all new
  put_one rest a taken pushed made = (out, rest, pushed, (a ∷ [], taken, refl, made))

  -- the last is taken, then two
  pub put_three : (rest more : List X) (a b c : X) → all ≡ more ++ c ∷ []
      → more ≡ rest ++ a ∷ b ∷ [] → new ≡ rest ++ out ∷ [] → P out (a ∷ b ∷ c ∷ [])
      → Puts P 3 all new
  put_three rest more a b c last two pushed made =
      let taken = last ∙ ap (λ xs. xs ++ c ∷ []) two
      ∙ append_assoc rest (a ∷ b ∷ []) (c ∷ []) in
      (out, rest, pushed, (a ∷ b ∷ c ∷ [], taken, refl, made))
