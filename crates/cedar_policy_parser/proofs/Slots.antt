-- Tokens without a slot.
use Rattle.std.proofs.Common.{◌≡◌, false, not, ◌&&◌, List, ◌∷◌, sym, ◌∙◌, ap, subst}
use Rattle.std.specs.List.{list_all}
use Rattle.semantics_grammar.specs.Lexemes.{Lexeme}
use Rattle.semantics_policies.specs.Grammar.{is_slot_token}
use Rattle.cedar_policy_parser.specs.Streams.{HasNoSlot}
use Rattle.cedar_policy_parser.proofs.Keys.{both_true, not_true}

-- one token more, which is no slot
pub no_slot_more : (l : Lexeme) (old new : List Lexeme) → old ≡ l ∷ new → is_slot_token l ≡ false → HasNoSlot new → HasNoSlot old
no_slot_more l old new e f h = subst HasNoSlot (sym e) (ap (λ b. not b && list_all (λ t. not (is_slot_token t)) new) f ∙ h)

-- one token fewer
pub no_slot_less : (l : Lexeme) (old new : List Lexeme) → old ≡ l ∷ new → HasNoSlot old → (is_slot_token l ≡ false) × HasNoSlot new
no_slot_less l old new e h =
    let k = both_true (not (is_slot_token l)) (list_all (λ t. not (is_slot_token t)) new) (subst HasNoSlot e h) in
    (not_true (is_slot_token l) k.0, k.1)
