-- Calls of methods, by how many arguments there are.
use Rattle.std.proofs.Common.{◌≡◌, ap, List, [], ◌∷◌, length, map}
use Rattle.std.proofs.lemmas.List.{nil_from_length}
use Rattle.cedar_builders.specs.BareExpr.{Text}
use Rattle.semantics_printing.specs.Phrases.{function_of, method_call_of, method_of, row_text}
use Rattle.cedar_printer.specs.Phrases.{rope_phrase}
use Rattle.cedar_printer.specs.declared.phrase.RopePhrase.{RopePhrase}

-- with a first argument
pub first_argument : (name : Text) (ps : List RopePhrase) (p : RopePhrase) (rest : List RopePhrase)
    → ps ≡ p ∷ rest
    → method_call_of name (map rope_phrase ps)
    ≡ method_of (rope_phrase p) name (row_text (map rope_phrase rest))
first_argument name ps p rest e = ap (λ qs. method_call_of name (map rope_phrase qs)) e

-- with none
pub no_argument : (name : Text) (ps : List RopePhrase) → length ps ≡ 0
    → method_call_of name (map rope_phrase ps) ≡ function_of name []
no_argument name ps h = ap (λ qs. method_call_of name (map rope_phrase qs)) (nil_from_length ps h)
