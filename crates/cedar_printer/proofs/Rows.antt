-- Rows of phrases, by how many there are.
use Rattle.std.proofs.Common.{◌≡◌, ap, List, [], ◌∷◌, ◌++◌, length, map}
use Rattle.std.proofs.lemmas.List.{nil_from_length}
use Rattle.cedar_builders.specs.Ropes.{text_of}
use Rattle.semantics_printing.specs.Phrases.{others_text, row_text}
use Rattle.cedar_printer.specs.Phrases.{rope_phrase}
use Rattle.cedar_printer.specs.declared.phrase.RopePhrase.{RopePhrase}

-- with a first one
pub first_of_row : (ps : List RopePhrase) (p : RopePhrase) (rest : List RopePhrase) → ps ≡ p ∷ rest
    → row_text (map rope_phrase ps) ≡ text_of p.text ++ others_text (map rope_phrase rest)
first_of_row ps p rest e = ap (λ qs. row_text (map rope_phrase qs)) e

-- with none
pub empty_row : (ps : List RopePhrase) → length ps ≡ 0 → row_text (map rope_phrase ps) ≡ []
empty_row ps h = ap (λ qs. row_text (map rope_phrase qs)) (nil_from_length ps h)
