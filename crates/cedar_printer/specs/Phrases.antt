-- Texts with their precedences, as the code holds them.
use Rattle.std.specs.Prelude.{string_bytes}
use Rattle.cedar_builders.specs.BareExpr.{Text}
use Rattle.cedar_builders.specs.Ropes.{text_of}
use Rattle.cedar_terms.specs.declared.precedence.Precedence.{Precedence}
use Rattle.cedar_printer.specs.declared.phrase.Phrase.{Phrase}
use Rattle.cedar_printer.specs.declared.phrase.RopePhrase.{RopePhrase}

-- a text and its precedence
abbrev pub phrase_of : Phrase → Text × Precedence
phrase_of p = (string_bytes p.text, p.precedence)

-- a text in pieces, joined, and its precedence
abbrev pub rope_phrase : RopePhrase → Text × Precedence
rope_phrase p = (text_of p.text, p.precedence)
