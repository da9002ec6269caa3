use Rattle.cedar_parser.proofs.CompleteTexts.{no_text, only_text}
use Rattle.std.proofs.Common.{◌∙◌}
use Rattle.std.proofs.Common.{string_bytes, subst, sym}
use Rattle.std.specs.Option.{option_map}
use Rattle.std.specs.Str.{chars}
use Rattle.std.proofs.lemmas.Str.{IsUtf8-string_bytes}
use Rattle.cedar_lexer.specs.Readings.{IsAnswerOfText}
use Rattle.semantics_grammar.specs.Written.{IsTextOf}
use Rattle.cedar_parser.proofs.TokenTexts.{text_meant}
use Rattle.cedar_parser.proofs.leaves.text_of.Goals as goal

pub returns-in_ok-from_string-in-Some-clause-text : goal.returns-in_ok-from_string-in-Some-clause-text
returns-in_ok-from_string-in-Some-clause-text c token =
    subst (IsTextOf c.args.token.text.now) (sym c.in_ok-from_string-in-Some.ensures.ok)
    (text_meant c.args.token.text.now c.inside.result.now (string_bytes c.in-Some.text) c.inside.ensures token (IsUtf8-string_bytes c.in-Some.text)
    (subst (λ o. IsAnswerOfText (chars c.inside.result.now) (option_map string_bytes o)) c.in-Some.is c.in_ok-text.ensures))

pub returns-in_ok-from_string-in-Some-clause-complete : goal.returns-in_ok-from_string-in-Some-clause-complete
returns-in_ok-from_string-in-Some-clause-complete c u h =
    c.in_ok-from_string-in-Some.ensures.ok
    ∙ only_text c.args.token.text.now c.inside.result.now (string_bytes c.in-Some.text) u c.inside.ensures
    (subst (λ o. IsAnswerOfText (chars c.inside.result.now) (option_map string_bytes o)) c.in-Some.is c.in_ok-text.ensures) h

pub returns-in-None-clause-complete : goal.returns-in-None-clause-complete
returns-in-None-clause-complete c u h =
    absurd (no_text c.args.token.text.now c.inside.result.now u c.inside.ensures
    (subst (λ o. IsAnswerOfText (chars c.inside.result.now) (option_map string_bytes o)) c.in-None.is c.in_ok-text.ensures) h)
