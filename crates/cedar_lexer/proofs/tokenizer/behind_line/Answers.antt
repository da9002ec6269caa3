use Rattle.std.proofs.Common.{[], refl}
use Rattle.cedar_lexer.specs.Blanks.{ends_line}
use Rattle.cedar_lexer.proofs.BlankLemmas.{line_found, no_line_found}
use Rattle.cedar_lexer.proofs.tokenizer.behind_line.Goals as goal

pub returns-in-Some : goal.returns-in-Some
returns-in-Some c =
    let h = c.in-Some.ensures.cases in
    line_found c.args.text.now _ c.in-Some.later.now (h.0, h.1, h.2 ends_line (λ d. refl), h.3, h.4, h.5, h.6, h.7)

pub returns-in-None : goal.returns-in-None
returns-in-None c = no_line_found c.args.text.now [] (c.in-None.ensures.cases ends_line (λ d. refl)) refl
