use Rattle.std.proofs.Common.{arith}
use Rattle.std.specs.Str.{chars}
use Rattle.cedar_lexer.proofs.TokenPlacesLemmas.{first_fits}
use Rattle.cedar_lexer.proofs.tokenizer.first_width.Goals as goal

pub returns-in-Some-clause-bound : goal.returns-in-Some-clause-bound
returns-in-Some-clause-bound c =
    let fits = first_fits c.args.text.now (chars c.in-Some.field-0-1.now) c.in-Some.c c.utf8.text c.in-Some.ensures in
    omega (arith, fits, c.len_utf8.ensures.value)
