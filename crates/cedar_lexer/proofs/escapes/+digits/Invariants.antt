use Rattle.cedar_lexer.proofs.escapes.+digits.Given as goal

abbrev pub decreases-digits : goal.decreases-digits
decreases-digits l = l.left
