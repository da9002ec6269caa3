use Rattle.std.specs.Fmt.{HasWritten, IsPlainFormatter}
use Rattle.cedar_lexer.specs.Excerpts.{carets_of}
use Rattle.cedar_lexer.proofs.error.write_carets.Given as goal

-- so many carets are written
abbrev pub invariant-loop-caret : goal.invariant-loop-caret
invariant-loop-caret g l =
    IsPlainFormatter l.initial.f → HasWritten g.W.Write.write_str_gives l.initial.f (carets_of l._caret) l.f
