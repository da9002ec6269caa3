use Rattle.std.proofs.Common.{map}
use Rattle.std.specs.Fmt.{HasWritten, IsPlainFormatter}
use Rattle.cedar_lexer.specs.Excerpts.{blank_of}
use Rattle.cedar_lexer.proofs.error.write_blanks.Given as goal

-- the blanks below the characters so far are written
abbrev pub invariant-loop-c : goal.invariant-loop-c
invariant-loop-c g l =
    IsPlainFormatter l.initial.f → HasWritten g.W.Write.write_str_gives l.initial.f (map blank_of l.yielded) l.f
