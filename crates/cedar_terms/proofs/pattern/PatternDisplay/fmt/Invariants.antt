use Rattle.std.proofs.Common.{take}
use Rattle.std.specs.Fmt.{HasWritten, IsPlainFormatter}
use Rattle.std.specs.Str.{encode_utf8_all}
use Rattle.cedar_terms.specs.Patterns.{pattern_text}
use Rattle.cedar_terms.proofs.pattern.PatternDisplay.fmt.Given as goal

abbrev pub invariant-loop-elem : goal.invariant-loop-elem
invariant-loop-elem g l =
    IsPlainFormatter l.initial.f → HasWritten g.W.Write.write_str_gives l.initial.f (encode_utf8_all (pattern_text (take l.elem-index l.elem-items))) l.f
