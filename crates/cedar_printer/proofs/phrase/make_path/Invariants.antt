use Rattle.std.proofs.Common.{◌≡◌, map, take, string_bytes}
use Rattle.std.specs.Rc.{rc_str_bytes}
use Rattle.semantics_printing.specs.Phrases.{path_text}
use Rattle.cedar_printer.proofs.phrase.make_path.Given as goal

-- what is written is the path so far
abbrev pub invariant-loop-attr : goal.invariant-loop-attr
invariant-loop-attr l =
    string_bytes l.path ≡ path_text (rc_str_bytes l.attrs.head) (map rc_str_bytes (take l.attr-index l.attrs.tail.items))
