use Rattle.std.proofs.Common.{◌≡◌, map, take}
use Rattle.std.specs.Rc.{rc_str_bytes}
use Rattle.cedar_script.specs.CommandWords.{texts_now}
use Rattle.cedar_script.proofs.work.share_texts.Given as goal

abbrev pub invariant-loop-text : goal.invariant-loop-text
invariant-loop-text l = map rc_str_bytes l.shared.items ≡ texts_now (take l.text-index l.texts)
