use Rattle.std.proofs.Common.{subst, sym, OnOk}
use Rattle.std.specs.Fmt.{WritesInCalls}
use Rattle.cedar_values.proofs.BoundedRests.{lead, one_call}
use Rattle.cedar_values.proofs.bounded_display.write_separator.Goals as goal

pub returns-else-is_first : goal.returns-else-is_first
returns-else-is_first g c =
    let took = g.W.Write.write_str_gives in
    subst (λ b. OnOk c.write_str.result (WritesInCalls took c.args.f.now (lead b) c.write_str.new.self)) (sym c.if-is_first.false)
    (one_call took c.args.f.now _ c.write_str.new.self c.write_str.result c.write_str.ensures.ok)
