use Rattle.std.proofs.Common.{ap, ◌∙◌, ◌++◌}
use Rattle.std.specs.String.{string_bytes}
use Rattle.std.proofs.Output.{contents_after_writes}
use Rattle.cedar_values.proofs.bounded_display.string_of.Goals as goal

pub returns-in-Ok : goal.returns-in-Ok
returns-in-Ok g c =
    contents_after_writes _ string_bytes (λ s bs t h. h) c.new-text.result _ c.fmt.new.f c.in-Ok.ensures
    ∙ ap (λ s. s ++ g.D.BoundedDisplay.text_within c.args.value.now c.args.n) c.new-text.ensures.bytes
