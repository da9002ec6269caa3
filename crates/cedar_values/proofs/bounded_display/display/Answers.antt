use Rattle.cedar_values.proofs.Displays.{formatter_written, if_ok}
use Rattle.cedar_values.proofs.bounded_display.display.Goals as goal

pub returns : goal.returns
returns g c = λ plain ok.
    formatter_written g.W.Write.write_str_gives c.args.f.now _ c.fmt_unbounded.new.f (if_ok c.fmt_unbounded.result c.fmt_unbounded.ensures ok) plain
