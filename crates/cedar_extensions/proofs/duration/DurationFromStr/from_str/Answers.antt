use Rattle.std.proofs.Common.{sym, ◌∙◌, length}
use Rattle.cedar_extensions.proofs.DecimalTexts.{nothing, something}
use Rattle.cedar_extensions.proofs.DurationTexts.{nothing_there, refused, too_large}
use Rattle.cedar_extensions.proofs.duration.DurationFromStr.from_str.Goals as goal

pub returns-then-is_empty : goal.returns-then-is_empty
returns-then-is_empty c =
    let s = c.split_sign-is_negative in
    nothing_there c.args.text.now s.result.1.now s.result.0 (sym c.as_bytes.ensures.value ∙ s.ensures.spelled) s.ensures.plain (nothing (length s.result.1.now) c.if-is_empty.ensures)

pub returns-in-None : goal.returns-in-None
returns-in-None c =
    let s = c.split_sign-is_negative in
    too_large c.args.text.now s.result.1.now s.result.0 c.in-Ok.size (sym c.as_bytes.ensures.value ∙ s.ensures.spelled) s.ensures.plain (something (length s.result.1.now) c.if-is_empty.ensures) c.in-Ok.ensures c.in-None.ensures

pub returns-in-Err : goal.returns-in-Err
returns-in-Err c =
    let s = c.split_sign-is_negative in
    refused c.args.text.now s.result.1.now s.result.0 c.in-Err.error (sym c.as_bytes.ensures.value ∙ s.ensures.spelled) s.ensures.plain (something (length s.result.1.now) c.if-is_empty.ensures) c.in-Err.ensures
