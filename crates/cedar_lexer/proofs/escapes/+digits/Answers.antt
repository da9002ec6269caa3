use Rattle.std.proofs.Common.{arith}
use Rattle.cedar_lexer.proofs.Room.{value_room}
use Rattle.cedar_lexer.proofs.escapes.+digits.Goals as goal

pub overflow_mul-value : goal.overflow_mul-value
overflow_mul-value t c =
    let h = value_room c.args.value 0 c.args.left c.requires.1.1 (omega arith) (omega arith) in omega (arith, h)

pub overflow_add-branch : goal.overflow_add-branch
overflow_add-branch t c =
    let d = c.in_ok-to_digit-in_default.field-0 in
    let v = c.in_ok-to_digit-in_default.ensures.value in
    let h = value_room c.args.value d c.args.left c.requires.1.1 (omega (arith, v.0, v.1)) (omega arith) in omega (arith, h)
