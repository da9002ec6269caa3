use Rattle.std.proofs.Common.{inr, codes, subst}
use Rattle.cedar_names.specs.Names.{IsNameText}
use Rattle.cedar_names.specs.Readers.{refused_name, IsReservedName, OnReadError}
use Rattle.cedar_script.proofs.line.parse_name.Goals as goal

pub returns-in-Err-Reserved-clause-bad : goal.returns-in-Err-Reserved-clause-bad
returns-in-Err-Reserved-clause-bad c =
    let text = c.args.word.now in
    let reserved : IsReservedName text c.in-Err-Reserved.field-0-0 =
    subst (λ e. OnReadError e (codes "Name") (IsNameText text → ⊥) (IsReservedName text)) c.in-Err-Reserved.field-0-is c.in-Err-Reserved.ensures.refused in
    λ _. inr (refused_name c.in-Err-Reserved.field-0-0, reserved.0, reserved.1)
