-- What a walk that substitutes refuses.
use Rattle.std.specs.Prelude.{◌≡◌, ⊤, Option, Some, None, Result, Ok, Err, Box}
use Rattle.std.specs.Global.{Global}
use Rattle.std.specs.declared.convert.Infallible.{Infallible}
use Rattle.cedar_terms.specs.Types.{bare_type}
use Rattle.cedar_builders.specs.TypeClash.{TwoTypes}
use Rattle.cedar_exprs.specs.declared.walks.post_order.PostOrderFault.{PostOrderFault}
use Rattle.cedar_exprs.specs.declared.walks.post_order.PostOrderFault.TheVariants.{Refused, Memory}
use Rattle.cedar_exprs.specs.declared.substitution.function.Clash.{Clash}

-- the types of a clash
abbrev pub clash_types : Box Clash Global → TwoTypes
clash_types c = (bare_type c.value.expected, bare_type c.value.actual)

-- those of a refusal that there is none of
abbrev pub no_clash : Infallible → TwoTypes
no_clash c = elim c [ ]

-- the refusal is what was found, or memory ran out
abbrev pub IsRefusal : {D : Type 0} → (D → TwoTypes) → Option TwoTypes → PostOrderFault D → Type 0
IsRefusal types_of found (Refused d) = found ≡ Some (types_of d)
IsRefusal types_of found Memory = ⊤

-- nothing is refused where nothing was found, else what was found
abbrev pub Refuses : {E D : Type 0} → (D → TwoTypes) → Option TwoTypes → Result E (PostOrderFault D) → Type 0
Refuses types_of found (Ok _) = found ≡ None
Refuses types_of found (Err e) = IsRefusal types_of found e
