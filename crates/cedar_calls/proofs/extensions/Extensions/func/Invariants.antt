use Rattle.std.proofs.Common.{◌≡◌, length}
use Rattle.cedar_names.specs.PlainNames.{bare_name}
use Rattle.cedar_calls.specs.Extensions.{extensions_of, first_named}
use Rattle.cedar_calls.proofs.extensions.Extensions.func.Given as goal

-- the extensions that are left decide
abbrev pub invariant-loop-first : goal.invariant-loop-first
invariant-loop-first g l = first_named (bare_name l.name) l.rest ≡ first_named (bare_name l.name) (extensions_of l.self)

abbrev pub decreases-loop-first : goal.decreases-loop-first
decreases-loop-first g l = length l.rest
