-- The statuses that the program ends with.
use Rattle.std.specs.Prelude.{◌≡◌, ◌≢◌, ℕ}
use Rattle.cedar_script.specs.declared.command_error.CommandError.{CommandError}
use Rattle.cedar_script.specs.declared.command_error.CommandError.TheVariants.{Memory as no_memory}
use Rattle.cedar_script.specs.declared.script.RunFault.{RunFault}
use Rattle.cedar_script.specs.declared.script.RunFault.TheVariants.{Line, Stream}
use Rattle.cedar_streams.specs.declared.streams.StreamFault.TheVariants.{Memory}

-- 1 where the script is at fault, 2 where its surroundings are
abbrev pub status_of : RunFault → ℕ
status_of (Line line cause) = 1
status_of (Stream fault) = 2

-- the fault of a line that is refused: want of memory as itself, else the line's number, unless
-- its cause has no memory
abbrev pub IsFaultAt : ℕ → CommandError → RunFault → Type 0
IsFaultAt number error (Line line cause) = (line ≡ number) × (error ≢ no_memory)
IsFaultAt number error (Stream fault) = fault ≡ Memory
