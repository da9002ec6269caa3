-- Why a reader or a writer ends a program, by the kind of its error.
use Rattle.std.specs.Prelude.{⊤}
use Rattle.std.specs.declared.io.ErrorKind.{ErrorKind}
use Rattle.std.specs.declared.io.ErrorKind.TheVariants.{OutOfMemory}
use Rattle.cedar_streams.specs.declared.streams.StreamFault.{StreamFault}
use Rattle.cedar_streams.specs.declared.streams.StreamFault.TheVariants.{Input, Output, Memory}

-- of a reader: want of memory as itself, else an input fault
abbrev pub read_fault : ErrorKind → StreamFault
read_fault OutOfMemory = Memory
read_fault _ = Input

-- of a writer: want of memory as itself, else an output fault
abbrev pub write_fault : ErrorKind → StreamFault
write_fault OutOfMemory = Memory
write_fault _ = Output

-- a fault that reading the input ends with
abbrev pub IsInputFault : StreamFault → Type 0
IsInputFault Input = ⊤
IsInputFault Output = ⊥
IsInputFault Memory = ⊤
