use Rattle.std.proofs.Common.{IsTrue}
use Rattle.cedar_calls.specs.Functions.{bare_name_of}
use Rattle.cedar_calls.specs.NameMaps.{stand_by_name}
use Rattle.cedar_calls.specs.NamedFunctions.{HasLastOfEach}
use Rattle.cedar_calls.proofs.extension.by_name.Given as goal

-- the map has the last function of each name so far, each at its name
abbrev pub invariant-loop-function : goal.invariant-loop-function
invariant-loop-function g l = record {
  last : HasLastOfEach l.map l.yielded;
  by_name : IsTrue (stand_by_name bare_name_of l.map.entries);
}
