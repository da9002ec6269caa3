use Rattle.std.proofs.Common.{◌≡◌, ◌++◌, length}
use Rattle.std.specs.Str.{chars}
use denote.Text.{Utf8}
use denote.Shadow.{shadow}
use Rattle.cedar_script.specs.Patterns.{spelling}
use Rattle.cedar_script.proofs.pattern.parse_pattern.Given as goal

-- what was read, and then the rest
abbrev pub invariant-elems : goal.invariant-elems
invariant-elems l = record {
  rest_utf8 : shadow (Utf8 l.rest);
  read : chars l.text ≡ spelling l.elems.items ++ chars l.rest;
}

abbrev pub decreases-elems : goal.decreases-elems
decreases-elems l = length (chars l.rest)
