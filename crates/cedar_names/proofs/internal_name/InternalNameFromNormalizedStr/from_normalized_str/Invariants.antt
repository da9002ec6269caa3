use Rattle.std.proofs.Common.{◌≡◌, ◌++◌, length, IsTrue}
use Rattle.std.specs.List.{list_all}
use denote.Text.{Utf8}
use denote.Shadow.{shadow}
use Rattle.cedar_names.specs.Grammar.{is_id}
use Rattle.cedar_names.specs.Names.{IsNameText, path_text}
use Rattle.cedar_names.proofs.internal_name.InternalNameFromNormalizedStr.from_normalized_str.Given as goal

abbrev pub invariant-parts : goal.invariant-parts
invariant-parts l = record {
  rest_utf8 : shadow (Utf8 l.rest);
  made : path_text l.path.items ++ l.rest ≡ l.s;
  ids : IsTrue (list_all is_id l.path.items);
  still : IsNameText l.s → IsNameText l.rest;
}

abbrev pub decreases-parts : goal.decreases-parts
decreases-parts l = length l.rest
