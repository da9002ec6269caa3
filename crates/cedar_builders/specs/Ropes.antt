-- Texts in pieces.
use Rattle.std.specs.Prelude.{◌++◌, string_bytes}
use Rattle.std.specs.List.{flat_map}
use Rattle.cedar_builders.specs.BareExpr.{Text}
use Rattle.cedar_builders.specs.declared.rope.Rope.{Rope}

-- the pieces, joined
abbrev pub text_of : Rope → Text
text_of r = flat_map string_bytes r.before ++ string_bytes r.last
