-- Trees in which the keys of each record strictly ascend.
use Rattle.std.specs.Prelude.{⊤, All, List, [], ◌∷◌}
use Rattle.cedar_builders.specs.BareExpr.{Text, BareExpr, Record, BareFields, no_fields, field}
use Rattle.cedar_builders.specs.Keys.{IsAscending}
use Rattle.cedar_builders.specs.Walks.{preorder}

-- the keys of a record
abbrev pub field_keys : BareFields → List Text
field_keys no_fields = []
field_keys (field k e fs) = k ∷ field_keys fs

-- the keys of the record that a node is
abbrev pub NodeKeysAscend : BareExpr → Type 0
NodeKeysAscend (Record fs) = IsAscending (field_keys fs)
NodeKeysAscend e = ⊤

-- the keys of each record in a tree ascend
abbrev pub KeysAscend : BareExpr → Type 0
KeysAscend e = All NodeKeysAscend (preorder e)
