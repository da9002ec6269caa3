-- Operations of a builder that refuses some calls.
use Rattle.std.specs.Prelude.{ℕ, Bool, ◌++◌, codes, decimal, length, if◌then◌else◌, Ok, Err}
use Rattle.cedar_names.specs.Names.{BareName, unqualified}
use Rattle.cedar_builders.specs.Ops.{Ops}
use Rattle.cedar_builders.specs.Trees.{sure}

-- the name `f` and the number in decimal, without a namespace
abbrev pub numbered : ℕ → BareName
numbered k = unqualified (codes "f" ++ decimal k)

-- the operations B, with others for `and` and `or`; which calls are refused goes by their name and
-- by how many arguments they have, and the name is the error
abbrev pub refusing : {M : Type 0} → Ops M ⊥ → (M → M → M) → (M → M → M)
    → (BareName → ℕ → Bool) → Ops M BareName
refusing B and_of or_of refuses = record {
  lit_of = B.lit_of;
  var_of = B.var_of;
  slot_of = B.slot_of;
  unknown_of = B.unknown_of;
  if_of = B.if_of;
  and_of = and_of;
  or_of = or_of;
  unary_of = B.unary_of;
  binary_of = B.binary_of;
  call_of = λ n ms. if refuses n (length ms) then Err n else Ok (sure (B.call_of n ms));
  get_of = B.get_of;
  has_of = B.has_of;
  like_of = B.like_of;
  set_of = B.set_of;
  record_of = B.record_of;
  is_of = B.is_of;
}
