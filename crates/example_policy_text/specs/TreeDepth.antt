-- How deep a tree is: a leaf is 1 deep, any other node one more than its deepest child; no number
-- is above 2 ^ 64 - 1.
use Rattle.std.specs.Prelude.{ℕ, ◌+◌, ◌-◌, ◌^◌, min, max, List, [], ◌∷◌, map, Ok}
use Rattle.cedar_ast.specs.Ops.{Ops}

-- the greatest of the depths, 0 if there are none
abbrev pub deepest : List ℕ → ℕ
deepest [] = 0
deepest (d ∷ ds) = max d (deepest ds)

-- one level above this depth
abbrev pub above : ℕ → ℕ
above d = min (d + 1) (2 ^ 64 - 1)

-- the depth of each kind of node, from those of its children
abbrev pub depth_ops : Ops ℕ ⊥
depth_ops = record {
  lit_of = λ literal. 1;
  var_of = λ var. 1;
  slot_of = λ slot. 1;
  unknown_of = λ name annotation. 1;
  if_of = λ test yes no. above (max test (max yes no));
  and_of = λ left right. above (max left right);
  or_of = λ left right. above (max left right);
  unary_of = λ op arg. above arg;
  binary_of = λ op arg1 arg2. above (max arg1 arg2);
  call_of = λ name args. Ok (above (deepest args));
  get_of = λ e attr. above e;
  has_of = λ e attr attrs. above e;
  like_of = λ e pattern. above e;
  set_of = λ members. above (deepest members);
  record_of = λ pairs. above (deepest (map (λ pair. pair.1) pairs));
  is_of = λ e ty. above e;
}
