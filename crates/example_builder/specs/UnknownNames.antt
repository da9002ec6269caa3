-- What the example's builder makes of each kind of expression: the names of the unknowns in it, in
-- field order.
use Rattle.std.specs.Prelude.{List, [], ◌∷◌, ◌++◌, map, Err}
use Rattle.std.specs.List.{flat_map}
use Rattle.std.specs.Rc.{rc_str_bytes}
use Rattle.cedar_ast.specs.Names.{BareName}
use Rattle.cedar_ast.specs.BareExpr.{Text}
use Rattle.cedar_ast.specs.Ops.{Ops}
use Rattle.example_builder.specs.declared.names.Names.{Names}

-- the texts of the names, in order
abbrev pub texts_of : Names → List Text
texts_of found = map rc_str_bytes found.names.items

-- an unknown gives its name; any other leaf gives none; a node joins what its children gave, the
-- values of a record by key; a call is refused, by the name of the function
abbrev pub unknown_names_ops : Ops (List Text) BareName
unknown_names_ops = record {
  lit_of = λ literal. [];
  var_of = λ var. [];
  slot_of = λ slot. [];
  unknown_of = λ name annotation. name ∷ [];
  if_of = λ test yes no. test ++ yes ++ no;
  and_of = λ left right. left ++ right;
  or_of = λ left right. left ++ right;
  unary_of = λ op arg. arg;
  binary_of = λ op arg1 arg2. arg1 ++ arg2;
  call_of = λ name args. Err name;
  get_of = λ e attr. e;
  has_of = λ e attr attrs. e;
  like_of = λ e pattern. e;
  set_of = flat_map (λ member. member);
  record_of = flat_map (λ pair. pair.1);
  is_of = λ e ty. e;
}
