-- The trees that can be written, but for calls and patterns.
use Rattle.std.proofs.Common.{◌≡◌, Bool, true, false, List, [], ◌∷◌, Option, Some, None, refl, sym, subst, ap, codes, IsUtf8}
use Rattle.std.specs.Prelude.{⊤, if◌then◌else◌, ◌&&◌}
use Rattle.std.specs.List.{AllByRecursion}
use Rattle.std.specs.Str.{bytes_eq}
use Rattle.std.proofs.lemmas.Option.{none-some, same_Some}
use Rattle.cedar_names.specs.Names.{BareName}
use Rattle.cedar_terms.specs.Literals.{StringLit}
use Rattle.cedar_terms.specs.declared.ops.BinaryOp.{BinaryOp}
use Rattle.cedar_builders.specs.BareExpr.{Text, BareExpr, Lit, Var, Slot, Unknown, If, And, Or, UnaryApp, BinaryApp, ExtensionFunctionApp, GetAttr, HasAttr, Like, Set, Record, Is, BareExprs, no_trees, tree, BareFields, no_fields, field, fields_of}
use Rattle.cedar_builders.specs.Keys.{IsAscending, in_key_order}
use Rattle.cedar_builders.specs.AscendingKeys.{field_keys}
use Rattle.semantics_grammar.specs.Written.{binary_or_call, function_tree, is_empty_tree, is_nil, method_op, method_tree, one_argument, only_string, string_of, unknown_or}
use Rattle.semantics_printing.specs.Writable.{AreWritable, AreWritableFields, IsPlainName, IsWritable, IsWritableLiteral}
use Rattle.semantics_round_trip.specs.Parsed.{ArePlain, IsPlain, ArePlainFields}
use Rattle.semantics_round_trip.proofs.Records.{AllHold, in_order_ascends, in_order_holds, texts}

abbrev mutual
  pub IsSaid : BareExpr → Type 0
  IsSaid (Lit l) = IsWritableLiteral l
  IsSaid (Var v) = ⊤
  IsSaid (Slot s) = ⊤
  IsSaid (Unknown n t) = IsUtf8 n × (t ≡ None)
  IsSaid (If a b c) = IsSaid a × IsSaid b × IsSaid c
  IsSaid (And a b) = IsSaid a × IsSaid b
  IsSaid (Or a b) = IsSaid a × IsSaid b
  IsSaid (UnaryApp o a) = IsSaid a
  IsSaid (BinaryApp o a b) = IsSaid a × IsSaid b
  IsSaid (ExtensionFunctionApp n es) = IsPlainName n × AreSaid es
  IsSaid (GetAttr a k) = IsSaid a × IsUtf8 k
  IsSaid (HasAttr a k ks) = IsSaid a × IsUtf8 k × AllByRecursion IsUtf8 ks
  IsSaid (Like a p) = IsSaid a
  IsSaid (Set es) = AreSaid es
  IsSaid (Record fs) = IsAscending (field_keys fs) × AreSaidFields fs
  IsSaid (Is a n) = IsSaid a × IsPlainName n

  pub AreSaid : BareExprs → Type 0
  AreSaid no_trees = ⊤
  AreSaid (tree e es) = IsSaid e × AreSaid es

  pub AreSaidFields : BareFields → Type 0
  AreSaidFields no_fields = ⊤
  AreSaidFields (field k e fs) = IsUtf8 k × IsSaid e × AreSaidFields fs

mutual
  -- they can be written, where they are plain
  pub said_writable : (e : BareExpr) → IsSaid e → IsPlain e → IsWritable e
  said_writable (Lit l) h k = h
  said_writable (Var v) h k = tt
  said_writable (Slot s) h k = tt
  said_writable (Unknown n t) h k = h
  said_writable (If a b c) h k = (said_writable a h.0 k.0, said_writable b h.1 k.1, said_writable c h.2 k.2)
  said_writable (And a b) h k = (said_writable a h.0 k.0, said_writable b h.1 k.1)
  said_writable (Or a b) h k = (said_writable a h.0 k.0, said_writable b h.1 k.1)
  said_writable (UnaryApp o a) h k = said_writable a h k
  said_writable (BinaryApp o a b) h k = (said_writable a h.0 k.0, said_writable b h.1 k.1)
  said_writable (ExtensionFunctionApp n es) h k = (h.0, k.0, all_writable es h.1 k.1)
  said_writable (GetAttr a w) h k = (said_writable a h.0 k, h.1)
  said_writable (HasAttr a w ws) h k = (said_writable a h.0 k, h.1, h.2)
  said_writable (Like a p) h k = (said_writable a h k.0, k.1)
  said_writable (Set es) h k = all_writable es h k
  said_writable (Record fs) h k = (h.0, fields_writable fs h.1 k)
  said_writable (Is a n) h k = (said_writable a h.0 k, h.1)

  all_writable : (es : BareExprs) → AreSaid es → ArePlain es → AreWritable es
  all_writable no_trees h k = tt
  all_writable (tree e es) h k = (said_writable e h.0 k.0, all_writable es h.1 k.1)

  fields_writable : (fs : BareFields) → AreSaidFields fs → ArePlainFields fs → AreWritableFields fs
  fields_writable no_fields h k = tt
  fields_writable (field w e fs) h k = (h.0, said_writable e h.1 k.0, fields_writable fs h.2 k.1)

-- ---- calls

unknown_said : (e : BareExpr) (o : Option Text) → IsSaid e → ((s : Text) → o ≡ Some s → IsUtf8 s) → IsSaid (unknown_or e o)
unknown_said e None h k = h
unknown_said e (Some s) h k = (k s refl, refl)

string_said : (a : BareExpr) → IsSaid a → (s : Text) → string_of a ≡ Some s → IsUtf8 s
string_said (Lit (StringLit t)) h s e = subst IsUtf8 (same_Some t s e) h
string_said _ h s e = absurd (none-some s e)

only_said : (es : BareExprs) → AreSaid es → (s : Text) → only_string es ≡ Some s → IsUtf8 s
only_said no_trees h s e = absurd (none-some s e)
only_said (tree a no_trees) h s e = string_said a h.0 s e
only_said (tree a (tree b bs)) h s e = absurd (none-some s e)

-- what the call of a function is
pub function_said : (n : BareName) (es : BareExprs) → IsPlainName n → AreSaid es → IsSaid (function_tree n es)
function_said n es h k = go (is_nil n.path && bytes_eq n.basename (codes "unknown"))
  where
    go : (c : Bool) → IsSaid (if c then unknown_or (ExtensionFunctionApp n es) (only_string es) else ExtensionFunctionApp n es)
    go true = unknown_said (ExtensionFunctionApp n es) (only_string es) (h, k) (only_said es k)
    go false = (h, k)

abbrev GivesSaid : Option BareExpr → Type 0
GivesSaid o = (b : BareExpr) → o ≡ Some b → IsSaid b

some_said : (a : BareExpr) → IsSaid a → GivesSaid (Some a)
some_said a h b e = subst IsSaid (same_Some a b e) h

empty_said : (a : BareExpr) (es : BareExprs) → IsSaid a → GivesSaid (is_empty_tree a es)
empty_said a no_trees h = some_said _ h
empty_said a (tree e es) h = λ b e. absurd (none-some b e)

argument_said : (op : BinaryOp) (a : BareExpr) (es : BareExprs) → IsSaid a → AreSaid es → GivesSaid (one_argument op a es)
argument_said op a no_trees h k = λ b e. absurd (none-some b e)
argument_said op a (tree e no_trees) h k = some_said _ (h, k.0)
argument_said op a (tree e (tree f es)) h k = λ b e. absurd (none-some b e)

other_said : (o : Option BinaryOp) (n : BareName) (a : BareExpr) (es : BareExprs) → IsPlainName n → IsSaid a → AreSaid es → GivesSaid (binary_or_call o n a es)
other_said None n a es p h k = some_said _ (p, (h, k))
other_said (Some op) n a es p h k = argument_said op a es h k

-- what the call of a method is
pub method_said : (m : Text) (n : BareName) (a : BareExpr) (es : BareExprs) → IsPlainName n → IsSaid a → AreSaid es → GivesSaid (method_tree m n a es)
method_said m n a es p h k = go (bytes_eq m (codes "isEmpty"))
  where
    go : (c : Bool) → GivesSaid (if c then is_empty_tree a es else binary_or_call (method_op m) n a es)
    go true = empty_said a es h
    go false = other_said (method_op m) n a es p h k

-- ---- records

keys_are : (ps : List (Text × BareExpr)) → field_keys (fields_of ps) ≡ texts ps
keys_are [] = refl
keys_are (p ∷ ps) = ap (λ ks. p.0 ∷ ks) (keys_are ps)

fields_said : (ps : List (Text × BareExpr)) → AllHold IsUtf8 IsSaid ps → AreSaidFields (fields_of ps)
fields_said [] h = tt
fields_said (p ∷ ps) h = (h.0.0, h.0.1, fields_said ps h.1)

pub record_said : (ps : List (Text × BareExpr)) → AllHold IsUtf8 IsSaid ps → IsSaid (Record (fields_of (in_key_order ps)))
record_said ps h = (
  subst IsAscending (sym (keys_are (in_key_order ps))) (in_order_ascends ps),
  fields_said (in_key_order ps) (in_order_holds IsUtf8 IsSaid ps h),
)
