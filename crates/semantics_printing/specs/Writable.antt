-- The trees that Cedar's syntax can say.
use Rattle.std.specs.Prelude.{◌≡◌, ⊤, false, None, IsTrue, FitsSigned, IsUtf8, codes}
use Rattle.std.specs.Int.{w64}
use Rattle.std.specs.List.{AllByRecursion}
use Rattle.cedar_names.specs.Names.{BareName, IsNameOfIds, has_reserved, unqualified}
use Rattle.cedar_terms.specs.Literals.{BareLiteral, BoolLit, LongLit, StringLit, EntityLit}
use Rattle.cedar_builders.specs.BareExpr.{Text, BareExpr, Lit, Var, Slot, Unknown, If, And, Or, UnaryApp, BinaryApp, ExtensionFunctionApp, GetAttr, HasAttr, Like, Set, Record, Is, BareExprs, no_trees, tree, BareFields, no_fields, field}
use Rattle.cedar_builders.specs.Keys.{IsAscending}
use Rattle.cedar_builders.specs.AscendingKeys.{field_keys}
use Rattle.cedar_lexer.specs.Escapes.{has_scalars}
use Rattle.semantics_grammar.specs.Written.{function_tree}

-- a name of identifiers of which none is `__cedar`, as each name of a user is
abbrev pub IsPlainName : BareName → Type 0
IsPlainName n = IsNameOfIds n × (has_reserved n ≡ false)

-- an integer of 64 bits, a text in UTF-8, or an entity with a plain name and such a text
abbrev pub IsWritableLiteral : BareLiteral → Type 0
IsWritableLiteral (BoolLit b) = ⊤
IsWritableLiteral (LongLit n) = FitsSigned w64 n
IsWritableLiteral (StringLit s) = IsUtf8 s
IsWritableLiteral (EntityLit u) = IsPlainName u.entity_type × IsUtf8 u.eid

abbrev mutual
  -- names are plain, integers have 64 bits, texts are in UTF-8, the characters of patterns are scalar values and the keys of records ascend, as in
  -- each expression; besides, an unknown has no annotation, and no call of a function `unknown` is one that stands for an unknown
  pub IsWritable : BareExpr → Type 0
  IsWritable (Lit l) = IsWritableLiteral l
  IsWritable (Var v) = ⊤
  IsWritable (Slot s) = ⊤
  IsWritable (Unknown n t) = IsUtf8 n × (t ≡ None)
  IsWritable (If a b c) = IsWritable a × IsWritable b × IsWritable c
  IsWritable (And a b) = IsWritable a × IsWritable b
  IsWritable (Or a b) = IsWritable a × IsWritable b
  IsWritable (UnaryApp o a) = IsWritable a
  IsWritable (BinaryApp o a b) = IsWritable a × IsWritable b
  IsWritable (ExtensionFunctionApp n es) = IsPlainName n × (function_tree n es ≡ ExtensionFunctionApp n es) × AreWritable es
  IsWritable (GetAttr a k) = IsWritable a × IsUtf8 k
  IsWritable (HasAttr a k ks) = IsWritable a × IsUtf8 k × AllByRecursion IsUtf8 ks
  IsWritable (Like a p) = IsWritable a × IsTrue (has_scalars p)
  IsWritable (Set es) = AreWritable es
  IsWritable (Record fs) = IsAscending (field_keys fs) × AreWritableFields fs
  IsWritable (Is a n) = IsWritable a × IsPlainName n

  -- the same of each tree
  pub AreWritable : BareExprs → Type 0
  AreWritable no_trees = ⊤
  AreWritable (tree e es) = IsWritable e × AreWritable es

  -- the same of each value, and each key is in UTF-8
  pub AreWritableFields : BareFields → Type 0
  AreWritableFields no_fields = ⊤
  AreWritableFields (field k e fs) = IsUtf8 k × IsWritable e × AreWritableFields fs

-- the call of a function `unknown` on one text
abbrev pub unknown_call : Text → BareExpr
unknown_call t = ExtensionFunctionApp (unqualified (codes "unknown")) (tree (Lit (StringLit t)) no_trees)
