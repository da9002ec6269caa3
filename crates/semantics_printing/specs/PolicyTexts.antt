-- The text of each kind of expression in Cedar's syntax.
use Rattle.std.specs.Prelude.{List, [], ◌∷◌, ◌++◌, map, codes, Option, None, Some, Ok}
use Rattle.std.specs.Str.{encode_utf8_all}
use Rattle.cedar_builders.specs.BareExpr.{Text}
use Rattle.cedar_terms.specs.Literals.{literal_text}
use Rattle.cedar_names.specs.Names.{name_text}
use Rattle.cedar_builders.specs.Ops.{Ops}
use Rattle.cedar_names.specs.Slots.{slot_text}
use Rattle.cedar_terms.specs.Escape.{quoted}
use Rattle.cedar_terms.specs.Ops.{binary_op_text, var_text}
use Rattle.cedar_terms.specs.Patterns.{pattern_text}
use Rattle.cedar_terms.specs.declared.ops.UnaryOp.{UnaryOp}
use Rattle.cedar_terms.specs.declared.ops.UnaryOp.TheVariants as Unary
use Rattle.cedar_terms.specs.declared.pattern.PatternElem.{PatternElem}
use Rattle.cedar_terms.specs.Precedences.{infix_precedences, literal_precedence}
use Rattle.cedar_terms.specs.declared.precedence.Precedence.{Precedence}
use Rattle.cedar_terms.specs.declared.precedence.Precedence.TheVariants as precedences
use Rattle.semantics_printing.specs.Phrases.{attribute_text, call_of, conditional_text, field_of, infix_of, member, method_of, path_text, prefix_of, row_text, text_at}

-- signs before the operand, and a method
abbrev pub unary_text : UnaryOp → Text × Precedence → Text × Precedence
unary_text Unary.Not p = prefix_of (codes "!") p
unary_text Unary.Neg p = prefix_of (codes "-") p
unary_text Unary.IsEmpty p = method_of p (codes "isEmpty") []

-- an operator between its operands where it has precedences, else a method
abbrev pub binary_text : Option (Precedence × Precedence × Precedence) → Text → Text × Precedence → Text × Precedence → Text × Precedence
binary_text (Some t) sign p q = infix_of t.0 (text_at t.1 p) sign (text_at t.2 q)
binary_text None sign p q = method_of p sign q.0

-- a pattern between double quotes
abbrev pub quoted_pattern : List PatternElem → Text
quoted_pattern p = 34 ∷ (encode_utf8_all (pattern_text p) ++ (34 ∷ []))

-- what the builder makes of each kind of expression
abbrev pub policy_text_ops : Ops (Text × Precedence) ⊥
policy_text_ops = record {
  lit_of = λ l. (literal_text l, literal_precedence l);
  var_of = λ v. member (var_text v);
  slot_of = λ s. member (slot_text s);
  unknown_of = λ n t. member (codes "unknown(" ++ (quoted n ++ (41 ∷ [])));
  if_of = λ t a b. (conditional_text t.0 a.0 b.0, precedences.Conditional);
  and_of = λ p q. infix_of precedences.And (text_at precedences.And p) (codes "&&") (text_at precedences.Relation q);
  or_of = λ p q. infix_of precedences.Or (text_at precedences.Or p) (codes "||") (text_at precedences.And q);
  unary_of = unary_text;
  binary_of = λ op p q. binary_text (infix_precedences op) (binary_op_text op) p q;
  call_of = λ n ps. Ok (call_of (name_text n) ps);
  get_of = λ p k. member (text_at precedences.Member p ++ attribute_text k);
  has_of = λ p k ks. infix_of precedences.Relation (text_at precedences.Sum p) (codes "has") (path_text k ks);
  like_of = λ p e. infix_of precedences.Relation (text_at precedences.Sum p) (codes "like") (quoted_pattern e);
  set_of = λ ps. member (91 ∷ (row_text ps ++ (93 ∷ [])));
  record_of = λ ps. member (123 ∷ (row_text (map field_of ps) ++ (125 ∷ [])));
  is_of = λ p n. infix_of precedences.Relation (text_at precedences.Sum p) (codes "is") (name_text n);
}
