-- The texts of expressions, in prefix form.
use Rattle.std.specs.Prelude.{List, [], ◌∷◌, ◌++◌, map, codes, Option, None, Some, Ok}
use Rattle.std.specs.List.{flat_map}
use Rattle.std.specs.Str.{encode_utf8_all}
use Rattle.cedar_names.specs.Names.{name_text}
use Rattle.cedar_names.specs.Slots.{slot_text}
use Rattle.cedar_terms.specs.Escape.{quoted}
use Rattle.cedar_terms.specs.Literals.{bare_literal, literal_text}
use Rattle.cedar_terms.specs.Ops.{unary_op_text, binary_op_text, var_text}
use Rattle.cedar_terms.specs.Patterns.{pattern_text}
use Rattle.cedar_terms.specs.Types.{BareType, type_text}
use Rattle.cedar_terms.specs.declared.pattern.PatternElem.{PatternElem}
use Rattle.cedar_builders.specs.BareExpr.{Text}
use Rattle.cedar_builders.specs.Ops.{Ops}
use Rattle.cedar_builders.specs.Ropes.{text_of as rope_text}
use Rattle.cedar_sketch.specs.declared.Form.{Form}
use Rattle.cedar_sketch.specs.declared.Form.TheVariants.{Literal, Var, Slot, List as list}
use Rattle.cedar_sketch.specs.declared.OpenList.{OpenList}
use Rattle.cedar_sketch.specs.declared.SExpression.{SExpression}

-- each text behind a space
abbrev pub spaced_text : List Text → Text
spaced_text = flat_map (λ t. 32 ∷ t)

-- a word and the texts that follow it, in round brackets
abbrev pub list_text : Text → List Text → Text
list_text word ts = 40 ∷ (word ++ (spaced_text ts ++ (41 ∷ [])))

-- the type of an unknown, if it has one
abbrev pub annotation_texts : Option BareType → List Text
annotation_texts None = []
annotation_texts (Some ty) = type_text ty ∷ []

-- a pattern between double quotes
abbrev pub quoted_pattern : List PatternElem → Text
quoted_pattern p = 34 ∷ (encode_utf8_all (pattern_text p) ++ (34 ∷ []))

-- a key of a record and its value
abbrev pub pair_text : Text × Text → Text
pair_text p = list_text (quoted p.0) (p.1 ∷ [])

-- the text of each kind of expression
abbrev pub sketch_ops : Ops Text ⊥
sketch_ops = record {
  lit_of = literal_text;
  var_of = var_text;
  slot_of = slot_text;
  unknown_of = λ n t. list_text (codes "unknown") (n ∷ annotation_texts t);
  if_of = λ t a b. list_text (codes "if") (t ∷ a ∷ b ∷ []);
  and_of = λ l r. list_text (codes "and") (l ∷ r ∷ []);
  or_of = λ l r. list_text (codes "or") (l ∷ r ∷ []);
  unary_of = λ op a. list_text (unary_op_text op) (a ∷ []);
  binary_of = λ op a b. list_text (binary_op_text op) (a ∷ b ∷ []);
  call_of = λ n ts. Ok (list_text (codes "call") (name_text n ∷ ts));
  get_of = λ e k. list_text (codes "get") (e ∷ quoted k ∷ []);
  has_of = λ e k ks. list_text (codes "has") (e ∷ quoted k ∷ map quoted ks);
  like_of = λ e p. list_text (codes "like") (e ∷ quoted_pattern p ∷ []);
  set_of = λ ts. list_text (codes "set") ts;
  record_of = λ ps. list_text (codes "record") (map pair_text ps);
  is_of = λ e n. list_text (codes "is") (e ∷ name_text n ∷ []);
}

-- the text of a list so far
abbrev pub joined : OpenList → Text
joined l = rope_text l.text

-- the text of what an S-expression is made of
abbrev pub form_text : Form → Text
form_text (Literal l) = literal_text (bare_literal l)
form_text (Var v) = var_text v
form_text (Slot s) = slot_text s
form_text (list rope) = rope_text rope

-- the text of an S-expression
abbrev pub text_of : SExpression → Text
text_of e = form_text e.form
