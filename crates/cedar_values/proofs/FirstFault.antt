-- The first node that is no literal, set or record, from a node to its children.
use Rattle.std.proofs.Common.{◌≡◌, List, ◌∷◌, map, true, false, Option, Some, None, option_map, refl, sym, ap, ◌∙◌, subst, Global, BTreeMap, Vec, Result, Ok, Err}
use Rattle.std.specs.Option.{option_or, is_none}
use Rattle.std.specs.Result.{MatchResult}
use Rattle.std.specs.declared.rc.Rc.{Rc}
use Rattle.std.specs.declared.rc.RcStr.{RcStr}
use Rattle.cedar_names.specs.Place.{Place}
use Rattle.cedar_exprs.specs.BareExpr.{ExprKind, bare_expr, expr_place, kind_of}
use Rattle.cedar_exprs.specs.FirstNodes.{InPreorder, at_node, decided, split}
use Rattle.cedar_exprs.specs.Walks.{kind_children}
use Rattle.cedar_exprs.specs.declared.expr.Expr.{Expr}
use Rattle.cedar_exprs.specs.declared.expr.KindOf.TheVariants.{Set, Record}
use Rattle.semantics_values.specs.Reading.{is_readable_node, is_readable}
use Rattle.cedar_values.specs.NotReadable.{first_not_readable, first_not_readable_of, IsNotValueAt, IsAnswerWhere}
use Rattle.cedar_values.specs.declared.not_value.NotValue.{NotValue}
use Rattle.cedar_values.specs.declared.not_value.NotValue.TheVariants as error
use Rattle.cedar_values.proofs.ExprLevels.{bare_at_set, bare_at_record}

is_none_is : {A : Type 0} (r : Option A) → is_none r ≡ true → r ≡ None
is_none_is None h = refl
is_none_is (Some x) h = cc

module _ {T : Type 0} (o : InPreorder T) where
  -- a node of another kind is the first itself
  pub other : (e : Expr T) (loc : Option Place) → is_readable_node (bare_expr e) ≡ false → loc ≡ expr_place e → option_map expr_place (first_not_readable e) ≡ Some loc
  other e loc h is = ap (option_map expr_place) (at_node o is_readable_node false e h) ∙ ap Some (sym is)

  -- a set and a record have the first of what is in them
  below : (e : Expr T) (k : ExprKind T) → kind_of e ≡ k → is_readable_node (bare_expr e) ≡ true → first_not_readable_of (kind_children k) ≡ first_not_readable e
  below e k is h = sym (at_node o is_readable_node true e h ∙ ap (λ k. first_not_readable_of (kind_children k)) is)

  pub passes_set : (e : Expr T) (es : Rc (Vec (Expr T) Global) Global) (v : Vec (Expr T) Global) → kind_of e ≡ Set es → v ≡ es.value → first_not_readable_of v.items ≡ first_not_readable e
  passes_set e es v is at =
      ap (λ (w : Vec (Expr T) Global). first_not_readable_of w.items) at ∙ below e (Set es) is (ap is_readable_node (bare_at_set e es is))

  pub passes_record : (e : Expr T) (es : Rc (BTreeMap (RcStr Global) (Expr T)) Global) (v : BTreeMap (RcStr Global) (Expr T)) → kind_of e ≡ Record es → v ≡ es.value → first_not_readable_of (map (λ e. e.1) v.entries) ≡ first_not_readable e
  passes_record e es v is at =
      ap (λ (w : BTreeMap (RcStr Global) (Expr T)). first_not_readable_of (map (λ e. e.1) w.entries)) at
      ∙ below e (Record es) is (ap is_readable_node (bare_at_record e es is))

  -- no such node is found just in readable expressions
  all_pass : (e : Expr T) → is_none (first_not_readable e) ≡ is_readable (bare_expr e)
  all_pass = decided o is_readable_node

  pub none_in_readable : (e : Expr T) → is_readable (bare_expr e) ≡ true → first_not_readable e ≡ None
  none_in_readable e h = is_none_is _ (all_pass e ∙ h)

  found_none : (e : Expr T) (r : Option (Expr T)) (loc : Option Place) → first_not_readable e ≡ r → option_map expr_place r ≡ Some loc → is_readable (bare_expr e) ≡ false
  found_none e None loc is h = cc
  found_none e (Some x) loc is h = sym (all_pass e) ∙ ap is_none is

  -- an answer comes just of readable expressions
  pub answered : {A : Type 0} (e : Expr T) (P : A → Type 0) → ((a : A) → P a → is_readable (bare_expr e) ≡ true) → (r : Result A NotValue) → MatchResult r P (IsNotValueAt (first_not_readable e)) → IsAnswerWhere (is_readable (bare_expr e)) r
  answered e P read (Ok a) h = read a h
  answered e P read (Err (error.NotValue loc)) h = found_none e (first_not_readable e) loc refl h
  answered e P read (Err error.Memory) h = tt

-- a refusal of the first is one of both
place_of_first : {T : Type 0} (r s : Option (Expr T)) (p : Option Place) → option_map expr_place r ≡ Some p → option_map expr_place (option_or r s) ≡ Some p
place_of_first None s p h = cc
place_of_first (Some x) s p h = h

refused_first : {T : Type 0} (r s : Option (Expr T)) (d : NotValue) → IsNotValueAt r d → IsNotValueAt (option_or r s) d
refused_first r s (error.NotValue loc) h = place_of_first r s loc h
refused_first r s error.Memory h = tt

-- one turn: what is left begins with an expression
module _ {T : Type 0} (all : List (Expr T)) (e : Expr T) (es : List (Expr T)) (w : Option (Expr T)) (steps : all ≡ e ∷ es) (left : first_not_readable_of all ≡ w) where
  pub refused : (d : NotValue) → IsNotValueAt (first_not_readable e) d → IsNotValueAt w d
  refused d h = subst (λ r. IsNotValueAt r d) (split is_readable_node e all es w steps left) (refused_first _ _ d h)
