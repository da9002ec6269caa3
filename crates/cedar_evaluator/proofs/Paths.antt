-- Attributes, and paths of attributes.
use Rattle.std.proofs.Common.{◌≡◌, Bool, IsTrue, true, false, Bor, BTreeMap, List, [], ◌∷◌, Option, Some, None, IfSome, option_map, Err, cond, nat_cmp, refl, sym, subst, ◌∙◌}
use Rattle.std.specs.BTreeMap.{is_at}
use Rattle.std.specs.declared.cmp.Ordering.{Ordering}
use Rattle.std.specs.Cmp.Lexicographic.{slice_cmp, texts_ties}
use Rattle.std.specs.Global.{Global}
use Rattle.std.specs.List.{list_all}
use Rattle.std.specs.Map.{lookup}
use Rattle.std.specs.Option.{option_copied}
use Rattle.std.specs.Rc.{rc_str_bytes}
use Rattle.std.specs.declared.rc.RcStr.{RcStr}
use Rattle.std.proofs.lemmas.Bool.{and_parts}
use Rattle.cedar_builders.specs.BareExpr.{Text}
use Rattle.cedar_builders.specs.Keys.{meant_pairs}
use Rattle.cedar_values.specs.BareValues.{bare_value}
use Rattle.cedar_values.specs.WellFormed.{well_formed}
use Rattle.cedar_values.specs.declared.value.Value.{Value}
use Rattle.semantics_eval.specs.Attributes.{has_path}
use Rattle.semantics_eval.specs.Outcomes.{Fault}
use Rattle.cedar_evaluator.specs.Kinds.{at_key}

module _ {V B : Type 0} where
  pub copied_map : (f : V → B) (o : Option (Bor V))
      → option_map (λ v. f v.now) o ≡ option_map f (option_copied o)
  copied_map f None = refl
  copied_map f (Some v) = refl

  map_cond : (f : V → B) (b : Bool) (v : V) (o : Option V)
      → option_map f (cond b (Some v) o) ≡ cond b (Some (f v)) (option_map f o)
  map_cond f true v o = refl
  map_cond f false v o = refl

module _ {V : Type 0} where
  copied_if : (P : V → Type 0) (o : Option (Bor V)) → IfSome (option_copied o) P
      → IfSome o (λ v. P v.now)
  copied_if P None h = tt
  copied_if P (Some v) h = h

  if_cond : (P : V → Type 0) (b : Bool) (v : V) (o : Option V) → P v → IfSome o P
      → IfSome (cond b (Some v) o) P
  if_cond P true v o h g = h
  if_cond P false v o h g = g

module _ {X : Type 0} where
  -- what a record has at a key
  pub looked_up : (k : Text) (es : List (RcStr Global × Value X))
      → option_map bare_value (lookup (is_at (λ l. slice_cmp nat_cmp k (rc_str_bytes l))) es)
      ≡ at_key k (meant_pairs bare_value es)
  looked_up k [] = refl
  looked_up k (e ∷ es) =
      map_cond bare_value (is_at (λ l. slice_cmp nat_cmp k (rc_str_bytes l)) e.0) e.1
      (lookup (is_at (λ l. slice_cmp nat_cmp k (rc_str_bytes l))) es)
      ∙ λ i. cond (sym (texts_ties k (rc_str_bytes e.0)) i) (Some (bare_value e.1))
      (looked_up k es i)

  -- it is one of its values
  kept_at : (P : Value X → Bool) (f : RcStr Global → Bool) (es : List (RcStr Global × Value X))
      → list_all (λ e. P e.1) es ≡ true → IfSome (lookup f es) (λ v. P v ≡ true)
  kept_at P f [] h = tt
  kept_at P f (e ∷ es) h =
      if_cond (λ v. P v ≡ true) (f e.0) e.1 (lookup f es) (and_parts (P e.1) _ h).0
      (kept_at P f es (and_parts (P e.1) _ h).1)

  -- so is what a look-up lends
  pub found_kept : (P : Value X → Bool) (f : RcStr Global → Bool)
      (es : List (RcStr Global × Value X)) (o : Option (Bor (Value X)))
      → option_copied o ≡ lookup f es → list_all (λ e. P e.1) es ≡ true
      → IfSome o (λ v. P v.now ≡ true)
  found_kept P f es o is h =
      copied_if (λ v. P v ≡ true) o
      (subst (λ r. IfSome r (λ v. P v ≡ true)) (sym is) (kept_at P f es h))

  -- a fault in the value's place answers
  pub fault_path : (f : Fault) (k : Text) (js : List Text) → has_path {X = X} (Err f) k js ≡ Err f
  fault_path f k [] = refl
  fault_path f k (j ∷ js) = refl

-- the values of equal maps are well formed alike
pub entries_kept : {X : Type 0} (R : X → X → Ordering) {a b : BTreeMap (RcStr Global) (Value X)}
    → a ≡ b → IsTrue (list_all (λ e. well_formed R e.1) b.entries)
    → IsTrue (list_all (λ e. well_formed R e.1) a.entries)
entries_kept R is kept =
    subst (λ m. IsTrue (list_all (λ e. well_formed R e.1) m.entries)) (sym is) kept
