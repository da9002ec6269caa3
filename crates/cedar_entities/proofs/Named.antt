-- Look-ups of values by name.
use Rattle.std.proofs.Common.{◌≡◌, Bool, true, false, List, [], ◌∷◌, Option, Some, option_map, cond, nat_cmp, nat_eq, refl, sym, ap, ◌∙◌}
use Rattle.std.specs.BTreeMap.{is_at}
use Rattle.std.specs.Cmp.Lexicographic.{pointwise, slice_cmp, texts_ties}
use Rattle.std.specs.Global.{Global}
use Rattle.std.specs.Map.{lookup}
use Rattle.std.specs.Rc.{rc_str_bytes}
use Rattle.std.specs.declared.rc.RcStr.{RcStr}
use Rattle.cedar_builders.specs.BareExpr.{Text}
use Rattle.cedar_builders.specs.Keys.{meant_pairs}
use Rattle.semantics_values.specs.BareValue.{BareValue, pairs_of}
use Rattle.semantics_eval.specs.Attributes.{value_at, list_of_pairs_of}

module _ {V : Type 0} (k : Text) where
  -- a look-up of a map
  pub look_up : (es : List (RcStr Global × V))
      → lookup (is_at (λ l. slice_cmp nat_cmp k (rc_str_bytes l))) es
      ≡ lookup (λ name. pointwise nat_eq k (rc_str_bytes name)) es
  look_up [] = refl
  look_up (e ∷ es) = λ i.
      cond (sym (texts_ties k (rc_str_bytes e.0)) i) (Some e.1) (look_up es i)

  module _ {X : Type 0} (tree : V → BareValue X) where
    on_cond : (b : Bool) (v : V) (o : Option V)
        → option_map tree (cond b (Some v) o) ≡ cond b (Some (tree v)) (option_map tree o)
    on_cond true v o = refl
    on_cond false v o = refl

    on_pairs : (es : List (RcStr Global × V))
        → option_map tree (lookup (λ name. pointwise nat_eq k (rc_str_bytes name)) es)
        ≡ lookup (pointwise nat_eq k) (meant_pairs tree es)
    on_pairs [] = refl
    on_pairs (e ∷ es) =
        on_cond (pointwise nat_eq k (rc_str_bytes e.0)) e.1
        (lookup (λ name. pointwise nat_eq k (rc_str_bytes name)) es)
        ∙ ap (cond (pointwise nat_eq k (rc_str_bytes e.0)) (Some (tree e.1))) (on_pairs es)

    -- the tree of what is found
    pub tree_named : (es : List (RcStr Global × V))
        → option_map tree (lookup (λ name. pointwise nat_eq k (rc_str_bytes name)) es)
        ≡ value_at k (pairs_of (meant_pairs tree es))
    tree_named es =
        on_pairs es ∙ sym (ap (lookup (pointwise nat_eq k)) (list_of_pairs_of (meant_pairs tree es)))
