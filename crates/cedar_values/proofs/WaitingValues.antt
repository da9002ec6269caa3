-- What waits on a walk over the values inside of a value, and how many values that is.
use Rattle.std.proofs.Common.{◌≡◌, ℕ, suc, ◌+◌, ◌<◌, List, [], ◌∷◌, ◌++◌, map, refl, sym, ap, ◌∙◌, arith, Global, BTreeMap}
use Rattle.std.proofs.lemmas.List.{map_push}
use Rattle.std.specs.declared.rc.Rc.{Rc}
use Rattle.std.specs.declared.rc.RcStr.{RcStr}
use Rattle.cedar_exprs.specs.Walks.{referents}
use Rattle.semantics_values.specs.BareValue.{RecordValue}
use Rattle.cedar_values.specs.BareValues.{kind_of}
use Rattle.cedar_values.specs.Conversions.{bare_pairs}
use Rattle.cedar_values.specs.Counts.{kind_nodes, nodes, nodes_of, pair_nodes}
use Rattle.cedar_values.specs.Sets.{members}
use Rattle.cedar_values.specs.declared.set.Set as set_of
use Rattle.cedar_values.specs.declared.value.Value.{Value}
use Rattle.cedar_values.specs.declared.value.ValueKind.{ValueKind}
use Rattle.cedar_values.specs.declared.value.ValueKind.TheVariants as ValueOf
use Rattle.cedar_values.proofs.Levels.{record_tree, set_tree, value_tree}
use denote.Ref.{Bor}

module _ {X : Type 0} where
  abbrev pub all_nodes : List (ValueKind X) → ℕ
  all_nodes [] = 0
  all_nodes (k ∷ ks) = kind_nodes k + all_nodes ks

  all_nodes-append : (ks ls : List (ValueKind X)) → all_nodes (ks ++ ls) ≡ all_nodes ks + all_nodes ls
  all_nodes-append [] ls = omega arith
  all_nodes-append (k ∷ ks) ls = omega (arith, all_nodes-append ks ls)

  abbrev pub nodes_in : List (Bor (ValueKind X)) → ℕ
  nodes_in ks = all_nodes (referents ks)

  -- the last is taken off
  module _ (all ks : List (Bor (ValueKind X))) (k : Bor (ValueKind X)) (is : all ≡ ks ++ k ∷ []) where
    pub referents_are : referents all ≡ referents ks ++ k.now ∷ []
    referents_are = ap referents is ∙ map_push (λ x. x.now) ks k

    pub nodes_taken : nodes_in all ≡ nodes_in ks + kind_nodes k.now
    nodes_taken = ap all_nodes referents_are ∙ all_nodes-append (referents ks) (k.now ∷ []) ∙ omega arith

  -- these are put behind the others
  module _ (ks new : List (Bor (ValueKind X))) (more : List (ValueKind X)) (put : referents new ≡ referents ks ++ more) where
    pub nodes_put : nodes_in new ≡ nodes_in ks + all_nodes more
    nodes_put = ap all_nodes put ∙ all_nodes-append (referents ks) more

  members_count : (vs : List (Value X)) → nodes_of vs ≡ all_nodes (map kind_of vs)
  members_count [] = refl
  members_count (v ∷ vs) = λ i. nodes (value_tree v i) + members_count vs i

  pairs_count : (es : List (RcStr Global × Value X)) → pair_nodes (bare_pairs es) ≡ all_nodes (map (λ e. kind_of e.1) es)
  pairs_count [] = refl
  pairs_count (e ∷ es) = λ i. nodes (value_tree e.1 i) + pairs_count es i

  module _ (k : ValueKind X) (s : set_of.Set X) (is : k ≡ ValueOf.Set s) where
    pub set_count : kind_nodes k ≡ suc (all_nodes (map kind_of (members s)))
    set_count = ap kind_nodes is ∙ ap nodes (set_tree s) ∙ ap suc (members_count (members s))

  module _ (k : ValueKind X) (m : Rc (BTreeMap (RcStr Global) (Value X)) Global) (is : k ≡ ValueOf.Record m) (es : List (RcStr Global × Value X)) (all : es ≡ m.value.entries) where
    pub record_count : kind_nodes k ≡ suc (all_nodes (map (λ e. kind_of e.1) es))
    record_count = ap kind_nodes is ∙ ap nodes (record_tree m) ∙ ap (λ es. nodes (RecordValue (bare_pairs es))) (sym all) ∙ ap suc (pairs_count es)
