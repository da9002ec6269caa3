-- The expression of a value holds a call exactly where an extension value is inside.
use Rattle.std.proofs.Common.{◌≡◌, refl, ◌∙◌, ap, Bool, true, false, not, ◌&&◌, ◌||◌, List}
use Rattle.std.specs.List.{list_all}
use Rattle.cedar_builders.specs.BareExpr.{BareExpr, Set, Record}
use Rattle.cedar_builders.specs.Walks.{members_of, values_of}
use Rattle.semantics_values.specs.BareValue.{BareCall, BareValue, LitValue, SetValue, RecordValue, ExtensionValue, BareValues, no_values, value, BarePairs, no_pairs, pair}
use Rattle.semantics_values.specs.ValueExpr.{value_expr, member_exprs, pair_exprs, has_extension, any_has_extension, any_pair_has_extension}
use Rattle.semantics_simplify.specs.Asks.{is_no_call, holds_no_call}
use Rattle.semantics_simplify.specs.Laws.{AsksByChildren}

neither : (a b : Bool) → (not a && not b) ≡ not (a || b)
neither true b = refl
neither false b = refl

module _ (law : AsksByChildren) {X : Type 0} (C : X → BareCall) where
  mutual
    pub value_calls : (t : BareValue X) → holds_no_call (value_expr C t) ≡ not (has_extension t)
    value_calls (LitValue l) = law is_no_call (value_expr C (LitValue l))
    value_calls (SetValue ts) = law is_no_call (value_expr C (SetValue ts)) ∙ members_call ts
    value_calls (RecordValue ps) = law is_no_call (value_expr C (RecordValue ps)) ∙ pairs_call ps
    value_calls (ExtensionValue x g) = law is_no_call (value_expr C (ExtensionValue x g))

    members_call : (ts : BareValues X)
        → list_all holds_no_call (members_of (member_exprs C ts)) ≡ not (any_has_extension ts)
    members_call no_values = refl
    members_call (value t ts) =
        (λ i. value_calls t i && members_call ts i)
        ∙ neither (has_extension t) (any_has_extension ts)

    pairs_call : (ps : BarePairs X)
        → list_all holds_no_call (values_of (pair_exprs C ps)) ≡ not (any_pair_has_extension ps)
    pairs_call no_pairs = refl
    pairs_call (pair k t ps) =
        (λ i. value_calls t i && pairs_call ps i)
        ∙ neither (has_extension t) (any_pair_has_extension ps)
