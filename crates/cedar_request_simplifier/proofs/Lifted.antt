-- Values without extension values are values of any type of these, with the same expression.
use Rattle.std.proofs.Common.{◌≡◌, false, ◌||◌, refl, ap, ◌∙◌}
use Rattle.std.proofs.lemmas.Bool.{or_parts}
use Rattle.cedar_builders.specs.BareExpr.{tree, field, Set, Record}
use Rattle.cedar_builders.specs.Environment.{Env}
use Rattle.semantics_values.specs.BareValue.{BareCall, BareValue, LitValue, SetValue, RecordValue, ExtensionValue, BareValues, no_values, value, BarePairs, no_pairs, pair}
use Rattle.semantics_values.specs.Laws.{BindsPlainValues}
use Rattle.semantics_values.specs.ValueExpr.{value_expr, member_exprs, pair_exprs, has_extension, any_has_extension, any_pair_has_extension}

module _ {X Y : Type 0} (C : X → BareCall) (H : Y → BareCall) where
  abbrev mutual
    lifted : BareValue Y → BareValue X
    lifted (LitValue l) = LitValue l
    lifted (SetValue ts) = SetValue (all_lifted ts)
    lifted (RecordValue ps) = RecordValue (pairs_lifted ps)
    lifted (ExtensionValue x g) = RecordValue no_pairs

    all_lifted : BareValues Y → BareValues X
    all_lifted no_values = no_values
    all_lifted (value t ts) = value (lifted t) (all_lifted ts)

    pairs_lifted : BarePairs Y → BarePairs X
    pairs_lifted no_pairs = no_pairs
    pairs_lifted (pair k t ps) = pair k (lifted t) (pairs_lifted ps)

  mutual
    none : (t : BareValue Y) → has_extension (lifted t) ≡ false
    none (LitValue l) = refl
    none (SetValue ts) = none_in_any ts
    none (RecordValue ps) = none_in_pairs ps
    none (ExtensionValue x g) = refl

    none_in_any : (ts : BareValues Y) → any_has_extension (all_lifted ts) ≡ false
    none_in_any no_values = refl
    none_in_any (value t ts) = λ i. none t i || none_in_any ts i

    none_in_pairs : (ps : BarePairs Y) → any_pair_has_extension (pairs_lifted ps) ≡ false
    none_in_pairs no_pairs = refl
    none_in_pairs (pair k t ps) = λ i. none t i || none_in_pairs ps i

  mutual
    same : (t : BareValue Y) → has_extension t ≡ false
        → value_expr H t ≡ value_expr C (lifted t)
    same (LitValue l) h = refl
    same (SetValue ts) h = ap Set (all_same ts h)
    same (RecordValue ps) h = ap Record (pairs_same ps h)
    same (ExtensionValue x g) h = cc

    all_same : (ts : BareValues Y) → any_has_extension ts ≡ false
        → member_exprs H ts ≡ member_exprs C (all_lifted ts)
    all_same no_values h = refl
    all_same (value t ts) h =
        let parts = or_parts (has_extension t) (any_has_extension ts) h in
        λ i. tree (same t parts.0 i) (all_same ts parts.1 i)

    pairs_same : (ps : BarePairs Y) → any_pair_has_extension ps ≡ false
        → pair_exprs H ps ≡ pair_exprs C (pairs_lifted ps)
    pairs_same no_pairs h = refl
    pairs_same (pair k t ps) h =
        let parts = or_parts (has_extension t) (any_pair_has_extension ps) h in
        λ i. field k (same t parts.0 i) (pairs_same ps parts.1 i)

  -- what binds such values binds values of the other type
  pub lifted_values : (env : Env) → BindsPlainValues H env → BindsPlainValues C env
  lifted_values env plain n r is =
      let bare = plain n r is in
      (lifted bare.0, none bare.0, bare.2 ∙ same bare.0 bare.1)
