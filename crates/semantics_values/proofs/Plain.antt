-- Each position of the expression of a value without extension values is a literal, a set or a record.
use Rattle.std.proofs.Common.{◌≡◌, true, false, [], refl, sym, subst}
use Rattle.std.proofs.lemmas.Bool.{true≢false}
use Rattle.std.proofs.lemmas.List.Elements.{All-append, All-cons, All-nil}
use Rattle.std.proofs.lemmas.List.Sums.{list_all-from_AllPass}
use Rattle.std.specs.Prelude.{All}
use Rattle.cedar_terms.specs.Literals.{BareLiteral}
use Rattle.cedar_builders.specs.BareExpr.{BareExpr, Lit, Set, Record, BareExprs, BareFields}
use Rattle.cedar_builders.specs.Environment.{Env}
use Rattle.cedar_builders.specs.Walks.{preorder}
use Rattle.cedar_builders.specs.Restricted.{is_restricted_node, IsRestricted, BindsRestricted}
use Rattle.cedar_builders.specs.Laws.{LeavesNode, BindsNone, LeavesAlone}
use Rattle.semantics_values.specs.BareValue.{BareCall, BareValue, LitValue, SetValue, RecordValue, ExtensionValue, BareValues, no_values, value, BarePairs, no_pairs, pair}
use Rattle.semantics_values.specs.ValueExpr.{value_expr, member_exprs, pair_exprs, has_extension, any_has_extension, any_pair_has_extension}
use Rattle.semantics_values.specs.Laws.{BindsPlainValues}
use Rattle.semantics_values.proofs.Positions.{member_positions, field_positions}
use Rattle.semantics_values.proofs.ReadBack.{or_left, or_right}

-- what holds of such nodes
record HoldsOfPlain (P : BareExpr → Type 0) : Type 0 where
  lit : (l : BareLiteral) → P (Lit l)
  set : (es : BareExprs) → P (Set es)
  record_of : (fs : BareFields) → P (Record fs)

module _ {X : Type 0} (C : X → BareCall) where
  module _ (P : BareExpr → Type 0) (holds : HoldsOfPlain P) where
    mutual
      all_plain : (t : BareValue X) → has_extension t ≡ false → All P (preorder (value_expr C t))
      all_plain (LitValue l) h = All-cons P (Lit l) [] (holds.lit l) (All-nil P)
      all_plain (SetValue ts) h = All-cons P _ _ (holds.set (member_exprs C ts)) (members_plain ts h)
      all_plain (RecordValue ps) h = All-cons P _ _ (holds.record_of (pair_exprs C ps)) (pairs_plain ps h)
      all_plain (ExtensionValue x g) h = absurd (true≢false h)

      members_plain : (ts : BareValues X) → any_has_extension ts ≡ false → All P (member_positions (member_exprs C ts))
      members_plain no_values h = All-nil P
      members_plain (value t ts) h =
          All-append P (preorder (value_expr C t)) (member_positions (member_exprs C ts))
          (all_plain t (or_left (has_extension t) (any_has_extension ts) h))
          (members_plain ts (or_right (has_extension t) (any_has_extension ts) h))

      pairs_plain : (ps : BarePairs X) → any_pair_has_extension ps ≡ false → All P (field_positions (pair_exprs C ps))
      pairs_plain no_pairs h = All-nil P
      pairs_plain (pair k t ps) h =
          All-append P (preorder (value_expr C t)) (field_positions (pair_exprs C ps))
          (all_plain t (or_left (has_extension t) (any_pair_has_extension ps) h))
          (pairs_plain ps (or_right (has_extension t) (any_pair_has_extension ps) h))

  plain_restricted : (t : BareValue X) → has_extension t ≡ false → IsRestricted (value_expr C t)
  plain_restricted t h =
      list_all-from_AllPass is_restricted_node (preorder (value_expr C t))
      (all_plain (λ e. is_restricted_node e ≡ true) (record { lit = λ l. refl; set = λ es. refl; record_of = λ fs. refl }) t h)

  plain_free : (env : Env) (t : BareValue X) → has_extension t ≡ false → BindsNone env (value_expr C t)
  plain_free env t h = all_plain (LeavesNode env) (record { lit = λ l. tt; set = λ es. tt; record_of = λ fs. tt }) t h

  pub binds_restricted : (env : Env) → BindsPlainValues C env → BindsRestricted env
  binds_restricted env h n r is = let v = h n r is in subst IsRestricted (sym v.2) (plain_restricted v.0 v.1)

  pub leaves_alone : (env1 env2 : Env) → BindsPlainValues C env2 → LeavesAlone env1 env2
  leaves_alone env1 env2 h n r is = let v = h n r is in subst (BindsNone env1) (sym v.2) (plain_free env1 v.0 v.1)
