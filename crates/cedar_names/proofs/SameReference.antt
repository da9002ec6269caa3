-- Two references are equal exactly where their raw names, possibilities and kinds are.
use Rattle.std.proofs.Common.{rules, ◌≡◌, List, ◌&&◌, map, subst}
use Rattle.std.specs.Bool.{Decides}
use Rattle.std.specs.Cmp.Lexicographic.{pointwise, pointwise_decides}
use Rattle.std.specs.Cmp.Derive.Mapped.{pointwise-map}
use Rattle.std.specs.Ordering.{on}
use Rattle.std.proofs.lemmas.Bool.Decides.{Decides-and, Decides-like}
use denote.Enum.Bare.{sameb, same_true, true_same}
use Rattle.cedar_names.specs.contracts.raw_name.ReferenceType.{the_type}
use Rattle.cedar_names.specs.declared.internal_name.InternalName.{InternalName}
use Rattle.cedar_names.specs.declared.raw_name.ReferenceType.{ReferenceType}
use Rattle.cedar_names.specs.declared.raw_name.ConditionalName.{ConditionalName}
use Rattle.cedar_names.specs.NameOrder.{name_eq, name_eq_decides}
use Rattle.cedar_names.specs.InternalNames.{bare_internal_name}
use Rattle.cedar_names.specs.RawNames.{bare_raw_name, raw_of, possibilities_of, kind_of, IsSameReference}

possibilities_decide : (xs ys : List InternalName) → Decides (pointwise (on bare_internal_name name_eq) xs ys) (map bare_internal_name xs ≡ map bare_internal_name ys)
possibilities_decide xs ys =
    subst (λ b. Decides b (map bare_internal_name xs ≡ map bare_internal_name ys)) (pointwise-map bare_internal_name name_eq xs ys) (pointwise_decides name_eq_decides (map bare_internal_name xs) (map bare_internal_name ys))

kinds_decide : (a b : ReferenceType) → Decides (sameb the_type a b) (a ≡ b)
kinds_decide a b = (same_true the_type (search rules) a b, true_same the_type a b)

pub references_decide : (c d : ConditionalName) → Decides (pointwise (on bare_internal_name name_eq) (possibilities_of c) (possibilities_of d) && (sameb the_type (kind_of c) (kind_of d) && on bare_raw_name name_eq (raw_of c) (raw_of d))) (IsSameReference c d)
references_decide c d = Decides-like _
    (λ h. record { raw = h.1.1; possibilities = h.0; kind = h.1.0 })
    (λ e. (e.possibilities, (e.kind, e.raw)))
    (Decides-and _ _ (possibilities_decide (possibilities_of c) (possibilities_of d))
    (Decides-and _ _ (kinds_decide (kind_of c) (kind_of d)) (name_eq_decides (bare_raw_name (raw_of c)) (bare_raw_name (raw_of d)))))
