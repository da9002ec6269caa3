-- If each parent has an entry, ancestors stay where entries are added.
use Rattle.std.specs.Prelude.{◌≡◌, List}
use Rattle.std.proofs.Common.{sym, ap, ◌∙◌}
use Rattle.std.specs.declared.cmp.Ordering.{Ordering}
use Rattle.cedar_ancestors.specs.Reaching.{one, more}
use Rattle.cedar_ancestors.specs.Keyed.{entry_at, is_listed, IsParentOf, IsAncestorOf}
use Rattle.cedar_ancestors.specs.Stores.{HasEntry, KnowsAllParents, EntriesStay, AncestorsStay}

module _ {K V : Type 0} (R : K → K → Ordering) (P : V → List K) (m n : List (K × V))
    (known : KnowsAllParents R P m) (stays : EntriesStay R m n) where
  parents_same : (k p : K) → HasEntry R m k
      → is_listed R P (entry_at R m k) p ≡ is_listed R P (entry_at R n k) p
  parents_same k p h = ap (λ e. is_listed R P e p) (h.1 ∙ sym (stays k h.0 h.1))

  to_more : {k a : K} → HasEntry R m k → IsAncestorOf R P m k a → IsAncestorOf R P n k a
  to_more {k} h (one {y = p} r) = one (sym (parents_same k p h) ∙ r)
  to_more {k} h (more {y = p} r q) =
      more (sym (parents_same k p h) ∙ r) (to_more (known k p r) q)

  from_more : {k a : K} → HasEntry R m k → IsAncestorOf R P n k a → IsAncestorOf R P m k a
  from_more {k} h (one {y = p} r) = one (parents_same k p h ∙ r)
  from_more {k} h (more {y = p} r q) =
      let s : IsParentOf R P m k p = parents_same k p h ∙ r in
      more s (from_more (known k p s) q)

pub ancestors_stay : {K V : Type 0} (R : K → K → Ordering) (P : V → List K)
    → AncestorsStay {V = V} R P
ancestors_stay R P m n known stays k a h =
    (to_more R P m n known stays h, from_more R P m n known stays h)
