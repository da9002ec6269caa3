-- A name with a namespace stays as it is.
use Rattle.std.proofs.Common.{◌≡◌, ◌≢◌, ℕ, List, [], ◌∷◌, ◌++◌, Option, Some, None, false, refl, sym, ap, ◌∙◌}
use native.Mathlib.Omega.{arith}
use Rattle.std.proofs.lemmas.List.Folds.{list_any-append}
use Rattle.std.specs.Option.{option_map}
use Rattle.cedar_names.specs.declared.name.Name.{Name}
use Rattle.cedar_names.specs.Names.{BareName, qualified, qualified_by, has_reserved}
use Rattle.cedar_names.specs.PlainNames.{bare_name}

stays_by : (p : List (List ℕ)) (n ns : BareName) → n.path ≡ p → p ≢ []
    → qualified_by n.path n.basename ns ≡ n
stays_by [] n ns is h = absurd (h refl)
stays_by (i ∷ is) n ns e h =
    ap (λ q. qualified_by q n.basename ns) e
    ∙ (λ j. record { path = sym e j; basename = n.basename })

pub stays : (n : BareName) (ns : Option BareName) → n.path ≢ [] → qualified n ns ≡ n
stays n None h = refl
stays n (Some ns) h = stays_by n.path n ns refl h

not_empty : (ps : List (List ℕ)) (p : List ℕ) → (ps ++ p ∷ []) ≢ []
not_empty [] p h = cc
not_empty (q ∷ qs) p h = cc

twice_by : (p : List (List ℕ)) (b : List ℕ) (ns : BareName) (further : Option BareName)
    → qualified (qualified_by p b ns) further ≡ qualified_by p b ns
twice_by [] b ns further = stays (qualified_by [] b ns) further (not_empty ns.path ns.basename)
twice_by (i ∷ is) b ns further = stays (qualified_by (i ∷ is) b ns) further (λ h. cc)

pub twice : (n ns : BareName) (further : Option BareName)
    → qualified (qualified n (Some ns)) further ≡ qualified n (Some ns)
twice n ns further = twice_by n.path n.basename ns further

reserved_within : (p : List (List ℕ)) (b : List ℕ) (ns : BareName)
    → has_reserved (record { path = p; basename = b }) ≡ false → has_reserved ns ≡ false
    → has_reserved (qualified_by p b ns) ≡ false
reserved_within [] b ns h k = grind (arith, list_any-append)
reserved_within (i ∷ is) b ns h k = h

-- nothing reserved comes of names that are not
pub unreserved : (n : Name) (ns : Option Name)
    → has_reserved (qualified (bare_name n) (option_map bare_name ns)) ≡ false
unreserved n None = n.not_reserved
unreserved n (Some ns) =
    reserved_within (bare_name n).path (bare_name n).basename (bare_name ns) n.not_reserved
    ns.not_reserved
