-- The identifiers of policies in a text: that of the annotation `id`, else `policy` and the policy's number, from 0 on.
use Rattle.std.specs.Prelude.{ℕ, suc, List, [], ◌∷◌, ◌++◌, codes, Option, Some, None, if◌then◌else◌}
use Rattle.std.specs.Fmt.{decimal}
use Rattle.std.specs.Str.{bytes_eq}
use Rattle.cedar_builders.specs.BareExpr.{Text}
use Rattle.semantics_policies.specs.Policies.{BarePolicy}

-- the text of the annotation with this key, if there is one
abbrev pub annotation_of : Text → List (Text × Text) → Option Text
annotation_of k [] = None
annotation_of k (a ∷ more) = if bytes_eq a.0 k then Some a.1 else annotation_of k more

-- the text, or that of the policy's number
abbrev pub id_or : ℕ → Option Text → Text
id_or n (Some t) = t
id_or n None = codes "policy" ++ decimal n

-- the identifier of a policy with this number
abbrev pub policy_id : ℕ → BarePolicy → Text
policy_id n p = id_or n (annotation_of (codes "id") p.annotations)

-- the identifiers of policies with numbers from this one on
abbrev pub policy_ids : ℕ → List BarePolicy → List Text
policy_ids n [] = []
policy_ids n (p ∷ ps) = policy_id n p ∷ policy_ids (suc n) ps
