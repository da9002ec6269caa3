-- Requests that JSON stands for.
use Rattle.std.specs.Prelude.{◌≡◌, ℕ, List, codes, Option, Some, None, ⊤}
use Rattle.std.specs.declared.cmp.Ord as Ord
use Rattle.std.specs.declared.cmp.PartialEq as PartialEq
use Rattle.std.specs.declared.cmp.PartialOrd as PartialOrd
use Rattle.serde_json.specs.Data.{Data}
use Rattle.serde_json.specs.Find.{get}
use Rattle.serde_json.specs.Read.{read}
use Rattle.cedar_terms.specs.Entities.{BareEntityUID}
use Rattle.cedar_terms.specs.Literals.{EntityLit}
use Rattle.cedar_builders.specs.BareExpr.{Text, BareExpr, Lit}
use Rattle.cedar_request.specs.Requests.{uid_if_known, value_of_context}
use Rattle.cedar_request.specs.declared.context.Context.{Context}
use Rattle.cedar_functions.specs.declared.extension.BuiltinExtension.{BuiltinExtension}
use Rattle.cedar_bindings.specs.Requests.{IsMember}
use Rattle.cedar_inputs.specs.Values.{IsValueOf}
use Rattle.cedar_inputs.specs.declared.request.RequestParts.{RequestParts}

-- a member that may be left out
abbrev pub MayStand : {A : Type 0} → (Data → A → Type 0) → Option Data → Option A → Type 0
MayStand P None None = ⊤
MayStand P None (Some a) = ⊥
MayStand P (Some d) None = ⊥
MayStand P (Some d) (Some a) = P d a

-- JSON stands for the entity of the variable with this name
abbrev pub IsEntityMember : Text → Data → BareEntityUID → Type 0
IsEntityMember n d u = IsMember n d (Lit (EntityLit u))

-- o, e and p are the comparisons of extension values
module _ {o : Ord.Ghosts BuiltinExtension} {e : PartialEq.Ghosts BuiltinExtension}
    {p : PartialOrd.Ghosts BuiltinExtension} where
  -- JSON stands for the value of a context
  abbrev pub IsContextOf : Data → Context BuiltinExtension o e p → Type 0
  IsContextOf d c =
      (t : BareExpr) × IsMember (codes "context") d t × IsValueOf t (value_of_context c)

-- the JSON text is an object of these parts
pub record ArePartsOf (text : List ℕ) (q : RequestParts) : Type 0 where
  pub json : Data
  pub parsed : read text ≡ Some json
  pub principal :
      MayStand (IsEntityMember (codes "principal")) (get (codes "principal") json) (uid_if_known q.principal)
  pub action :
      MayStand (IsEntityMember (codes "action")) (get (codes "action") json) (uid_if_known q.action)
  pub resource :
      MayStand (IsEntityMember (codes "resource")) (get (codes "resource") json) (uid_if_known q.resource)
  pub context : MayStand IsContextOf (get (codes "context") json) q.context
