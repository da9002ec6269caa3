-- The parts of a request that JSON stands for.
use Rattle.std.proofs.Common.{◌≡◌, ℕ, List, Option, Some, codes, subst}
use Rattle.serde_json.specs.Data.{Data}
use Rattle.serde_json.specs.Find.{get}
use Rattle.serde_json.specs.Read.{read}
use Rattle.cedar_request.specs.Requests.{uid_if_known}
use Rattle.cedar_inputs.specs.Requests.{ArePartsOf, IsContextOf, IsEntityMember, MayStand}
use Rattle.cedar_inputs.specs.declared.request.RequestParts.{RequestParts}

pub parts_made : (text : List ℕ) (d : Data) (q : RequestParts) (a b c e : Option Data)
    → read text ≡ Some d
    → a ≡ get (codes "principal") d → b ≡ get (codes "action") d → c ≡ get (codes "resource") d
    → e ≡ get (codes "context") d
    → MayStand (IsEntityMember (codes "principal")) a (uid_if_known q.principal)
    → MayStand (IsEntityMember (codes "action")) b (uid_if_known q.action)
    → MayStand (IsEntityMember (codes "resource")) c (uid_if_known q.resource)
    → MayStand IsContextOf e q.context → ArePartsOf text q
parts_made text d q a b c e parsed at_a at_b at_c at_e h i j k = record {
  json = d;
  parsed = parsed;
  principal =
      subst (λ o. MayStand (IsEntityMember (codes "principal")) o (uid_if_known q.principal)) at_a h;
  action = subst (λ o. MayStand (IsEntityMember (codes "action")) o (uid_if_known q.action)) at_b i;
  resource =
      subst (λ o. MayStand (IsEntityMember (codes "resource")) o (uid_if_known q.resource)) at_c j;
  context = subst (λ o. MayStand IsContextOf o q.context) at_e k;
}
