-- JSON stands for one thing at most.
use Rattle.std.proofs.Common.{◌≡◌, List, [], ◌∷◌, Option, Some, None, refl, sym, ◌∙◌, ap, subst}
use Rattle.std.proofs.lemmas.Option.{same_Some}
use Rattle.std.specs.Prelude.{codes, unwrap_or}
use Rattle.serde_json.specs.Data.{Data, null, boolean, number, string, array, object, Items, no_items, item, Members, no_members, member}
use Rattle.serde_json.specs.Find.{get, get_member}
use Rattle.cedar_names.specs.Names.{BareName, IsNameOfIds, name_text}
use Rattle.cedar_terms.specs.Entities.{BareEntityUID}
use Rattle.cedar_terms.specs.Literals.{EntityLit}
use Rattle.cedar_builders.specs.BareExpr.{Text, BareExpr, Lit, ExtensionFunctionApp, Set, trees_of}
use Rattle.cedar_json.specs.Values.{AreEach, AreFields, AreMembers, ArgumentBy, IsArgument, IsCallOf, IsEntity, IsLiteral, IsNameIn, IsNamedCall, ObjectBy, StandsFor, record_tree}
use Rattle.cedar_json.specs.Entities.{AreAttributes, AreEntities, AreParents, EntityParts, Has, IsEntityJson, IsUid, MayHave}
use Rattle.cedar_json.proofs.Rows.{both, each_same}

module _ (names : (m n : BareName) → IsNameOfIds m → IsNameOfIds n → name_text m ≡ name_text n → m ≡ n) where
  pub one_name : (s : Text) (m n : BareName) → IsNameIn s m → IsNameIn s n → m ≡ n
  one_name s m n h k = names m n h.0.0 k.0.0 (h.0.1 ∙ sym k.0.1)

  pub one_entity : (d : Data) (u v : BareEntityUID) → IsEntity d u → IsEntity d v → u ≡ v
  one_entity d u v h k =
      let same = same_Some h.written k.written (sym h.typed ∙ k.typed) in
      let ty = one_name k.written u.entity_type v.entity_type
      (subst (λ s. IsNameIn s u.entity_type) same h.named) k.named in
      let id = same_Some u.eid v.eid (sym h.identified ∙ k.identified) in
      both (λ t i. record { entity_type = t; eid = i }) ty id

  pub one_literal : (d : Data) (e f : BareExpr) → IsLiteral d e → IsLiteral d f → e ≡ f
  one_literal null e f h k = elim h [ ]
  one_literal (boolean b) e f h k = h ∙ sym k
  one_literal (number n) e f h k = same_Some e f (sym h ∙ k)
  one_literal (string s) e f h k = h ∙ sym k
  one_literal (array ds) e f h k = elim h [ ]
  one_literal (object ms) e f h k = elim h [ ]

  one_named : (d : Data) (args : List BareExpr) (e f : BareExpr) → IsNamedCall d args e → IsNamedCall d args f → e ≡ f
  one_named d args e f h k =
      let same = same_Some h.written k.written (sym h.function ∙ k.function) in
      let name = one_name k.written h.name k.name (subst (λ s. IsNameIn s h.name) same h.named) k.named in
      h.call ∙ ap (λ n. ExtensionFunctionApp n (trees_of args)) name ∙ sym k.call

  one_call : (P : Data → BareExpr → Type 0) → ((d : Data) (e f : BareExpr) → P d e → P d f → e ≡ f)
      → (d : Data) (e f : BareExpr) → IsCallOf P d e → IsCallOf P d f → e ≡ f
  one_call P one d e f h k =
      let items = same_Some h.items k.items (sym h.given ∙ k.given) in
      let args = each_same P one k.items h.args k.args (subst (λ ds. AreEach P ds h.args) items h.each) k.each in
      one_named d k.args e f (subst (λ es. IsNamedCall d es e) args h.call) k.call

  one_argument : (d : Data) (e f : BareExpr) → IsArgument d e → IsArgument d f → e ≡ f
  one_argument d e f h k = argued (get (codes "__extn") d) h k
    where
      argued : (c : Option Data) → ArgumentBy c d e → ArgumentBy c d f → e ≡ f
      argued (Some c) h k = one_call IsLiteral one_literal c e f h k
      argued None h k = one_literal d e f h k

  one_object : (d c x : Option Data) (P : BareExpr → Type 0) → ((e f : BareExpr) → P e → P f → e ≡ f)
      → (e f : BareExpr) → ObjectBy d c x P e → ObjectBy d c x P f → e ≡ f
  one_object (Some d) c x P one e f h k =
      h.2 ∙ ap (λ u. Lit (EntityLit u)) (one_entity d h.0 k.0 h.1 k.1) ∙ sym k.2
  one_object None (Some c) x P one e f h k = one_call IsArgument one_argument c e f h k
  one_object None None (Some x) P one e f h k = elim h [ ]
  one_object None None None P one e f h k = one e f h k

  mutual
    pub one_value : (d : Data) (e f : BareExpr) → StandsFor d e → StandsFor d f → e ≡ f
    one_value null e f h k = elim h [ ]
    one_value (boolean b) e f h k = h ∙ sym k
    one_value (number n) e f h k = same_Some e f (sym h ∙ k)
    one_value (string s) e f h k = h ∙ sym k
    one_value (array ds) e f h k = h.2 ∙ ap (λ es. Set (trees_of es)) (one_row ds h.0 k.0 h.1 k.1) ∙ sym k.2
    one_value (object ms) e f h k =
        one_object (get_member (codes "__entity") ms) (get_member (codes "__extn") ms) (get_member (codes "__expr") ms)
        (λ g. (ps : List (Text × BareExpr)) × AreFields ms ps × (g ≡ record_tree ps))
        (λ a b p q. p.2 ∙ ap record_tree (one_fields ms p.0 q.0 p.1 q.1) ∙ sym q.2) e f h k

    one_row : (ds : Items) (es fs : List BareExpr) → AreMembers ds es → AreMembers ds fs → es ≡ fs
    one_row no_items [] [] h k = refl
    one_row no_items [] (f ∷ fs) h k = elim k [ ]
    one_row no_items (e ∷ es) fs h k = elim h [ ]
    one_row (item d ds) [] fs h k = elim h [ ]
    one_row (item d ds) (e ∷ es) [] h k = elim k [ ]
    one_row (item d ds) (e ∷ es) (f ∷ fs) h k = both (λ a bs. a ∷ bs) (one_value d e f h.0 k.0) (one_row ds es fs h.1 k.1)

    one_fields : (ms : Members) (ps qs : List (Text × BareExpr)) → AreFields ms ps → AreFields ms qs → ps ≡ qs
    one_fields no_members [] [] h k = refl
    one_fields no_members [] (q ∷ qs) h k = elim k [ ]
    one_fields no_members (p ∷ ps) qs h k = elim h [ ]
    one_fields (member l d ms) [] qs h k = elim h [ ]
    one_fields (member l d ms) (p ∷ ps) [] h k = elim k [ ]
    one_fields (member l d ms) (p ∷ ps) (q ∷ qs) h k =
        both (λ a bs. a ∷ bs) (both (λ s e. (s, e)) (h.0 ∙ sym k.0) (one_value d p.1 q.1 h.1 k.1)) (one_fields ms ps qs h.2 k.2)

  pub one_uid : (d : Data) (u v : BareEntityUID) → IsUid d u → IsUid d v → u ≡ v
  one_uid d u v h k = one_entity (unwrap_or (get (codes "__entity") d) d) u v h k

  one_attributes : (d : Data) (ps qs : List (Text × BareExpr)) → AreAttributes d ps → AreAttributes d qs → ps ≡ qs
  one_attributes null ps qs h k = elim h [ ]
  one_attributes (boolean b) ps qs h k = elim h [ ]
  one_attributes (number n) ps qs h k = elim h [ ]
  one_attributes (string s) ps qs h k = elim h [ ]
  one_attributes (array ds) ps qs h k = elim h [ ]
  one_attributes (object ms) ps qs h k = one_fields ms ps qs h k

  one_parents : (d : Data) (us vs : List BareEntityUID) → AreParents d us → AreParents d vs → us ≡ vs
  one_parents null us vs h k = elim h [ ]
  one_parents (boolean b) us vs h k = elim h [ ]
  one_parents (number n) us vs h k = elim h [ ]
  one_parents (string s) us vs h k = elim h [ ]
  one_parents (array ds) us vs h k = each_same IsUid one_uid ds us vs h k
  one_parents (object ms) us vs h k = elim h [ ]

  one_had : {A : Type 0} (P : Data → A → Type 0) → ((d : Data) (a b : A) → P d a → P d b → a ≡ b)
      → (d : Option Data) (a b : A) → Has P d a → Has P d b → a ≡ b
  one_had P one None a b h k = elim h [ ]
  one_had P one (Some d) a b h k = one d a b h k

  one_maybe : {A : Type 0} (P : Data → List A → Type 0) → ((d : Data) (a b : List A) → P d a → P d b → a ≡ b)
      → (d : Option Data) (a b : List A) → MayHave P d a → MayHave P d b → a ≡ b
  one_maybe P one None a b h k = h ∙ sym k
  one_maybe P one (Some d) a b h k = one d a b h k

  same_parts : (e f : EntityParts) → e.uid ≡ f.uid → e.attributes ≡ f.attributes → e.parents ≡ f.parents → e.tags ≡ f.tags
      → e ≡ f
  same_parts e f u a p t =
      both (λ x y. record { uid = x; attributes = y; parents = e.parents; tags = e.tags }) u a
      ∙ both (λ x y. record { uid = f.uid; attributes = f.attributes; parents = x; tags = y }) p t

  pub one_entity_json : (d : Data) (e f : EntityParts) → IsEntityJson d e → IsEntityJson d f → e ≡ f
  one_entity_json d e f h k =
      same_parts e f
      (one_had IsUid one_uid (get (codes "uid") d) e.uid f.uid h.uid k.uid)
      (one_had AreAttributes one_attributes (get (codes "attrs") d) e.attributes f.attributes h.attributes k.attributes)
      (one_had AreParents one_parents (get (codes "parents") d) e.parents f.parents h.parents k.parents)
      (one_maybe AreAttributes one_attributes (get (codes "tags") d) e.tags f.tags h.tags k.tags)

  pub one_entities : (ds : Items) (es fs : List EntityParts) → AreEntities ds es → AreEntities ds fs → es ≡ fs
  one_entities ds es fs h k = each_same IsEntityJson one_entity_json ds es fs h k
