use Rattle.std.proofs.Common.{◌≡◌, Err, Some, rules, true}
use Rattle.std.specs.Prelude.{codes, option_map}
use Rattle.serde_json.specs.Find.{as_object, get}
use Rattle.serde_json.specs.View.{view}
use Rattle.cedar_json.specs.Entities.{AreAttributes, AreParents, Has, IsEntityJson, IsUid, MayHave, are_named, parts_of}
use Rattle.cedar_json.specs.Refusals.{IsNothing}
use Rattle.cedar_json.proofs.Nothing.{nothing_of, passed}
use Rattle.cedar_json.proofs.entities.entity_of.Goals as goal

pub returns-in_err-check_names : goal.returns-in_err-check_names
returns-in_err-check_names c =
    let d = view c.args.json.now in
    let failure = c.in_err-check_names.field-0.0 in
    let same : c.from_residual.result ≡ Err failure = search rules in
    passed (λ e. IsEntityJson d (parts_of e)) (IsNothing (IsEntityJson d)) c.from_residual.result failure same
    (nothing_of (λ (u : Unit). option_map are_named (as_object d) ≡ Some true) (IsEntityJson d) (λ e h. (tt, h.named)) failure
    c.in_err-check_names.ensures)

pub returns-in_err-uid : goal.returns-in_err-uid
returns-in_err-uid c =
    let d = view c.args.json.now in
    let failure = c.in_err-uid.field-0.0 in
    let same : c.from_residual-in_err-uid.result ≡ Err failure = search rules in
    passed (λ e. IsEntityJson d (parts_of e)) (IsNothing (IsEntityJson d)) c.from_residual-in_err-uid.result failure same
    (nothing_of (Has IsUid (get (codes "uid") d)) (IsEntityJson d) (λ e h. (e.uid, h.uid)) failure
    c.in_err-uid.ensures)

pub returns-in_err-attributes : goal.returns-in_err-attributes
returns-in_err-attributes c =
    let d = view c.args.json.now in
    let failure = c.in_err-attributes.field-0.0 in
    let same : c.from_residual-in_err-attributes.result ≡ Err failure = search rules in
    passed (λ e. IsEntityJson d (parts_of e)) (IsNothing (IsEntityJson d)) c.from_residual-in_err-attributes.result failure same
    (nothing_of (Has AreAttributes (get (codes "attrs") d)) (IsEntityJson d) (λ e h. (e.attributes, h.attributes)) failure
    c.in_err-attributes.ensures)

pub returns-in_err-parents : goal.returns-in_err-parents
returns-in_err-parents c =
    let d = view c.args.json.now in
    let failure = c.in_err-parents.field-0.0 in
    let same : c.from_residual-in_err-parents.result ≡ Err failure = search rules in
    passed (λ e. IsEntityJson d (parts_of e)) (IsNothing (IsEntityJson d)) c.from_residual-in_err-parents.result failure same
    (nothing_of (Has AreParents (get (codes "parents") d)) (IsEntityJson d) (λ e h. (e.parents, h.parents)) failure
    c.in_err-parents.ensures)

pub returns-in_err-tags : goal.returns-in_err-tags
returns-in_err-tags c =
    let d = view c.args.json.now in
    let failure = c.in_err-tags.field-0.0 in
    let same : c.from_residual-in_err-tags.result ≡ Err failure = search rules in
    passed (λ e. IsEntityJson d (parts_of e)) (IsNothing (IsEntityJson d)) c.from_residual-in_err-tags.result failure same
    (nothing_of (MayHave AreAttributes (get (codes "tags") d)) (IsEntityJson d) (λ e h. (e.tags, h.tags)) failure
    c.in_err-tags.ensures)
