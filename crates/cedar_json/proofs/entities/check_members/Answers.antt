use Rattle.std.proofs.Common.{ap, sym, ◌∙◌}
use Rattle.serde_json.specs.View.{members_view}
use Rattle.std.proofs.Common.{◌≡◌, true}
use Rattle.cedar_json.specs.Entities.{are_named, is_member_name}
use Rattle.cedar_json.proofs.Members.{named_next, unnamed_first}
use Rattle.cedar_json.proofs.Nothing.{nothing}
use Rattle.cedar_json.proofs.entities.check_members.Goals as goal

pub loop-name-preserved : goal.loop-name-preserved
loop-name-preserved c =
    let l = c.loop-name in
    named_next l.name-iterator _ c.in-Some.name.now c.in-Some._member.now (members_view c.args.members.now.entries)
    c.in-Some.ensures.steps
    (ap is_member_name (sym c.deref.ensures) ∙ sym c.is_member_name.ensures ∙ c.if-not-is_member_name.false)
    l.invariant

pub returns-then-not-is_member_name : goal.returns-then-not-is_member_name
returns-then-not-is_member_name c =
    let l = c.loop-name in
    let all = members_view c.args.members.now.entries in
    nothing (λ (u : Unit). are_named all ≡ true)
    (λ u. unnamed_first l.name-iterator _ c.in-Some.name.now c.in-Some._member.now all c.in-Some.ensures.steps
    (ap is_member_name (sym c.deref.ensures) ∙ sym c.is_member_name.ensures ∙ c.if-not-is_member_name.true)
    l.invariant) c.because.result
