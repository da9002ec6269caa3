use Rattle.std.proofs.Common.{◌≡◌, ◌∙◌, ◌++◌, true, false, Err, ap, length, sym, rules}
use Rattle.std.specs.Rc.{rc_str_bytes}
use Rattle.cedar_builders.specs.Keys.{is_among}
use Rattle.cedar_lexer.specs.TokenStreams.{tokens_left}
use Rattle.cedar_parser.specs.Meant.{here}
use Rattle.semantics_policies.specs.Identifiers.{policy_id}
use Rattle.cedar_policies.specs.Policies.{bare_policy}
use Rattle.cedar_policies.specs.PolicySets.{bare_policies, ids_of}
use Rattle.cedar_policy_parser.proofs.CompletePolicies.{id_is_new, policies_given, policy_more, policy_next}
use Rattle.cedar_policy_parser.proofs.Firsts.{refused_new}
use Rattle.cedar_policy_parser.proofs.Loops.{named_begun, named_more, policies_begun, policies_ended, policies_more, seen_begun, seen_pushed, unseen}
use Rattle.cedar_policy_parser.proofs.Taken.{rest_refl, rest_rest}
use Rattle.cedar_policy_parser.proofs.Wholes.{nothing_here}
use Rattle.cedar_policy_parser.proofs.parser.policies.Goals as goal

pub policies-init : goal.policies-init
policies-init c =
    let ps = c.new-policies.result.items in
    let none = c.new-policies.ensures.items in
    record {
      rest = rest_refl c.args.tokens c.requires;
      named = named_begun ps none;
      seen = seen_begun (λ p. rc_str_bytes p.id) ps c.new-ids.result none c.new-ids.ensures;
      parses = policies_begun c.args.tokens ps none;
      left = λ found h. record {
        more = found;
        all = ap (λ l. bare_policies l ++ found) (sym none);
        left = h;
      };
    }

pub policies-preserved : goal.policies-preserved
policies-preserved c =
    let t0 = c.args.tokens in
    let t = c.policies.left in
    let t1 = c.numbered.new.tokens in
    let ps = c.policies.policies.items in
    let new = c.push.new.self.items in
    let p = c.in_ok-next.next in
    let h = c.in_ok-next.ensures in
    let i = c.policies.invariant in
    let more = c.in_ok-push.ensures.items in
    let noted = c.in_ok-is_new.ensures (ids_of ps) i.seen in
    let is_new : c.in_ok-is_new.is_new ≡ true = search rules in
    let count : c.len.result ≡ length ps = search rules in
    record {
      rest = rest_rest t0 t t1 i.rest h.parses.1;
      named =
          named_more ps new p i.named (unseen (is_among (rc_str_bytes p.id) (ids_of ps)) c.in_ok-is_new.is_new noted.0 is_new)
          (h.named ∙ ap (λ n. policy_id n (bare_policy p.template)) count) more;
      seen = seen_pushed (λ q. rc_str_bytes q.id) ps new p c.note.new.self noted.1 more;
      parses = policies_more ps new p t0 t t1 i.parses h.parses.0 more;
      left =
          λ found k.
          (let some : tokens_left t ≡ 0 → ⊥ = search rules in
          let n = policy_next (bare_policies ps) found t some (i.left found k) in
          let g = h.complete n.next n.behind n.one in
          policy_more ps new p found (here t) (here t1) more n g.0 g.1);
    }

pub returns-clause-parses : goal.returns-clause-parses
returns-clause-parses c =
    let none : tokens_left c.policies.left ≡ 0 = search rules in
    policies_ended c.policies.policies.items c.args.tokens c.policies.left c.policies.invariant.parses (nothing_here c.policies.left none)

pub returns-in_err-next-clause-complete : goal.returns-in_err-next-clause-complete
returns-in_err-next-clause-complete c found h d =
    let t = c.policies.left in
    let ps = c.policies.policies.items in
    let some : tokens_left t ≡ 0 → ⊥ = search rules in
    let n = policy_next (bare_policies ps) found t some (c.policies.invariant.left found h) in
    let e = c.in_err-next.field-0.0 in
    let same : c.from_residual.result ≡ Err e = search rules in
    rw same (c.in_err-next.ensures.complete n.next n.behind n.one)

pub returns-then-not-is_new-clause-complete : goal.returns-then-not-is_new-clause-complete
returns-then-not-is_new-clause-complete c found h d =
    let t = c.policies.left in
    let ps = c.policies.policies.items in
    let p = c.in_ok-next.next in
    let k = c.in_ok-next.ensures in
    let some : tokens_left t ≡ 0 → ⊥ = search rules in
    let n = policy_next (bare_policies ps) found t some (c.policies.invariant.left found h) in
    let g = k.complete n.next n.behind n.one in
    let noted = c.in_ok-is_new.ensures (ids_of ps) c.policies.invariant.seen in
    let is_new : c.in_ok-is_new.is_new ≡ false = search rules in
    let count : c.len.result ≡ length ps = search rules in
    absurd (refused_new (is_among (rc_str_bytes p.id) (ids_of ps)) c.in_ok-is_new.is_new noted.0 is_new
    (id_is_new ps p found (here t) c.policies.invariant.named (k.named ∙ ap (λ m. policy_id m (bare_policy p.template)) count) d n g.0))

pub returns-clause-complete : goal.returns-clause-complete
returns-clause-complete c found h d =
    let none : tokens_left c.policies.left ≡ 0 = search rules in
    policies_given (bare_policies c.policies.policies.items) found (here c.policies.left) (nothing_here c.policies.left none)
    (c.policies.invariant.left found h)
