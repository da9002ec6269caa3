use Rattle.std.proofs.Common.{◌≡◌, ◌∙◌, ◌++◌, true, false, Err, map, sym, ap, rules}
use Rattle.std.proofs.lemmas.Bool.{false≢true}
use Rattle.std.specs.Rc.{rc_str_bytes}
use Rattle.cedar_builders.specs.Keys.{is_among}
use Rattle.cedar_lexer.specs.declared.token.TokenKind.TheVariants as kinds
use Rattle.cedar_parser.specs.Meant.{here}
use Rattle.cedar_policies.specs.Policies.{bare_annotation}
use Rattle.cedar_policy_parser.specs.Annotations.{keys_of}
use Rattle.cedar_policy_parser.specs.Complete.{Begins}
use Rattle.cedar_policy_parser.proofs.CompleteAnnotations.{annotation_more, annotation_next, annotations_given, key_is_new}
use Rattle.cedar_policy_parser.proofs.Firsts.{refused_new}
use Rattle.cedar_policy_parser.proofs.Loops.{annotations_begun, annotations_ended, annotations_more, keys_begun, keys_more, seen_begun, seen_pushed, unseen}
use Rattle.cedar_policy_parser.proofs.Taken.{rest_refl, rest_rest}
use Rattle.cedar_policy_parser.proofs.annotations.annotations.Goals as goal

pub annotations-init : goal.annotations-init
annotations-init c =
    let tokens = c.args.tokens.now in
    let none = c.new-annotations.ensures.items in
    let xs = c.new-annotations.result.items in record {
      rest = rest_refl tokens c.requires;
      seen = seen_begun (λ a. rc_str_bytes a.key) xs c.new-keys.result none c.new-keys.ensures;
      keys = keys_begun xs none;
      parses = annotations_begun tokens xs none;
      left = λ found rest h. record {
        more = found;
        all = ap (λ l. map bare_annotation l ++ found) (sym none);
        left = h.all;
      };
    }

pub annotations-preserved : goal.annotations-preserved
annotations-preserved c =
    let t0 = c.args.tokens.now in
    let t = c.annotations.tokens in
    let t1 = c.maybe.new.tokens in
    let t2 = c.annotation.new.tokens in
    let taken = c.in-Some.ensures.taken in
    let parsed = c.in_ok-next.ensures.parses in
    let next = c.in_ok-next.next in
    let xs = c.annotations.annotations.items in
    let new = c.push.new.self.items in
    let more = c.in_ok-push.ensures.items in
    let noted = c.in_ok-is_new.ensures (keys_of xs) c.annotations.invariant.seen in
    let is_new : c.in_ok-is_new.is_new ≡ true = search rules in
    record {
      rest = rest_rest t0 t t2 c.annotations.invariant.rest (rest_rest t t1 t2 taken.rest parsed.1);
      seen = seen_pushed (λ a. rc_str_bytes a.key) xs new next c.note.new.self noted.1 more;
      keys =
          keys_more xs new next c.annotations.invariant.keys
          (unseen (is_among (rc_str_bytes next.key) (keys_of xs)) c.in_ok-is_new.is_new noted.0 is_new) more;
      parses = annotations_more xs new next c.in-Some.at t0 t t1 t2 c.annotations.invariant.parses taken parsed.0 more;
      left =
          λ found rest h.
          (let n =
          annotation_next (map bare_annotation xs) found c.in-Some.at.text.now (here t) (here t1) rest h.ends taken.first
          (c.annotations.invariant.left found rest h) in
          let g = c.in_ok-next.ensures.complete n.next n.behind n.one in
          annotation_more xs new next found (here t1) rest (here t2) more n g.0 g.1);
    }

pub returns-clause-parses : goal.returns-clause-parses
returns-clause-parses c =
    let t0 = c.args.tokens.now in
    let t = c.annotations.tokens in
    let t1 = c.maybe.new.tokens in
    let none = c.in_default.ensures.taken in (
      record {
        all = annotations_ended c.annotations.annotations.items t0 t t1 c.annotations.invariant.parses none.1;
        keys = c.annotations.invariant.keys;
      },
      rest_rest t0 t t1 c.annotations.invariant.rest none.0,
    )

pub returns-in_err-next-clause-complete : goal.returns-in_err-next-clause-complete
returns-in_err-next-clause-complete c found rest h =
    let t = c.annotations.tokens in
    let xs = c.annotations.annotations.items in
    let at = c.in-Some.at in
    let n =
    annotation_next (map bare_annotation xs) found at.text.now (here t) (here c.maybe.new.tokens) rest h.ends c.in-Some.ensures.taken.first
    (c.annotations.invariant.left found rest h) in
    let e = c.in_err-next.field-0.0 in
    let same : c.from_residual.result ≡ Err e = search rules in
    rw same (c.in_err-next.ensures.complete n.next n.behind n.one)

pub returns-then-not-is_new-clause-complete : goal.returns-then-not-is_new-clause-complete
returns-then-not-is_new-clause-complete c found rest h =
    let t = c.annotations.tokens in
    let xs = c.annotations.annotations.items in
    let at = c.in-Some.at in
    let next = c.in_ok-next.next in
    let n =
    annotation_next (map bare_annotation xs) found at.text.now (here t) (here c.maybe.new.tokens) rest h.ends c.in-Some.ensures.taken.first
    (c.annotations.invariant.left found rest h) in
    let g = c.in_ok-next.ensures.complete n.next n.behind n.one in
    let noted = c.in_ok-is_new.ensures (keys_of xs) c.annotations.invariant.seen in
    let is_new : c.in_ok-is_new.is_new ≡ false = search rules in
    absurd (refused_new (is_among (rc_str_bytes next.key) (keys_of xs)) c.in_ok-is_new.is_new noted.0 is_new
    (key_is_new xs next found (here c.maybe.new.tokens) rest h.keys n g.0))

pub returns-clause-complete : goal.returns-clause-complete
returns-clause-complete c found rest h =
    let t = c.annotations.tokens in
    let xs = c.annotations.annotations.items in
    let same = c.in_default.ensures.taken.1 in
    let none : (Begins kinds.At (here t) → ⊥) = λ b. false≢true (c.in_default.ensures.present b) in
    let g = annotations_given (map bare_annotation xs) found (here t) rest none (c.annotations.invariant.left found rest h) in
    (g.0, same ∙ g.1)
