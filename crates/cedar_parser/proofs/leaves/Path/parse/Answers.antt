use Rattle.std.proofs.Common.{rules}
use Rattle.std.proofs.Common.{refl}
use Rattle.cedar_parser.proofs.CompleteLeaves.{path_ended}
use Rattle.std.proofs.Common.{◌++◌, ◌∙◌, ap, refl, string_bytes, subst, arith}
use Rattle.std.specs.Prelude.{codes}
use Rattle.std.specs.Result.{is_ok}
use Rattle.cedar_parser.specs.Meant.{AreLexemes, from}
use Rattle.semantics_grammar.specs.Written.{ArePathIds}
use Rattle.cedar_parser.proofs.InOrder.{left_from, pair_taken}
use Rattle.cedar_parser.proofs.Paths.{appended, first_id, ids_taken, joined, pair_lexemes}
use Rattle.cedar_parser.proofs.TakenSteps.{untouched_here}
use Rattle.cedar_parser.proofs.leaves.Path.parse.Goals as goal

pub identifiers-init : goal.identifiers-init
identifiers-init c = record {
  left = omega arith;
  path = record { start = refl; piece = c.requires.piece; left = record { before = c.requires.before; stop = refl } };
  parses = λ word. first_id c.args.first c.args.tokens.now (string_bytes c.in_ok-text.text) word c.in_ok-text.ensures.ok;
  end = refl;
  lexemes = λ l. l;
}

pub identifiers-preserved : goal.identifiers-preserved
identifiers-preserved c =
    let path = c.identifiers.invariant.path in
    let old = c.identifiers.tokens in
    let new = c.take_pair.new.self in
    let next = c.in-Some.next in
    let k = pair_taken c.identifiers.span.stop old new _ next path.left.before c.in-Some.ensures.gives.1 in
    let e = c.up_to-span.ensures in
    let text = string_bytes c.identifiers.text in
    let mid = string_bytes c.push_str.new.self in
    let more = string_bytes c.push_str-in-Some.new.self in
    let one = appended mid (text ++ codes "::") text (is_ok c.push_str.result) c.push_str.ensures.bytes (ap is_ok c.in_ok-push_str.was) in
    let two = appended more (mid ++ next.text.now) mid (is_ok c.push_str-in-Some.result) c.push_str-in-Some.ensures.bytes (ap is_ok c.in_ok-push_str-2.was) in
    record {
      left = omega arith;
      path = record {
        start = e.start ∙ path.start;
        piece = omega (arith, e.start, e.stop, path.piece, k.0.first, k.0.piece);
        left =
            left_from next.span.stop c.up_to-span.result.stop c.args.tokens.now new (omega (arith, e.stop))
            (record { before = k.0.before; stop = k.1 ∙ path.left.stop });
      };
      parses = λ word. ids_taken (from c.args.first c.args.tokens.now) old new next text more (c.identifiers.invariant.parses word)
          c.in-Some.ensures.gives.0 c.in-Some.ensures.gives.1 (joined text mid more (codes "::") next.text.now one two);
      end = c.in-Some.ensures.gives.1.3 ∙ c.identifiers.invariant.end;
      lexemes = λ l. pair_lexemes old new next c.in-Some.ensures.gives.0 c.in-Some.ensures.gives.1 (c.identifiers.invariant.lexemes l);
    }

pub returns-clause-parses : goal.returns-clause-parses
returns-clause-parses c word =
    subst (ArePathIds (from c.args.first c.args.tokens.now) (string_bytes c.identifiers.text))
    (untouched_here c.identifiers.tokens c.take_pair.new.self c.in_default.ensures.gives) (c.identifiers.invariant.parses word)

pub returns-clause-end : goal.returns-clause-end
returns-clause-end c = c.in_default.ensures.gives.1 ∙ c.identifiers.invariant.end

pub returns-clause-lexemes : goal.returns-clause-lexemes
returns-clause-lexemes c l =
    subst AreLexemes (untouched_here c.identifiers.tokens c.take_pair.new.self c.in_default.ensures.gives) (c.identifiers.invariant.lexemes l)

pub returns-clause-complete : goal.returns-clause-complete
returns-clause-complete c = path_ended c.identifiers.tokens c.take_pair.new.self (λ b. search rules) c.in_default.ensures.gives
