use Rattle.std.proofs.Common.{◌≡◌, ◌∙◌, ◌++◌, Err, map, sym, ap, rules}
use Rattle.std.proofs.lemmas.Bool.{false≢true}
use Rattle.cedar_lexer.specs.declared.token.TokenKind.TheVariants as kinds
use Rattle.cedar_parser.specs.Meant.{here}
use Rattle.cedar_policies.specs.Policies.{bare_clause}
use Rattle.cedar_policy_parser.specs.Complete.{Begins}
use Rattle.cedar_policy_parser.proofs.CompleteClauses.{clause_more, clause_next, clauses_given}
use Rattle.cedar_policy_parser.proofs.Loops.{clauses_begun, clauses_ended, clauses_more}
use Rattle.cedar_policy_parser.proofs.Taken.{rest_refl, rest_rest}
use Rattle.cedar_policy_parser.proofs.clauses.clauses.Goals as goal

pub clauses-init : goal.clauses-init
clauses-init c =
    let tokens = c.args.tokens.now in
    let none = c.new-clauses.ensures.items in record {
      rest = rest_refl tokens c.requires;
      parses = clauses_begun tokens c.new-clauses.result.items none;
      left = λ found rest h. record {
        more = found;
        all = ap (λ l. map bare_clause l ++ found) (sym none);
        left = h.0;
      };
    }

pub clauses-preserved : goal.clauses-preserved
clauses-preserved c =
    let t0 = c.args.tokens.now in
    let t = c.clauses.tokens in
    let t1 = c.maybe.new.tokens in
    let t2 = c.clause.new.tokens in
    let taken = c.in-Some.ensures.taken in
    let parsed = c.in_ok-clause.ensures.parses in
    let xs = c.clauses.clauses.items in
    let new = c.push.new.self.items in
    let next = c.in_ok-clause.field-0 in
    let more = c.in_ok-push.ensures.items in record {
      rest = rest_rest t0 t t2 c.clauses.invariant.rest (rest_rest t t1 t2 taken.rest parsed.1);
      parses = clauses_more xs new next c.in-Some.word t0 t t1 t2 c.clauses.invariant.parses taken parsed.0 more;
      left =
          λ found rest h.
          (let n =
          clause_next (map bare_clause xs) found c.in-Some.word.text.now (here t) (here t1) rest h.1 taken.first
          (c.clauses.invariant.left found rest h) in
          let g = c.in_ok-clause.ensures.complete n.next n.behind n.one in
          clause_more xs new next found c.in-Some.word.text.now (here t1) rest (here t2) more n g.0 g.1);
    }

pub returns-clause-parses : goal.returns-clause-parses
returns-clause-parses c =
    let t0 = c.args.tokens.now in
    let t = c.clauses.tokens in
    let t1 = c.maybe.new.tokens in
    let none = c.in_default.ensures.taken in
    (clauses_ended c.clauses.clauses.items t0 t t1 c.clauses.invariant.parses none.1, rest_rest t0 t t1 c.clauses.invariant.rest none.0)

pub returns-in_err-clause-clause-complete : goal.returns-in_err-clause-clause-complete
returns-in_err-clause-clause-complete c found rest h =
    let t = c.clauses.tokens in
    let w = c.in-Some.word.text.now in
    let n =
    clause_next (map bare_clause c.clauses.clauses.items) found w (here t) (here c.maybe.new.tokens) rest h.1 c.in-Some.ensures.taken.first
    (c.clauses.invariant.left found rest h) in
    let e = c.in_err-clause.field-0.0 in
    let same : c.from_residual.result ≡ Err e = search rules in
    rw same (c.in_err-clause.ensures.complete n.next n.behind n.one)

pub returns-clause-complete : goal.returns-clause-complete
returns-clause-complete c found rest h =
    let t = c.clauses.tokens in
    let none : (Begins kinds.Word (here t) → ⊥) = λ b. false≢true (c.in_default.ensures.present b) in
    let g = clauses_given (map bare_clause c.clauses.clauses.items) found (here t) rest none (c.clauses.invariant.left found rest h) in
    (g.0, c.in_default.ensures.taken.1 ∙ g.1)
