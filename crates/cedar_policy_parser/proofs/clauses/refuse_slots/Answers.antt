use Rattle.std.proofs.Common.{refl, sym, ◌∙◌}
use Rattle.semantics_grammar.specs.Lexemes.{lexeme}
use Rattle.cedar_parser.specs.Meant.{here}
use Rattle.cedar_policy_parser.proofs.Slots.{no_slot_less, no_slot_more}
use Rattle.cedar_policy_parser.proofs.Taken.{rest_rest, token_taken}
use Rattle.cedar_policy_parser.proofs.clauses.refuse_slots.Goals as goal

pub tokens-preserved : goal.tokens-preserved
tokens-preserved c =
    let old = c.tokens.left in
    let new = c.next.new.self in
    let t = c.in-Some.token in
    let taken = token_taken t.kind t old new c.tokens.invariant.rest.sound refl c.in-Some.ensures.gives in
    record {
      rest = rest_rest c.args.tokens old new c.tokens.invariant.rest taken.rest;
      none =
          λ h. c.tokens.invariant.none
          (no_slot_more (lexeme t.kind t.text.now) (here old) (here new) taken.first (sym c.is_slot.ensures ∙ c.if-is_slot.false) h);
      behind = λ h. (no_slot_less (lexeme t.kind t.text.now) (here old) (here new) taken.first (c.tokens.invariant.behind h)).1;
    }

pub returns-then-is_slot-clause-complete : goal.returns-then-is_slot-clause-complete
returns-then-is_slot-clause-complete c h =
    let old = c.tokens.left in
    let new = c.next.new.self in
    let t = c.in-Some.token in
    let taken = token_taken t.kind t old new c.tokens.invariant.rest.sound refl c.in-Some.ensures.gives in
    let k = no_slot_less (lexeme t.kind t.text.now) (here old) (here new) taken.first (c.tokens.invariant.behind h) in
    sym k.0 ∙ (sym c.is_slot.ensures ∙ c.if-is_slot.true)
