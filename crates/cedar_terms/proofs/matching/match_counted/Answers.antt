use Rattle.std.proofs.Common.{rules, refl, ◌≤◌, ◌*◌, ◌+◌, length, arith, ap, sym, ◌∙◌}
use Rattle.std.specs.Str.{chars}
use Rattle.cedar_terms.proofs.Attempt.{lengths, one-more, fits-turns, length-chars, IsAttempt-wildcard, IsAttempt-char, IsAttempt-retry, answer-none, answer-at_end, answer-open, spent-wildcard, matches-nil, is_none, matches-other, matches-none, spent-retry}
use Rattle.cedar_terms.proofs.matching.match_counted.Goals as goal
use Rattle.cedar_terms.proofs.matching.match_counted.Goals.{in_default-split_first-via-in-Some-Char-default+else-wanted-found, in_default-split_first-via-in_default}

pub overflow_add-turns : goal.overflow_add-turns
overflow_add-turns c =
    let i = c.passages.invariant in
    let t = length (chars c.args.text.now) in
    let p = length c.args.pattern.now in
    let l = lengths i.attempt in
    let e = ap length c.in-Some.ensures in
    let more : c.passages.turns + 1 ≤ t * (p + 1) = one-more c.passages.turns t p _ _ i.spent (omega (arith, l.0, e)) in
    fits-turns (c.passages.turns + 1) t p more (omega (arith, length-chars c.args.text.now c.utf8.text)) (omega arith)

pub passages-preserved-in-Wildcard-1 : goal.passages-preserved-in-Wildcard-1
passages-preserved-in-Wildcard-1 c =
    let i = c.passages.invariant in
    let l = lengths i.attempt in
    let e = ap length c.in-Some.ensures in
    let q = c.in-Some-Wildcard-default.ensures.cases in
    record {
      rest_utf8 = i.rest_utf8;
      retry_utf8 = i.rest_utf8;
      attempt = IsAttempt-wildcard i.attempt _ _ q.0 c.in-Some-Wildcard-default.field-0-0-is;
      nonempty = i.nonempty;
      within = omega (arith, l.1, q.1);
      spent = spent-wildcard c.passages.turns _ _ _ _ _ _ i.spent (omega (arith, q.1)) l.0;
      bound = one-more c.passages.turns _ _ _ _ i.spent (omega (arith, l.0, e));
      fresh = λ z. absurd (omega arith);
    }

pub passages-preserved-then-wanted-found : goal.passages-preserved-then-wanted-found
passages-preserved-then-wanted-found c =
    let i = c.passages.invariant in
    let l = lengths i.attempt in
    let e = ap length c.in-Some.ensures in
    let q = c.in-Some-Char-default.ensures.cases in
    record {
      rest_utf8 = search rules;
      retry_utf8 = i.retry_utf8;
      attempt = IsAttempt-char i.attempt _ _ _ _ _ q.0 c.in-Some-Char-default.field-0-0-is c.in-Some.ensures (sym c.if-wanted-found.true);
      nonempty = i.nonempty;
      within = i.within;
      spent = omega (arith, q.1);
      bound = one-more c.passages.turns _ _ _ _ i.spent (omega (arith, l.0, e));
      fresh = λ z. absurd (omega arith);
    }

pub returns-then-not-seen-clause-answer : goal.returns-then-not-seen-clause-answer
returns-then-not-seen-clause-answer c =
    let a = c.passages.invariant.attempt in
    elim c.in_default-split_first.branch [
      | in_default-split_first-via-in-Some-Char-default+else-wanted-found w ↦
          sym (answer-none a c.if-not-seen.true (matches-other _ _ _ _ _ _ _ w.in-Some-Char-default.ensures.cases.0 w.in-Some-Char-default.field-0-0-is c.in-Some.ensures w.if-wanted-found.false))
      | in_default-split_first-via-in_default w ↦
          sym (answer-none a c.if-not-seen.true (matches-none _ _ _ _ (let h = c.split_first.ensures.cases in rw w.in_default-split_first.is at h) c.in-Some.ensures))
    ]

pub passages-preserved-in-Some-first_char : goal.passages-preserved-in-Some-first_char
passages-preserved-in-Some-first_char c =
    let i = c.passages.invariant in
    let l = lengths i.attempt in
    let e = ap length c.in-Some.ensures in
    let r = ap length c.in-Some-first_char.ensures in
    record {
      rest_utf8 = search rules;
      retry_utf8 = search rules;
      attempt = elim c.in_default-split_first.branch [
        | in_default-split_first-via-in-Some-Char-default+else-wanted-found w ↦
            IsAttempt-retry i.attempt c.if-not-seen.false _ _ c.in-Some-first_char.ensures (matches-other _ _ _ _ _ _ _ w.in-Some-Char-default.ensures.cases.0 w.in-Some-Char-default.field-0-0-is c.in-Some.ensures w.if-wanted-found.false)
        | in_default-split_first-via-in_default w ↦
            IsAttempt-retry i.attempt c.if-not-seen.false _ _ c.in-Some-first_char.ensures (matches-none _ _ _ _ (let h = c.split_first.ensures.cases in rw w.in_default-split_first.is at h) c.in-Some.ensures)
      ];
      nonempty = i.nonempty;
      within = i.within;
      spent = spent-retry c.passages.turns _ _ _ _ _ _ i.spent (omega (arith, r)) i.within;
      bound = one-more c.passages.turns _ _ _ _ i.spent (omega (arith, l.0, e));
      fresh = λ z. absurd (omega arith);
    }

pub returns-clause-answer : goal.returns-clause-answer
returns-clause-answer c =
    let a = c.passages.invariant.attempt in
    c.are_wildcards.ensures ∙ (matches-nil c.passages.rest_pattern.now ∙ sym (answer-at_end a c.in_default.ensures))

pub returns-then-is_empty-2-clause-answer : goal.returns-then-is_empty-2-clause-answer
returns-then-is_empty-2-clause-answer c =
    let q = c.in-Some-Wildcard-default.ensures.cases in
    let a = IsAttempt-wildcard c.passages.invariant.attempt _ _ q.0 c.in-Some-Wildcard-default.field-0-0-is in
    sym (answer-open a refl (is_none _ c.if-is_empty-2.ensures))
