use Rattle.std.proofs.Common.{◌≡◌, ◌+◌, ◌*◌, ◌≤◌, length, false}
use Rattle.std.specs.Str.{chars}
use denote.Shadow.{shadow}
use denote.Text.{Utf8}
use Rattle.cedar_terms.proofs.Attempt.{IsAttempt}
use Rattle.cedar_terms.proofs.matching.match_counted.Given as goal

abbrev pub invariant-passages : goal.invariant-passages
invariant-passages l =
    let n = length (chars l.text) in
    let m = length l.pattern in
    let left = length (chars l.retry_text) in
    record {
      rest_utf8 : shadow (Utf8 l.rest_text);
      retry_utf8 : shadow (Utf8 l.retry_text);
      attempt : IsAttempt l.pattern (chars l.text) l.seen l.retry_pattern (chars l.retry_text) l.rest_pattern (chars l.rest_text);
      nonempty : 1 ≤ m;
      within : length l.retry_pattern ≤ m;
      spent : l.turns + left * (m + 1) + length l.rest_pattern ≤ n * (m + 1) + m;
      bound : l.turns ≤ n * (m + 1);
      fresh : l.turns ≡ 0 → (l.seen ≡ false) × (length (chars l.rest_text) ≡ n);
    }

abbrev pub decreases-passages : goal.decreases-passages
decreases-passages l = length (chars l.retry_text) * (length l.pattern + 1) + length l.rest_pattern
