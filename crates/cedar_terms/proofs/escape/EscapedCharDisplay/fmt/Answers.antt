use Rattle.std.proofs.Common.{◌≡◌, ◌≢◌, Some, Option, ℕ, List, ap, ◌∙◌, sym, rules, true}
use Rattle.std.specs.Char.{is_ascii_control}
use Rattle.std.specs.Fmt.{◌++?◌, digits_output}
use Rattle.std.specs.Prelude.{codes}
use Rattle.std.specs.Str.{encode_utf8_all}
use Rattle.std.proofs.Output.{displays_on_ok_of_eq}
use Rattle.cedar_terms.specs.Escape.{escape_char, hexadecimal}
use Rattle.cedar_terms.proofs.EscapeLemmas.{encode_control}
use Rattle.cedar_terms.proofs.escape.EscapedCharDisplay.fmt.Goals as goal

pub returns-in_default-clause-writes : goal.returns-in_default-clause-writes
returns-in_default-clause-writes g c =
    let n = c.args.self.now.0 in
    let n0 : n ≢ 0 = λ e. search rules in
    let n9 : n ≢ 9 = λ e. search rules in
    let n10 : n ≢ 10 = λ e. search rules in
    let n13 : n ≢ 13 = λ e. search rules in
    let control : is_ascii_control n ≡ true = search rules in
    let d : digits_output c.in_radix.result ≡ Some (hexadecimal n) = search rules in
    let e : Some (codes "\\u{") ++? digits_output c.in_radix.result ++? Some (codes "}") ≡ Some (encode_utf8_all (escape_char n)) =
    ap (λ (o : Option (List ℕ)). Some (codes "\\u{") ++? o ++? Some (codes "}")) d ∙ ap (λ (t : List ℕ). Some t) (sym (encode_control n control n0 n9 n10 n13)) in
    displays_on_ok_of_eq _ _ _ _ _ _ e c.write-in_default.ensures.writes
