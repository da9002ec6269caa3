use Rattle.std.proofs.Common.{◌≡◌, false, sym, ◌∙◌, ap, rules}
use Rattle.semantics_policies.specs.Grammar.{is_word_kind}
use Rattle.cedar_policy_parser.proofs.Firsts.{kind_next}
use Rattle.cedar_policy_parser.proofs.annotations.key.Goals as goal

pub returns-else-is_word-clause-present : goal.returns-else-is_word-clause-present
returns-else-is_word-clause-present c kind word rest is e =
    let first : c.first-first.result.kind ≡ kind = ap (λ t. t.kind) c.first-first.ensures ∙ kind_next c.args.tokens.now e in
    let other : is_word_kind c.first-first.result.kind ≡ false = search rules in
    sym other ∙ (ap is_word_kind first ∙ is)
