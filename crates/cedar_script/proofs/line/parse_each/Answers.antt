use Rattle.std.proofs.Common.{◌≡◌, IfOk, subst, arith, ap, ◌∙◌}
use Rattle.std.proofs.lemmas.Result.{IfOk-weaker}
use Rattle.std.proofs.lemmas.Iterator.Consumers.{map_from_collect}
use Rattle.std.proofs.lemmas.Iterator.Splits.{YieldsList-from_str_split}
use Rattle.cedar_script.specs.CommandWords.{Spells, texts_now, words_of}
use Rattle.cedar_script.proofs.line.parse_each.Goals as goal

pub returns-clause-spelled : goal.returns-clause-spelled
returns-clause-spelled c =
    let text = c.args.text.now in
    let all = YieldsList-from_str_split 32 text (omega arith) c.split.ensures.text c.split.ensures.has_more c.split.ensures.pattern in
    let words : IfOk c.collect.result (λ w. texts_now w.items ≡ words_of text) = map_from_collect c.collect.result c.collect.ensures.ran all in
    let here : texts_now c.in_ok-words.words.items ≡ words_of text = subst (λ r. IfOk r (λ w. texts_now w.items ≡ words_of text)) c.in_ok-words.was words in
    IfOk-weaker c.parse_words.result _ (λ command. Spells command (words_of text))
    (λ command h. subst (λ ws. Spells command ws) (ap texts_now c.deref-2.ensures.value ∙ here) h) c.parse_words.ensures.spelled
