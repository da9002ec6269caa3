use Rattle.std.proofs.Common.{◌∙◌}
use Rattle.std.proofs.lemmas.Iterator.Adapters.{YieldsList-from_vec, fact_from_collect}
use Rattle.std.proofs.lemmas.Result.{IfOk-weaker}
use Rattle.std.specs.BTreeMap.{IsFromIterResult}
use Rattle.cedar_values.specs.Records.{IsLastOfEach, key_cmp}
use Rattle.cedar_values.proofs.Records.{last_of_updates}
use Rattle.cedar_values.proofs.record.last_of_each.Goals as goal

pub returns : goal.returns
returns g c =
    let ps = c.args.pairs.items in
    let all = YieldsList-from_vec ps c.into_iter.ensures.rest (c.into_iter.ensures.len ∙ c.args.pairs.ok.0) in
    IfOk-weaker c.collect.result (IsFromIterResult key_cmp ps) (λ m. IsLastOfEach ps m.entries)
    (λ m h. last_of_updates ps m.entries h.1 h.0)
    (fact_from_collect (IsFromIterResult key_cmp) c.collect.result c.collect.ensures.ran all)
