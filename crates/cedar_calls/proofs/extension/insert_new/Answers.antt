use Rattle.std.proofs.Common.{◌≡◌, rules, Some, if◌then◌else◌, ap, ◌∙◌}
use Rattle.std.specs.BTreeMap.{insert_entry}
use Rattle.std.specs.Ordering.{on}
use Rattle.cedar_names.specs.NameOrder.{name_cmp, name_eq}
use Rattle.cedar_names.specs.PlainNames.{bare_name}
use Rattle.cedar_calls.specs.Functions.{bare_name_of}
use Rattle.cedar_calls.specs.NameMaps.{stand_by_name, value_at}
use Rattle.cedar_calls.proofs.ByName.{one_more}
use Rattle.cedar_calls.proofs.extension.insert_new.Goals as goal

pub returns-clause-by_name : goal.returns-clause-by_name
returns-clause-by_name g c before =
    let entries : c.insert.new.map.entries ≡ insert_entry (on bare_name name_cmp) c.args.map.now.entries c.in_ok-key.key c.args.function = search rules in
    ap (stand_by_name bare_name_of) entries ∙ one_more bare_name_of c.in_ok-key.key c.args.function c.args.map.now.entries (search rules) before

pub returns-clause-values : goal.returns-clause-values
returns-clause-values g c name =
    let own : bare_name c.in_ok-key.key ≡ bare_name_of c.args.function = search rules in
    let now : value_at (bare_name name) c.insert.new.map ≡ (if name_eq (bare_name c.in_ok-key.key) (bare_name name) then Some c.args.function else value_at (bare_name name) c.args.map.now) = search rules in
    now ∙ ap (λ k. if name_eq k (bare_name name) then Some c.args.function else value_at (bare_name name) c.args.map.now) own
