use Rattle.std.proofs.Common.{rules, subst, sym, ap, ◌∙◌, map-id}
use Rattle.std.proofs.lemmas.Iterator.Adapters.{YieldsList-from_vec}
use Rattle.std.proofs.lemmas.Iterator.Consumers.{YieldsList-end}
use Rattle.cedar_calls.specs.Functions.{bare_name_of}
use Rattle.cedar_calls.specs.NameMaps.{stand_by_name}
use Rattle.cedar_calls.specs.NamedFunctions.{HasLastOfEach}
use Rattle.cedar_calls.proofs.LastOfEach.{still_last, none_yet}
use Rattle.cedar_calls.proofs.extension.by_name.Goals as goal

pub loop-function-init : goal.loop-function-init
loop-function-init g c = record {
  last = record { at = none_yet c.new-map.result c.new-map.ensures.empty };
  by_name = ap (stand_by_name bare_name_of) c.new-map.ensures.empty;
}

pub loop-function-preserved : goal.loop-function-preserved
loop-function-preserved g c = record {
  last = record { at = still_last bare_name_of c.loop-function.map c.insert_new.new.map c.in-Some.function c.loop-function.yielded c.loop-function.invariant.last.at (search rules) };
  by_name = search rules;
}

pub returns-clause-last : goal.returns-clause-last
returns-clause-last g c =
    let all = YieldsList-end (YieldsList-from_vec c.args.functions.items (search rules) (search rules)) c.loop-function.yielded c.loop-function.function-iterator c.loop-function.yielded_by c.next.result c.next.new.self c.in-None.is c.next.ensures.steps in
    subst (HasLastOfEach c.loop-function.map) (sym (map-id _) ∙ all.0) c.loop-function.invariant.last
