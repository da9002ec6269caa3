use Rattle.cedar_ancestors.proofs.Keys.{cyclic_among, distinct_by, if_ok_map, keys_acyclic, on_ok, reach_of_keys, table_within}
use Rattle.cedar_ancestors.proofs.Storing.{if_err_map}
use Rattle.cedar_ancestors.proofs.keyed.reach_of.Goals as goal

pub of-requires : goal.of-requires
of-requires g c = table_within g.met.K.Ord.total g.V.HasParents.parents_of c.args.keys.now.keys c.args.parents.now.entries c.in_ok-table.table.items c.in_ok-table.ensures.rows

pub returns-clause-hierarchy : goal.returns-clause-hierarchy
returns-clause-hierarchy g c =
    if_ok_map c.of.result
    (reach_of_keys g.met.K.Ord.total g.V.HasParents.parents_of c.args.keys.now.keys c.args.parents.now.entries c.in_ok-table.table.items c.in_ok-table.ensures.rows c.requires)
    c.of.ensures.reach

pub returns-clause-acyclic : goal.returns-clause-acyclic
returns-clause-acyclic g c =
    let keys = c.args.keys.now.keys in
    on_ok c.of.result
    (keys_acyclic g.met.K.Ord.total g.V.HasParents.parents_of keys c.args.parents.now.entries c.in_ok-table.table.items c.in_ok-table.ensures.rows c.requires
    (distinct_by g.K.Ord.cmp g.K.PartialEq.eq g.met.K.Ord.matches_eq keys c.in_ok-table.ensures.distinct))
    c.of.ensures.acyclic

pub returns-clause-refusal : goal.returns-clause-refusal
returns-clause-refusal g c =
    if_err_map c.of.result
    (cyclic_among g.met.K.Ord.total g.V.HasParents.parents_of c.args.keys.now.keys c.args.parents.now.entries c.in_ok-table.table.items c.in_ok-table.ensures.rows c.requires)
    c.of.ensures.refusal
