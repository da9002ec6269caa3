use Rattle.std.proofs.Common.{◌∙◌}
use Rattle.cedar_ancestors.proofs.Keys.{class_by, first_at}
use Rattle.cedar_ancestors.proofs.keyed.index_of.Goals as goal

pub returns-clause-at : goal.returns-clause-at
returns-clause-at g c = first_at g.K.Ord.cmp g.K.PartialEq.eq g.met.K.Ord.matches_eq g.met.K.Ord.total c.args.keys.now.keys c.args.key.now c.get_index_of.result c.get_index_of.ensures.index

pub returns-clause-found : goal.returns-clause-found
returns-clause-found g c = c.get_index_of.ensures.found ∙ class_by g.K.Ord.cmp g.K.PartialEq.eq g.met.K.Ord.matches_eq c.args.keys.now.keys c.args.key.now
