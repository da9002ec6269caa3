use Rattle.std.proofs.Common.{sym, ◌∙◌}
use Rattle.std.specs.List.{list_all}
use Rattle.std.proofs.lemmas.Bool.{and_parts}
use Rattle.cedar_sorted_slices.specs.Classes.{ascends}
use Rattle.cedar_values.specs.Sets.{by_tree, has_hash_form, members}
use Rattle.cedar_values.specs.WellFormed.{well_formed}
use Rattle.cedar_values.proofs.Levels.{extension_kept, record_kept, set_kept, tree_kept}
use Rattle.cedar_values.proofs.WellFormedSets.{set_is, sorted_members}
use Rattle.cedar_values.proofs.laws.well_formed_parts.Goals as goal

pub returns-clause-tree : goal.returns-clause-tree
returns-clause-tree g c = tree_kept g.X.Ord.cmp

pub returns-clause-ascending : goal.returns-clause-ascending
returns-clause-ascending g c = sorted_members g.X.Ord.cmp c.order_of_values.ensures.total

pub returns-clause-members : goal.returns-clause-members
returns-clause-members g c s h =
    let R = g.X.Ord.cmp in
    (and_parts (has_hash_form s) (list_all (well_formed R) (members s))
    (and_parts (ascends (by_tree R) (members s)) _ (sym (set_is R s) ∙ h)).1).1

pub returns-clause-set : goal.returns-clause-set
returns-clause-set g c s h = sym (set_kept g.X.Ord.cmp s) ∙ h

pub returns-clause-values : goal.returns-clause-values
returns-clause-values g c m h = sym (record_kept g.X.Ord.cmp m) ∙ h

pub returns-clause-extension : goal.returns-clause-extension
returns-clause-extension g c = extension_kept g.X.Ord.cmp
