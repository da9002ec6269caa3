use Rattle.std.proofs.Common.{map, subst, IsTrue}
use Rattle.std.proofs.lemmas.Result.{IfOk-weaker}
use Rattle.std.specs.Prelude.{IfOk}
use Rattle.std.specs.List.{list_all}
use Rattle.cedar_sorted_slices.specs.Classes.{IsClassesOf}
use Rattle.cedar_values.specs.Places.{literal_value}
use Rattle.cedar_values.specs.Sets.{by_tree, members}
use Rattle.cedar_values.specs.WellFormed.{set_well_formed, well_formed}
use Rattle.cedar_values.proofs.Levels.{literals_kept}
use Rattle.cedar_values.proofs.set.Set.from_lits.Goals as goal

pub returns : goal.returns
returns g c =
    let R = g.X.Ord.cmp in
    let ls = c.args.lits.items in
    record {
      classes = subst (λ vs. IfOk c.new.result (λ s. IsClassesOf (by_tree R) (members s) vs)) c.in_ok-values.ensures c.new.ensures.classes;
      well_formed = IfOk-weaker c.new.result (λ s. IsTrue (list_all (well_formed R) (map literal_value ls)) → IsTrue (set_well_formed R s)) (λ s. IsTrue (set_well_formed R s)) (λ s kept. kept (literals_kept R ls))
          (subst (λ vs. IfOk c.new.result (λ s. IsTrue (list_all (well_formed R) vs) → IsTrue (set_well_formed R s))) c.in_ok-values.ensures c.new.ensures.well_formed);
      hash_form = c.new.ensures.hash_form;
    }
