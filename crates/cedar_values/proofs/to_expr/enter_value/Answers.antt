use Rattle.std.proofs.Common.{◌≡◌, ◌++◌, [], arith, sym, subst, ◌∙◌}
use Rattle.std.specs.Slice.Iter.{iter_rest}
use Rattle.cedar_builders.specs.Keys.{IsAscending, keys_of}
use Rattle.cedar_values.specs.Sets.{members}
use Rattle.cedar_values.proofs.Writings.{if_ok, set_begun, set_nodes, record_begun, record_nodes, keys_ascend}
use Rattle.cedar_values.proofs.to_expr.enter_value.Goals as goal

pub write_pairs-requires-clause-ascending : goal.write_pairs-requires-clause-ascending
write_pairs-requires-clause-ascending g c =
    let pairs = c.iter-rest-in-Record in
    let none : c.new-exprs.result.entries ≡ [] = c.new-exprs.ensures.empty in
    let ascending = subst (λ vs. IsAscending (keys_of vs)) (sym pairs.ensures.rest) (keys_ascend c.deref.result.now.entries pairs.ensures.ordered) in
    subst (λ es. IsAscending (keys_of es ++ keys_of pairs.result)) (sym none) ascending

pub returns-in_ok-exprs-in-Set-clause-tree : goal.returns-in_ok-exprs-in-Set-clause-tree
returns-in_ok-exprs-in-Set-clause-tree g c =
    let s = c.in-Set.set in
    let all : iter_rest c.iter-rest.result ≡ members s = c.iter-rest.ensures.rest ∙ c.authoritative-members.ensures in
    if_ok c.write_members.result c.write_members.ensures.tree
    (λ step is. is ∙ set_begun g.X.ExtensionValue.canonical c.args.kind.now s c.in-Set.is (iter_rest c.iter-rest.result) all c.in_ok-exprs-in-Set.exprs.items c.in_ok-exprs-in-Set.ensures.items)

pub returns-in_ok-exprs-in-Set-clause-fewer : goal.returns-in_ok-exprs-in-Set-clause-fewer
returns-in_ok-exprs-in-Set-clause-fewer g c =
    let s = c.in-Set.set in
    let all : iter_rest c.iter-rest.result ≡ members s = c.iter-rest.ensures.rest ∙ c.authoritative-members.ensures in
    let count = set_nodes g.X.ExtensionValue.canonical c.args.kind.now s c.in-Set.is (iter_rest c.iter-rest.result) all in
    if_ok c.write_members.result c.write_members.ensures.fewer (λ step less. omega (arith, less, count))

pub returns-in-Record-clause-tree : goal.returns-in-Record-clause-tree
returns-in-Record-clause-tree g c =
    let m = c.in-Record.pairs in
    let pairs = c.iter-rest-in-Record in
    let all : pairs.result ≡ m.value.entries = pairs.ensures.rest ∙ λ i. (c.deref.ensures i).entries in
    if_ok c.write_pairs.result c.write_pairs.ensures.tree
    (λ step is. is ∙ record_begun g.X.ExtensionValue.canonical c.args.kind.now m c.in-Record.is pairs.result all c.new-exprs.result.entries c.new-exprs.ensures.empty)

pub returns-in-Record-clause-fewer : goal.returns-in-Record-clause-fewer
returns-in-Record-clause-fewer g c =
    let m = c.in-Record.pairs in
    let pairs = c.iter-rest-in-Record in
    let all : pairs.result ≡ m.value.entries = pairs.ensures.rest ∙ λ i. (c.deref.ensures i).entries in
    let count = record_nodes g.X.ExtensionValue.canonical c.args.kind.now m c.in-Record.is pairs.result all in
    if_ok c.write_pairs.result c.write_pairs.ensures.fewer (λ step less. omega (arith, less, count))
