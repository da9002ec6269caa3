use Rattle.std.proofs.Common.{rules, ◌≡◌, arith, sym, subst, ◌∙◌}
use Rattle.std.specs.List.Sorted.{IsStrictlySortedBy}
use Rattle.std.specs.Map.{keys_of}
use Rattle.std.specs.Slice.Iter.{iter_rest}
use Rattle.cedar_values.specs.Records.{key_cmp}
use Rattle.cedar_values.proofs.RowsRead.{record_begun, record_count, set_begun, set_count}
use Rattle.cedar_values.proofs.from_expr.enter_expr.Goals as goal

pub read_members-requires : goal.read_members-requires
read_members-requires g c =
    let es = c.in-Set.members in
    let all : iter_rest c.iter-rest.result ≡ es.value.items = search rules in
    set_begun g.X.Ord.cmp c.args.expr.now es (iter_rest c.iter-rest.result) c.in_ok-values-in-Set.values.items (sym c.expr_kind.ensures ∙ c.in-Set.is) all c.in_ok-values-in-Set.ensures.items

pub read_pairs-requires : goal.read_pairs-requires
read_pairs-requires g c =
    let es = c.in-Record.pairs in
    let pairs = c.iter-rest-in-Record in
    let all : pairs.result ≡ es.value.entries = pairs.ensures.rest ∙ λ i. (c.deref-in-Record.ensures i).entries in
    record_begun g.X.Ord.cmp c.args.expr.now es pairs.result c.new-values.result.entries (sym c.expr_kind.ensures ∙ c.in-Record.is)
    (subst (λ m. IsStrictlySortedBy key_cmp (keys_of m.entries)) c.deref-in-Record.ensures pairs.ensures.ordered) all c.new-values.ensures.empty

pub returns-in_ok-read_members-in-Set-clause-fewer :
    goal.returns-in_ok-read_members-in-Set-clause-fewer
returns-in_ok-read_members-in-Set-clause-fewer g c =
    let es = c.in-Set.members in
    let all : iter_rest c.iter-rest.result ≡ es.value.items = search rules in
    let nodes = set_count c.args.expr.now es (iter_rest c.iter-rest.result) (sym c.expr_kind.ensures ∙ c.in-Set.is) all in
    omega (arith, nodes, c.in_ok-read_members-in-Set.ensures.fewer)

pub returns-in_ok-read_pairs-in-Record-clause-fewer :
    goal.returns-in_ok-read_pairs-in-Record-clause-fewer
returns-in_ok-read_pairs-in-Record-clause-fewer g c =
    let es = c.in-Record.pairs in
    let pairs = c.iter-rest-in-Record in
    let all : pairs.result ≡ es.value.entries = pairs.ensures.rest ∙ λ i. (c.deref-in-Record.ensures i).entries in
    let nodes = record_count c.args.expr.now es pairs.result (sym c.expr_kind.ensures ∙ c.in-Record.is) all in
    omega (arith, nodes, c.in_ok-read_pairs-in-Record.ensures.fewer)
