use Rattle.std.proofs.Common.{◌∙◌, ◌++◌, refl, ap, sym, arith, fold}
use Rattle.std.specs.Hash as fed
use Rattle.std.proofs.lemmas.List.{drop_all}
use Rattle.cedar_names.specs.NameOrder.{name_fed}
use Rattle.cedar_names.specs.PlainNames.{bare_name}
use Rattle.cedar_builders.specs.BareExpr.{ExtensionFunctionApp, Set, Record}
use Rattle.cedar_builders.specs.ShapeFeed.{row_fed, fields_fed}
use Rattle.cedar_builders.specs.Shapes.{row_count, field_count}
use Rattle.cedar_exprs.specs.BareExpr.{bare_exprs, bare_fields}
use Rattle.cedar_exprs.proofs.ChildrenOf.{bare_at_call, bare_at_set, bare_at_map}
use Rattle.cedar_exprs.proofs.ShapeWalks.{fed_of_node, in_four, then_fed, all_fed, all_pairs_fed}
use Rattle.cedar_exprs.proofs.shapes.hashing.+shape.Goals as goal

pub hash_shape-returns-in-ExtensionFunctionApp : goal.hash_shape-returns-in-ExtensionFunctionApp
hash_shape-returns-in-ExtensionFunctionApp g t c =
    let k = c.in-ExtensionFunctionApp in
    let es = c.deref-in-ExtensionFunctionApp-2.result.now in
    fed_of_node g.H.Hasher.write _ _ _ c.args.e.now _ c.expr_kind.ensures c.kind_number.ensures c.write_u8.ensures
    (ExtensionFunctionApp (bare_name k.fn_name) (bare_exprs es)) (name_fed (bare_name k.fn_name) ++ (fed.usize (row_count (bare_exprs es)) ++ row_fed (bare_exprs es))) _
    (bare_at_call c.args.e.now k.fn_name k.args _ (sym c.expr_kind-2.ensures ∙ k.is) c.deref-in-ExtensionFunctionApp.ensures ∙ ap (λ xs. ExtensionFunctionApp (bare_name k.fn_name) (bare_exprs xs)) (sym c.deref-in-ExtensionFunctionApp-2.ensures.value))
    (in_four (fed.u8 9) (name_fed (bare_name k.fn_name)) (fed.usize (row_count (bare_exprs es))) (row_fed (bare_exprs es)))
    (then_fed g.H.Hasher.write c.write_u8.new.self c.hash-in-ExtensionFunctionApp.new.state c.hash_members.new.state (name_fed (bare_name k.fn_name)) (fed.usize (row_count (bare_exprs es)) ++ row_fed (bare_exprs es)) c.hash-in-ExtensionFunctionApp.ensures c.hash_members.ensures)

pub hash_shape-returns-in-Set : goal.hash_shape-returns-in-Set
hash_shape-returns-in-Set g t c =
    let es = c.deref-in-Set-2.result.now in
    fed_of_node g.H.Hasher.write _ _ _ c.args.e.now _ c.expr_kind.ensures c.kind_number.ensures c.write_u8.ensures
    (Set (bare_exprs es)) (fed.usize (row_count (bare_exprs es)) ++ row_fed (bare_exprs es)) _
    (bare_at_set c.args.e.now c.in-Set.members _ (sym c.expr_kind-2.ensures ∙ c.in-Set.is) c.deref-in-Set.ensures ∙ ap (λ xs. Set (bare_exprs xs)) (sym c.deref-in-Set-2.ensures.value))
    refl
    c.hash_members-in-Set.ensures

pub hash_shape-returns-in-Record : goal.hash_shape-returns-in-Record
hash_shape-returns-in-Record g t c =
    let ps = c.deref-in-Record.result.now.entries in
    fed_of_node g.H.Hasher.write _ _ _ c.args.e.now _ c.expr_kind.ensures c.kind_number.ensures c.write_u8.ensures
    (Record (bare_fields ps)) (fed.usize (field_count (bare_fields ps)) ++ fields_fed (bare_fields ps)) _
    (bare_at_map c.args.e.now c.in-Record.pairs _ (sym c.expr_kind-2.ensures ∙ c.in-Record.is) c.deref-in-Record.ensures)
    refl
    c.hash_pairs.ensures

pub hash_members-returns : goal.hash_members-returns
hash_members-returns g t c =
    all_fed g.H.Hasher.write c.args.state.now c.write_usize.new.self c.loop-member.state c.args.members.now _ (drop_all c.loop-member.member-index c.args.members.now (omega (arith, c.loop-member-test.false))) c.write_usize.ensures c.loop-member.invariant

pub hash_pairs-returns : goal.hash_pairs-returns
hash_pairs-returns g t c =
    all_pairs_fed g.H.Hasher.write c.args.state.now c.write_usize.new.self c.loop-key.state c.args.pairs.now.entries _ c.in-None.ensures.steps.0 (c.write_usize.ensures ∙ ap (λ n. fold g.H.Hasher.write c.args.state.now (fed.usize n)) c.len.ensures.len) c.loop-key.invariant.2
