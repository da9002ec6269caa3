use Rattle.std.proofs.Common.{ap, sym, subst, ◌∙◌}
use Rattle.cedar_builders.specs.BareExpr.{Record, fields_of}
use Rattle.cedar_builders.specs.Keys.{IsAscending, keys_of, meant_pairs}
use Rattle.cedar_exprs.specs.BareExpr.{bare_expr}
use Rattle.cedar_values.specs.Rows.{IsRow, filled, written}
use Rattle.cedar_values.proofs.Writings.{if_ok, put_pair, put_key, put_restricted, next_above}
use Rattle.cedar_values.proofs.to_expr.resume_row.Goals as goal

pub write_pairs-requires-clause-restricted : goal.write_pairs-requires-clause-restricted
write_pairs-requires-clause-restricted g c =
    let row = c.in-InRecord.row in
    let k = c.in-InRecord.key in
    let h = subst IsRow c.in-InRecord.is c.requires.is_row in
    let put = c.in_ok-put_last-in-InRecord.ensures (next_above row.exprs.entries k (keys_of row.rest) h.1) in
    put_restricted row.exprs.entries c.put_last.new.map.entries k c.args.expr put h.0 c.requires.restricted

pub write_pairs-requires-clause-ascending : goal.write_pairs-requires-clause-ascending
write_pairs-requires-clause-ascending g c =
    let row = c.in-InRecord.row in
    let k = c.in-InRecord.key in
    let h = subst IsRow c.in-InRecord.is c.requires.is_row in
    let put = c.in_ok-put_last-in-InRecord.ensures (next_above row.exprs.entries k (keys_of row.rest) h.1) in
    subst IsAscending (sym (put_key row.exprs.entries c.put_last.new.map.entries k c.args.expr (keys_of row.rest) put)) h.1

pub returns-in_ok-put_last-in-InRecord-clause-tree :
    goal.returns-in_ok-put_last-in-InRecord-clause-tree
returns-in_ok-put_last-in-InRecord-clause-tree g c =
    let C = g.X.ExtensionValue.canonical in
    let row = c.in-InRecord.row in
    let k = c.in-InRecord.key in
    let h = subst IsRow c.in-InRecord.is c.requires.is_row in
    let put = c.in_ok-put_last-in-InRecord.ensures (next_above row.exprs.entries k (keys_of row.rest) h.1) in
    if_ok c.write_pairs.result c.write_pairs.ensures.tree
    (λ step is. is
    ∙ ap (λ ps. Record (fields_of ps)) (put_pair row.exprs.entries c.put_last.new.map.entries k c.args.expr (meant_pairs (written C) row.rest) put)
    ∙ sym (ap (λ w. filled C w (bare_expr c.args.expr)) c.in-InRecord.is))
