use Rattle.std.proofs.Common.{rules, true, ◌≡◌, ◌++◌, ◌+◌, [], drop, map, codes, refl, sym, ap, subst, ◌∙◌, append_assoc, OnOk, Global}
use Rattle.std.specs.Fmt.{WritesInCalls}
use Rattle.std.specs.Rc.{rc_str_bytes}
use Rattle.std.specs.declared.rc.RcStr.{RcStr}
use Rattle.std.proofs.Output.{writes_in_calls_append, writes_in_calls_single}
use Rattle.std.proofs.lemmas.Bool.{false≢true}
use Rattle.std.proofs.lemmas.List.{drop_all}
use Rattle.semantics_values.specs.BareValue.{SetValue, RecordValue}
use Rattle.cedar_values.specs.BareValues.{bare_set, bare_value_kind}
use Rattle.cedar_values.specs.BoundedTexts.{bounded_text, key_text}
use Rattle.cedar_values.specs.Conversions.{bare_pairs}
use Rattle.cedar_values.specs.declared.value.Value.{Value}
use Rattle.cedar_values.proofs.BoundedRests.{begun, Completes, dropped, item_written, last_call, one_call, pair_text, record_text, rest, rest_cut, set_text, value_text}
use Rattle.cedar_values.proofs.Levels.{extension_tree, record_tree}
use Rattle.cedar_values.proofs.bounded_display.+write_value.Goals as goal

pub write_kind-returns-in-Record : goal.write_kind-returns-in-Record
write_kind-returns-in-Record g t c =
    let took = g.W.Write.write_str_gives in
    let T = g.X.ExtensionValue.text_of in
    subst (λ v. OnOk c.write_pairs.result (WritesInCalls took c.args.f.now (bounded_text T c.args.n v) c.write_pairs.new.f))
    ((λ i. RecordValue (bare_pairs (c.deref.ensures i).entries)) ∙ sym (ap bare_value_kind c.in-Record.is ∙ record_tree c.in-Record.pairs))
    c.write_pairs.ensures

pub write_kind-returns-in-ExtensionValue : goal.write_kind-returns-in-ExtensionValue
write_kind-returns-in-ExtensionValue g t c =
    let took = g.W.Write.write_str_gives in
    let T = g.X.ExtensionValue.text_of in
    subst (λ v. OnOk c.write_str.result (WritesInCalls took c.args.f.now v c.write_str.new.self))
    (c.text.ensures ∙ ap T (c.value.ensures ∙ ap (λ e. e.value) c.deref-in-ExtensionValue.ensures)
    ∙ sym (ap (bounded_text T c.args.n) (ap bare_value_kind c.in-ExtensionValue.is ∙ extension_tree c.in-ExtensionValue.value)))
    (one_call took c.args.f.now c.text.result.now c.write_str.new.self c.write_str.result c.write_str.ensures.ok)

pub write_members-loop-member-init : goal.write_members-loop-member-init
write_members-loop-member-init g t c =
    let took = g.W.Write.write_str_gives in
    let T = g.X.ExtensionValue.text_of in
    begun took c.args.f.now _ c.write_str.new.self (codes "[") _
    (set_text T c.args.n c.args.set.now ∙ ap (λ ms. codes "[" ++ (rest true c.args.n (map (value_text T c.args.n) ms) ++ codes "]")) (sym c.authoritative-members.ensures))
    (writes_in_calls_single took c.args.f.now (codes "[") c.write_str.new.self (c.in_ok-write_str.ensures.ok refl))

pub write_members-returns-then-is_used_up : goal.write_members-returns-then-is_used_up
write_members-returns-then-is_used_up g t c =
    let took = g.W.Write.write_str_gives in
    let T = g.X.ExtensionValue.text_of in
    let n = c.args.n in
    let ms = c.authoritative-members.result.now in
    let i = c.loop-member.member-index in
    let v = c.member-item.result in
    let f = c.loop-member.f in
    let whole = bounded_text T n (SetValue (bare_set c.args.set.now)) in
    let before = subst (λ vs. Completes took c.args.f.now whole f (rest c.loop-member.is_first c.loop-member.room (map (value_text T n) vs) ++ codes "]"))
    (dropped ms i v c.loop-member-test.true c.member-item.is) c.loop-member.invariant in
    last_call took c.args.f.now whole c.write_separator.new.f (codes ".. ]") _ c.write_str-then-is_used_up.result
    (rest_cut took c.args.f.now whole c.loop-member.is_first c.loop-member.room (value_text T n v) (map (value_text T n) (drop (i + 1) ms)) (codes "]") f c.write_separator.new.f
    (c.is_used_up.ensures.0 c.if-is_used_up.true) before c.in_ok-write_separator.ensures)
    c.write_str-then-is_used_up.ensures.ok

pub write_members-loop-member-preserved : goal.write_members-loop-member-preserved
write_members-loop-member-preserved g t c =
    let took = g.W.Write.write_str_gives in
    let T = g.X.ExtensionValue.text_of in
    let n = c.args.n in
    let ms = c.authoritative-members.result.now in
    let i = c.loop-member.member-index in
    let v = c.member-item.result in
    let f = c.loop-member.f in
    let whole = bounded_text T n (SetValue (bare_set c.args.set.now)) in
    let before = subst (λ vs. Completes took c.args.f.now whole f (rest c.loop-member.is_first c.loop-member.room (map (value_text T n) vs) ++ codes "]"))
    (dropped ms i v c.loop-member-test.true c.member-item.is) c.loop-member.invariant in
    item_written took c.args.f.now whole c.loop-member.is_first c.loop-member.room c.one_less-room.result (value_text T n v) (map (value_text T n) (drop (i + 1) ms)) (codes "]")
    f c.write_separator.new.f c.write_value.new.f
    (λ e. false≢true (sym c.if-is_used_up.false ∙ c.is_used_up.ensures.1 e)) c.one_less-room.ensures before c.in_ok-write_separator.ensures c.in_ok-write_value.ensures

pub write_members-returns : goal.write_members-returns
write_members-returns g t c =
    let took = g.W.Write.write_str_gives in
    let T = g.X.ExtensionValue.text_of in
    let n = c.args.n in
    let ms = c.authoritative-members.result.now in
    let i = c.loop-member.member-index in
    let f = c.loop-member.f in
    let whole = bounded_text T n (SetValue (bare_set c.args.set.now)) in
    last_call took c.args.f.now whole f (codes "]") _ c.write_str-2.result
    (subst (λ vs. Completes took c.args.f.now whole f (rest c.loop-member.is_first c.loop-member.room (map (value_text T n) vs) ++ codes "]"))
    (drop_all i ms c.loop-member-test.false) c.loop-member.invariant)
    c.write_str-2.ensures.ok

pub write_pairs-loop-key-init : goal.write_pairs-loop-key-init
write_pairs-loop-key-init g t c =
    let took = g.W.Write.write_str_gives in
    let T = g.X.ExtensionValue.text_of in
    let all : c.into_iter-key-iterator.result ≡ c.args.pairs.now.entries = search rules in
    begun took c.args.f.now _ c.write_str.new.self (codes "{") _
    (record_text T c.args.n c.args.pairs.now.entries ∙ ap (λ es. codes "{" ++ (rest true c.args.n (map (pair_text T c.args.n) es) ++ codes "}")) (sym all))
    (writes_in_calls_single took c.args.f.now (codes "{") c.write_str.new.self (c.in_ok-write_str.ensures.ok refl))

pub write_pairs-returns-then-is_used_up : goal.write_pairs-returns-then-is_used_up
write_pairs-returns-then-is_used_up g t c =
    let took = g.W.Write.write_str_gives in
    let T = g.X.ExtensionValue.text_of in
    let n = c.args.n in
    let e : RcStr Global × Value _ = (c.in-Some.key.now, c.in-Some.value.now) in
    let left = c.next.new.self in
    let f = c.loop-key.f in
    let whole = bounded_text T n (RecordValue (bare_pairs c.args.pairs.now.entries)) in
    let before = subst (λ es. Completes took c.args.f.now whole f (rest c.loop-key.is_first c.loop-key.room (map (pair_text T n) es) ++ codes "}"))
    c.in-Some.ensures.steps c.loop-key.invariant in
    last_call took c.args.f.now whole c.write_separator.new.f (codes ".. }") _ c.write_str-then-is_used_up.result
    (rest_cut took c.args.f.now whole c.loop-key.is_first c.loop-key.room (pair_text T n e) (map (pair_text T n) left) (codes "}") f c.write_separator.new.f
    (c.is_used_up.ensures.0 c.if-is_used_up.true) before c.in_ok-write_separator.ensures)
    c.write_str-then-is_used_up.ensures.ok

pub write_pairs-loop-key-preserved : goal.write_pairs-loop-key-preserved
write_pairs-loop-key-preserved g t c =
    let took = g.W.Write.write_str_gives in
    let T = g.X.ExtensionValue.text_of in
    let n = c.args.n in
    let e : RcStr Global × Value _ = (c.in-Some.key.now, c.in-Some.value.now) in
    let left = c.next.new.self in
    let f = c.loop-key.f in
    let whole = bounded_text T n (RecordValue (bare_pairs c.args.pairs.now.entries)) in
    let before = subst (λ es. Completes took c.args.f.now whole f (rest c.loop-key.is_first c.loop-key.room (map (pair_text T n) es) ++ codes "}"))
    c.in-Some.ensures.steps c.loop-key.invariant in
    let pair = subst (λ x. WritesInCalls took c.write_separator.new.f x c.write_value.new.f)
    (ap (λ k. (key_text k ++ codes ": ") ++ value_text T n e.1) c.as_str.ensures.value ∙ append_assoc (key_text (rc_str_bytes e.0)) (codes ": ") (value_text T n e.1))
    (writes_in_calls_append took c.write_separator.new.f _ c.write_key.new.f _ c.write_value.new.f c.in_ok-write_key.ensures c.in_ok-write_value.ensures) in
    item_written took c.args.f.now whole c.loop-key.is_first c.loop-key.room c.one_less-room.result (pair_text T n e) (map (pair_text T n) left) (codes "}")
    f c.write_separator.new.f c.write_value.new.f
    (λ is. false≢true (sym c.if-is_used_up.false ∙ c.is_used_up.ensures.1 is)) c.one_less-room.ensures before c.in_ok-write_separator.ensures pair

pub write_pairs-returns : goal.write_pairs-returns
write_pairs-returns g t c =
    let took = g.W.Write.write_str_gives in
    let T = g.X.ExtensionValue.text_of in
    let n = c.args.n in
    let f = c.loop-key.f in
    let whole = bounded_text T n (RecordValue (bare_pairs c.args.pairs.now.entries)) in
    let none : c.loop-key.key-iterator ≡ [] = search rules in
    last_call took c.args.f.now whole f (codes "}") _ c.write_str-2.result
    (subst (λ es. Completes took c.args.f.now whole f (rest c.loop-key.is_first c.loop-key.room (map (pair_text T n) es) ++ codes "}")) none c.loop-key.invariant)
    c.write_str-2.ensures.ok
