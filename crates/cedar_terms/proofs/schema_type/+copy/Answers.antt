use Rattle.std.proofs.Common.{◌≡◌, [], ◌∷◌, ◌++◌, ap, ◌∙◌, sym, subst, append_assoc, append-nil}
use Rattle.std.specs.List.Sorted.{IsStrictlySortedBy}
use Rattle.std.specs.Map.{keys_of}
use Rattle.std.specs.Rc.{rc_str_bytes}
use Rattle.cedar_terms.proofs.AttributeLemmas.{Entry, rows, seen, text_cmp, rows-insert_entry, put_last, same_attributes, same_places}
use Rattle.cedar_terms.proofs.schema_type.+copy.Goals as goal

pub clone_attributes-loop-key-preserved : goal.clone_attributes-loop-key-preserved
clone_attributes-loop-key-preserved t c =
    let l = c.loop-key in
    let done = l.invariant.0 in
    let e : Entry = (c.in-Some.key.now, c.in-Some.ty.now) in
    let left = c.next.new.self in
    let all : c.args.attrs.now.entries ≡ done ++ e ∷ left = l.invariant.1 ∙ ap (λ es. done ++ es) c.in-Some.ensures.steps in
    let last = put_last done e left (subst (λ es. IsStrictlySortedBy text_cmp (keys_of es)) all c.iter-key-items.ensures.ordered) in
    let copied = c.in_ok-clone_schema_type in
    let named : rc_str_bytes c.in_ok-name.name ≡ rc_str_bytes e.0 = c.in_ok-name.ensures.cases in
    let same : seen copied.field-0 ≡ seen e.1 = λ i. (copied.ensures.bare i, copied.ensures.places i) in (
      done ++ e ∷ [],
      all ∙ sym (append_assoc done (e ∷ []) left),
      ap rows c.in_ok-insert.ensures.entries
          ∙ rows-insert_entry l.copy.entries c.in_ok-name.name copied.field-0
          ∙ rw (named, same, l.invariant.2) last,
    )

pub clone_attributes-returns-clause-bare : goal.clone_attributes-returns-clause-bare
clone_attributes-returns-clause-bare t c =
    let l = c.loop-key in
    let all : c.args.attrs.now.entries ≡ l.invariant.0 = l.invariant.1 ∙ ap (λ es. l.invariant.0 ++ es) c.in-None.ensures.steps.0 ∙ append-nil l.invariant.0 in
    same_attributes l.copy.entries c.args.attrs.now.entries (l.invariant.2 ∙ ap rows (sym all))

pub clone_attributes-returns-clause-places : goal.clone_attributes-returns-clause-places
clone_attributes-returns-clause-places t c =
    let l = c.loop-key in
    let all : c.args.attrs.now.entries ≡ l.invariant.0 = l.invariant.1 ∙ ap (λ es. l.invariant.0 ++ es) c.in-None.ensures.steps.0 ∙ append-nil l.invariant.0 in
    same_places l.copy.entries c.args.attrs.now.entries (l.invariant.2 ∙ ap rows (sym all))
