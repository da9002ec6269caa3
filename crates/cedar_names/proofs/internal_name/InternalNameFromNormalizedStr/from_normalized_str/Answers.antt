use Rattle.std.proofs.Common.{rules, ◌≡◌, ◌∷◌, ◌++◌, [], ◌∙◌}
use Rattle.std.proofs.lemmas.Bool.{and_from}
use Rattle.std.proofs.lemmas.List.Folds.{list_all-append}
use Rattle.std.proofs.lemmas.Result.{err_from_is_err_and}
use Rattle.cedar_names.proofs.Split.{IsNameText-later, part_refused, last_refused, path_text-more, split_parts, OnReadError-part}
use Rattle.cedar_names.proofs.internal_name.InternalNameFromNormalizedStr.from_normalized_str.Goals as goal

pub returns-in_err-read_id-clause-refused : goal.returns-in_err-read_id-clause-refused
returns-in_err-read_id-clause-refused c =
    let p = err_from_is_err_and c.from_residual.result c.from_residual.ensures.1 in
    rw (p.1, p.2) (OnReadError-part _ _ c.in-Some.first.now c.args.s.now (λ e n. part_refused c.parts.rest.now c.in-Some.first.now c.in-Some.later.now c.in-Some.ensures.cases e (c.parts.invariant.still n)) c.in_err-read_id.ensures.refused)

pub parts-preserved : goal.parts-preserved
parts-preserved c =
    let i = c.parts.invariant in
    let r = split_parts c.parts.rest.now c.in-Some.first.now c.in-Some.later.now c.in-Some.ensures.cases in
    let items : c.push.new.self.items ≡ c.parts.path.items ++ (c.in-Some.first.now ∷ []) = search rules in
    record {
      rest_utf8 = search rules;
      made = rw items (path_text-more _ _ _ _ r.0 ∙ i.made);
      ids = rw (items, list_all-append) (and_from _ _ i.ids (search rules));
      still = λ n. IsNameText-later c.parts.rest.now c.in-Some.first.now c.in-Some.later.now c.in-Some.ensures.cases (i.still n);
    }

pub returns-in_err-basename-clause-refused : goal.returns-in_err-basename-clause-refused
returns-in_err-basename-clause-refused c =
    let p = err_from_is_err_and c.from_residual-in_err-basename.result c.from_residual-in_err-basename.ensures.1 in
    rw (p.1, p.2) (OnReadError-part _ _ c.parts.rest.now c.args.s.now (λ e n. last_refused c.parts.rest.now c.in_default.ensures.cases e (c.parts.invariant.still n)) c.in_err-basename.ensures.refused)
