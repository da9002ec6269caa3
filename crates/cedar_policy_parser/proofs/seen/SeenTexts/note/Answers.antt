use Rattle.std.proofs.Common.{◌≡◌, not, [], ◌∷◌, ◌++◌, ◌∙◌, ap, rules}
use Rattle.std.specs.Rc.{rc_str_bytes}
use Rattle.cedar_builders.specs.Keys.{is_among}
use Rattle.cedar_policy_parser.proofs.SeenLemmas.{seen_more}
use Rattle.cedar_policy_parser.proofs.seen.SeenTexts.note.Goals as goal

pub returns : goal.returns
returns c ks seen =
    let key = c.in_ok-clone.field-0 in
    let same : rc_str_bytes key ≡ rc_str_bytes c.args.text.now = search rules in
    let inserted = c.in_ok-insert.ensures in (
      inserted.added ∙ ap not (seen key ∙ ap (λ t. is_among t ks) same),
      λ q. seen_more ks c.args.self.now.texts c.insert.new.self key inserted.updates seen q
          ∙ ap (λ t. is_among (rc_str_bytes q) (ks ++ (t ∷ []))) same,
    )
