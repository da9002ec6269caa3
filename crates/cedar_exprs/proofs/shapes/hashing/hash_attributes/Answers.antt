use Rattle.std.proofs.Common.{◌≡◌, ℕ, ◌≤◌, ◌∙◌, ◌++◌, length, map, List, [], ◌∷◌, refl, ap, sym, arith, fold}
use Rattle.std.specs.Global.{Global}
use Rattle.std.specs.Hash as fed
use Rattle.std.specs.Rc.{rc_str_bytes}
use Rattle.std.specs.declared.rc.RcStr.{RcStr}
use Rattle.cedar_builders.specs.BareExpr.{Text}
use Rattle.cedar_builders.specs.ShapeFeed.{attributes_fed}
use Rattle.cedar_exprs.proofs.ShapeWalks.{texts_fed}
use Rattle.cedar_exprs.proofs.shapes.hashing.hash_attributes.Goals as goal

-- where there are two attributes or more, the first is fed and then the list of the others
more_fed : (k : Text) (ks : List (RcStr Global)) → 1 ≤ length ks → attributes_fed k (map rc_str_bytes ks) ≡ fed.str k ++ fed.slice fed.str (map rc_str_bytes ks)
more_fed k [] h = absurd (omega arith)
more_fed k (l ∷ ls) h = refl

fed_more :
    {S : Type 0} (write : S → List ℕ → S) (t u : S) (k : Text) (ks : List (RcStr Global)) → 1 ≤ length ks
    → u ≡ fold write t (fed.str k ++ fed.slice (λ l. fed.str (rc_str_bytes l)) ks) → u ≡ fold write t (attributes_fed k (map rc_str_bytes ks))
fed_more write t u k ks h is =
    is ∙ ap (λ xs. fold write t (fed.str k ++ xs)) (texts_fed ks) ∙ sym (ap (λ xs. fold write t xs) (more_fed k ks h))

pub returns-in-len1-up : goal.returns-in-len1-up
returns-in-len1-up g c =
    fed_more g.H.Hasher.write c.args.state.now _ (rc_str_bytes c.args.attrs.now.head) c.args.attrs.now.tail.items (omega arith) c.hash-in-len1-up.ensures
