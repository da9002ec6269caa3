-- One policy more.
use Rattle.std.proofs.Common.{◌≡◌, ℕ, ◌+◌, ◌<◌, List, [], ◌∷◌, ◌++◌, get_or, length, take, sym, ap, ◌∙◌}
use Rattle.std.proofs.lemmas.List.{append_assoc, append-nil, take_more}
use Rattle.std.specs.Rc.{rc_str_bytes}
use Rattle.semantics_authorize.specs.Policies as meant
use Rattle.cedar_policies.specs.Policies.{bare_policy}
use Rattle.cedar_policies.specs.declared.policy_set.Policy.{Policy}
use Rattle.cedar_decisions.specs.Decisions.{if_deciding}
use Rattle.cedar_decisions.specs.Sets.{deciding_in}

-- a policy, if it decides
abbrev one : Policy → List meant.Policy
one p = if_deciding (rc_str_bytes p.id) (bare_policy p.template)

deciding_next : (ps : List Policy) (p : Policy)
    → deciding_in (ps ++ p ∷ []) ≡ deciding_in ps ++ one p
deciding_next [] p = append-nil (one p)
deciding_next (q ∷ qs) p =
    ap (λ js. one q ++ js) (deciding_next qs p) ∙ sym (append_assoc (one q) (deciding_in qs) (one p))

-- the same of the first ones of a list and the next
pub deciding_more : (js ks : List meant.Policy) (ps : List Policy) (i : ℕ) (p : Policy)
    → i < length ps → p ≡ get_or ps i p → js ≡ deciding_in (take i ps) → ks ≡ js ++ one p
    → ks ≡ deciding_in (take (i + 1) ps)
deciding_more js ks ps i p within is before added =
    let taken = take_more ps i p within ∙ ap (λ q. take i ps ++ q ∷ []) (sym is) in
    added
    ∙ (ap (λ xs. xs ++ one p) before
    ∙ (sym (deciding_next (take i ps) p) ∙ ap deciding_in (sym taken)))
