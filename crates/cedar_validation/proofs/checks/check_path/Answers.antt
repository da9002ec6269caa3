use Rattle.std.proofs.Common.{◌≡◌, ◌≤◌, length, map, List, [], ◌∷◌, IfErr, refl, sym, subst, arith}
use Rattle.std.specs.Global.{Global}
use Rattle.std.specs.Rc.{rc_str_bytes}
use Rattle.std.specs.declared.rc.RcStr.{RcStr}
use Rattle.cedar_builders.specs.BareExpr.{Text}
use Rattle.cedar_validation.specs.Faults.{attribute_fault, path_fault}
use Rattle.cedar_validation.specs.ValidationErrors.{IsErrorOf}
use Rattle.cedar_validation.proofs.checks.check_path.Goals as goal

-- where there are two attributes or more, all are looked at
all_of : (k : Text) (ks : List (RcStr Global)) → 1 ≤ length ks → path_fault k (map rc_str_bytes ks) ≡ attribute_fault (k ∷ map rc_str_bytes ks)
all_of k [] h = absurd (omega arith)
all_of k (l ∷ ls) h = refl

pub returns-in-len1-up-clause-refused : goal.returns-in-len1-up-clause-refused
returns-in-len1-up-clause-refused c =
    subst (λ f. IfErr c.check_attributes.result (IsErrorOf f)) (sym (all_of (rc_str_bytes c.args.attrs.now.head) c.args.attrs.now.tail.items (omega arith))) c.check_attributes.ensures.refused
