-- Texts that were seen.
use Rattle.std.specs.Prelude.{◌≡◌, Bool, not, List, [], ◌∷◌, ◌++◌}
use Rattle.std.specs.BTreeSet.{contains}
use Rattle.std.specs.Cmp.Lexicographic.{slice_cmp}
use Rattle.std.specs.Global.{Global}
use Rattle.std.specs.Ordering.{nat_cmp}
use Rattle.std.specs.Rc.{rc_str_bytes}
use Rattle.std.specs.declared.cmp.Ordering.{Ordering}
use Rattle.std.specs.declared.rc.RcStr.{RcStr}
use Rattle.cedar_builders.specs.BareExpr.{Text}
use Rattle.cedar_builders.specs.Keys.{is_among}
use Rattle.cedar_policy_parser.specs.declared.seen.SeenTexts.{SeenTexts}

abbrev pub text_order : RcStr Global → RcStr Global → Ordering
text_order a b = slice_cmp nat_cmp (rc_str_bytes a) (rc_str_bytes b)

-- the texts that were seen are these
abbrev pub HasSeen : List Text → SeenTexts → Type 0
HasSeen ks s = (q : RcStr Global) → contains text_order s.texts q ≡ is_among (rc_str_bytes q) ks

-- one more is seen, which may be new
abbrev pub IsNoted : SeenTexts → Text → Bool → SeenTexts → Type 0
IsNoted old k is_new new = (ks : List Text) → HasSeen ks old → (is_new ≡ not (is_among k ks)) × HasSeen (ks ++ (k ∷ [])) new
