-- The record of some pairs: of equal keys the last counts (`ValueKind::record` of Cedar's `value.rs`).
use Rattle.std.specs.Prelude.{◌≡◌, Bool, List, [], ◌∷◌, Option, Some, None, if◌then◌else◌}
use Rattle.std.specs.Global.{Global}
use Rattle.std.specs.List.Sorted.{IsStrictlySortedBy}
use Rattle.std.specs.Map.{lookup, keys_of}
use Rattle.std.specs.Option.{option_or}
use Rattle.std.specs.Ordering.{nat_cmp, on}
use Rattle.std.specs.Cmp.Lexicographic.{slice_cmp}
use Rattle.std.specs.Rc.{rc_str_bytes}
use Rattle.std.specs.Str.{bytes_eq}
use Rattle.std.specs.declared.cmp.Ordering.{Ordering}
use Rattle.std.specs.declared.rc.RcStr.{RcStr}

-- keys in the order of their texts
abbrev pub key_cmp : RcStr Global → RcStr Global → Ordering
key_cmp = on rc_str_bytes (slice_cmp nat_cmp)

-- whether two keys are the same text
abbrev pub is_key : RcStr Global → RcStr Global → Bool
is_key k l = bytes_eq (rc_str_bytes k) (rc_str_bytes l)

-- the last value that some pairs give to a key
abbrev pub last_value : {V : Type 0} → List (RcStr Global × V) → RcStr Global → Option V
last_value [] k = None
last_value (p ∷ ps) k = option_or (last_value ps k) (if is_key p.0 k then Some p.1 else None)

-- each key of the pairs once, ascending, with the last value that they give to it
pub record IsLastOfEach {V : Type 0} (ps es : List (RcStr Global × V)) : Type 0 where
  pub ascending : IsStrictlySortedBy key_cmp (keys_of es)
  pub last : (k : RcStr Global) → lookup (is_key k) es ≡ last_value ps k
