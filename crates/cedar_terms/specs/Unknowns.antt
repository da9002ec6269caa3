-- Unknowns without places (Cedar's file `expr.rs`).
use Rattle.std.specs.Prelude.{◌≡◌, ℕ, List, Bool, true, Option, nat_eq, ◌++◌}
use Rattle.std.specs.Bool.{Decides}
use Rattle.std.specs.Cmp.{IsEquivalence, decided}
use Rattle.std.specs.Cmp.Lexicographic.{pointwise, bytes_decides}
use Rattle.std.specs.Hash as fed
use Rattle.std.specs.Hash.{HashWrites}
use Rattle.std.specs.Option.{option_and_then, option_eq, option_map}
use Rattle.std.specs.Ordering.{on, eq_of_both}
use Rattle.std.specs.Rc.{rc_str_bytes}
use Rattle.std.proofs.Common.{ap}
use Rattle.std.proofs.lemmas.Bool.Decides.{Decides-and, Decides-like}
use Rattle.cedar_names.specs.Place.{Place}
use Rattle.cedar_terms.specs.declared.types.«Type».{«Type»}
use Rattle.cedar_terms.specs.declared.unknown.Unknown.{Unknown}
use Rattle.cedar_terms.specs.Types.{BareType, bare_type, type_place}
use Rattle.cedar_terms.specs.TypeOrder.{options_decide, type_eq, type_fed, type_eq_decides}

-- the type that an unknown is annotated with, without places
abbrev pub bare_annotation : Option «Type» → Option BareType
bare_annotation a = option_map bare_type a

-- an unknown without places: the bytes of its name, and the annotation
pub record BareUnknown : Type 0 where
  pub name : List ℕ
  pub annotation : Option BareType

-- an unknown without places
abbrev pub bare_unknown : Unknown → BareUnknown
bare_unknown u = record {
  name = rc_str_bytes u.name;
  annotation = bare_annotation u.type_annotation;
}

-- the place of the name in the annotation, if there is one
abbrev pub annotation_place : Option «Type» → Option Place
annotation_place a = option_and_then type_place a

-- the place inside the annotation of an unknown, if there is one
abbrev pub unknown_place : Unknown → Option Place
unknown_place u = annotation_place u.type_annotation

-- unknowns are equal where names and annotations are
abbrev pub unknown_eq : BareUnknown → BareUnknown → Bool
unknown_eq =
    eq_of_both (on (λ u. u.name) (pointwise nat_eq)) (on (λ u. u.annotation) (option_eq type_eq))

abbrev pub unknown_fed : BareUnknown → HashWrites
unknown_fed u = fed.str u.name ++ fed.option type_fed u.annotation

same_parts : (u v : BareUnknown) → u.name ≡ v.name → u.annotation ≡ v.annotation → u ≡ v
same_parts u v h k = λ i. record { name = h i; annotation = k i }

pub unknown_eq_decides : (u v : BareUnknown) → Decides (unknown_eq u v) (u ≡ v)
unknown_eq_decides u v = Decides-like (unknown_eq u v)
    (λ h. same_parts u v h.0 h.1)
    (λ e. (ap (λ x. x.name) e, ap (λ x. x.annotation) e))
    (Decides-and (pointwise nat_eq u.name v.name) (option_eq type_eq u.annotation v.annotation) (bytes_decides u.name v.name) (options_decide type_eq_decides u.annotation v.annotation))

pub unknown_eq_equiv : IsEquivalence unknown_eq
unknown_eq_equiv = decided unknown_eq unknown_eq_decides

pub unknown_fed-alike : (u v : BareUnknown) → unknown_eq u v ≡ true → unknown_fed u ≡ unknown_fed v
unknown_fed-alike u v h = ap unknown_fed ((unknown_eq_decides u v).0 h)
