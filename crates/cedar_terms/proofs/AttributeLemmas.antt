-- A map that is filled by ascending keys.
use Rattle.std.proofs.Common.{◌≡◌, ℕ, List, [], ◌∷◌, ◌++◌, Option, Ordering, Less, Equal, Greater, map, nat_cmp, Global, refl, ap, sym, ◌∙◌}
use Rattle.std.proofs.lemmas.Cmp.{nat_list_cmp_total}
use Rattle.std.specs.BTreeMap.{insert_entry}
use Rattle.std.specs.Cmp.Lexicographic.{slice_cmp}
use Rattle.std.specs.List.{AllByRecursion}
use Rattle.std.specs.List.Sorted.{IsStrictlySortedBy}
use Rattle.std.specs.Map.{keys_of}
use Rattle.std.specs.Ordering.{match_ordering, ordering_reverse}
use Rattle.std.specs.Rc.{rc_str_bytes}
use Rattle.std.specs.declared.rc.RcStr.{RcStr}
use Rattle.cedar_names.specs.Place.{Place}
use Rattle.cedar_terms.specs.SchemaTypes.{Attributes, no_attributes, attribute, BareSchemaType, bare_attributes, bare_schema_type, schema_type_places, attribute_places, joined_places}
use Rattle.cedar_terms.specs.declared.schema_type.SchemaType.{SchemaType}

abbrev pub Entry : Type 0
Entry = RcStr Global × SchemaType

-- a type without places, and the places of its names
abbrev pub Seen : Type 0
Seen = BareSchemaType × List (Option Place)

abbrev pub seen : SchemaType → Seen
seen t = (bare_schema_type t, schema_type_places t)

-- the bytes of the key, and what is seen of its type
abbrev pub Row : Type 0
Row = List ℕ × Seen

abbrev pub rows : List Entry → List Row
rows es = map (λ e. (rc_str_bytes e.0, seen e.1)) es

abbrev row_attributes : List Row → Attributes
row_attributes [] = no_attributes
row_attributes (r ∷ rs) = attribute r.0 r.1.0 (row_attributes rs)

abbrev row_places : List Row → List (Option Place)
row_places rs = joined_places (map (λ r. (r.0, r.1.1)) rs)

attributes_of_rows : (es : List Entry) → row_attributes (rows es) ≡ bare_attributes es
attributes_of_rows [] = refl
attributes_of_rows (e ∷ es) = ap (attribute (rc_str_bytes e.0) (bare_schema_type e.1)) (attributes_of_rows es)

places_of_rows : (es : List Entry) → row_places (rows es) ≡ attribute_places es
places_of_rows [] = refl
places_of_rows (e ∷ es) = ap (λ ps. schema_type_places e.1 ++ ps) (places_of_rows es)

-- the same rows are the same attributes at the same places
pub same_attributes : (as_ bs : List Entry) → rows as_ ≡ rows bs → bare_attributes as_ ≡ bare_attributes bs
same_attributes as_ bs e = sym (attributes_of_rows as_) ∙ ap row_attributes e ∙ attributes_of_rows bs

pub same_places : (as_ bs : List Entry) → rows as_ ≡ rows bs → attribute_places as_ ≡ attribute_places bs
same_places as_ bs e = sym (places_of_rows as_) ∙ ap row_places e ∙ places_of_rows bs

abbrev pub text_cmp : RcStr Global → RcStr Global → Ordering
text_cmp a b = slice_cmp nat_cmp (rc_str_bytes a) (rc_str_bytes b)

-- the rows with a key set
abbrev pub put : List ℕ → Seen → List Row → List Row
put k s [] = (k, s) ∷ []
put k s (r ∷ rs) = match_ordering (slice_cmp nat_cmp k r.0) ((k, s) ∷ r ∷ rs) ((r.0, s) ∷ rs) (r ∷ put k s rs)

rows-match_ordering : (o : Ordering) (a b c : List Entry) → rows (match_ordering o a b c) ≡ match_ordering o (rows a) (rows b) (rows c)
rows-match_ordering Less a b c = refl
rows-match_ordering Equal a b c = refl
rows-match_ordering Greater a b c = refl

pub rows-insert_entry : (es : List Entry) (k : RcStr Global) (t : SchemaType) → rows (insert_entry text_cmp es k t) ≡ put (rc_str_bytes k) (seen t) (rows es)
rows-insert_entry [] k t = refl
rows-insert_entry (e ∷ es) k t = rows-match_ordering (text_cmp k e.0) _ _ _ ∙ rw (rows-insert_entry es k t)

below_middle : (first : Entry) (es : List Entry) (e : Entry) (more : List Entry) → AllByRecursion (λ y. text_cmp first.0 y ≡ Less) (keys_of (es ++ e ∷ more)) → text_cmp first.0 e.0 ≡ Less
below_middle first [] e more h = h.0
below_middle first (x ∷ es) e more h = below_middle first es e more h.1

-- a key that is above those before it goes last
pub put_last : (done : List Entry) (e : Entry) (more : List Entry) → IsStrictlySortedBy text_cmp (keys_of (done ++ e ∷ more))
    → put (rc_str_bytes e.0) (seen e.1) (rows done) ≡ rows (done ++ e ∷ [])
unfolding IsStrictlySortedBy
put_last [] e more h = refl
put_last (first ∷ done) e more h =
    let above : slice_cmp nat_cmp (rc_str_bytes e.0) (rc_str_bytes first.0) ≡ Greater =
    nat_list_cmp_total.antisymm (rc_str_bytes e.0) (rc_str_bytes first.0) ∙ ap ordering_reverse (below_middle first done e more h.0) in
    rw above (ap (λ rs. (rc_str_bytes first.0, seen first.1) ∷ rs) (put_last done e more h.1))
