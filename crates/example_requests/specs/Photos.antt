-- What the store of photos means. Identifiers alone tell its entities apart.
use Rattle.std.specs.Prelude.{Bool, false, codes, if◌then◌else◌}
use Rattle.std.specs.Str.{bytes_eq}
use Rattle.cedar_terms.specs.Entities.{BareEntityUID}
use Rattle.semantics_values.specs.BareValue.{BarePairs, no_pairs, pair}
use Rattle.semantics_request.specs.Entities.{Entity, Dereference, NotKnown, NoSuchEntity, Data}
use Rattle.cedar_values.specs.Holders.{NoExtension}
use Rattle.cedar_request.specs.Values.{tree_of}
use Rattle.example_requests.specs.declared.store.Entry.{Entry}
use Rattle.example_requests.specs.declared.store.Entry.TheVariants.{Alice, Beach}
use Rattle.example_requests.specs.declared.store.Photos.{Photos}

abbrev pub attributes_of : Entry → BarePairs NoExtension
attributes_of (Alice team) = no_pairs
attributes_of (Beach owner) = pair (codes "owner") (tree_of owner) no_pairs

abbrev pub tags_of : Entry → BarePairs NoExtension
tags_of (Alice team) = pair (codes "team") (tree_of team) no_pairs
tags_of (Beach owner) = no_pairs

-- an entry, where a test says which entities are its ancestors
abbrev pub bare_entry : (BareEntityUID → Bool) → Entry → Entity NoExtension
bare_entry above e = record {
  attributes = attributes_of e;
  tags = tags_of e;
  is_descendant_of = above;
}

abbrev pub bare_photos : Photos → BareEntityUID → Dereference NoExtension
bare_photos p u =
    if bytes_eq u.eid (codes "alice")
    then Data (bare_entry (λ v. bytes_eq v.eid (codes "friends")) p.alice)
    else if bytes_eq u.eid (codes "beach") then Data (bare_entry (λ v. false) p.beach)
    else if bytes_eq u.eid (codes "bob") then NotKnown
    else NoSuchEntity
