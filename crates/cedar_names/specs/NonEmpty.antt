-- Lists of one item or more.
use Rattle.std.specs.Prelude.{List, ◌∷◌, ◌++◌, option_to_list}
use Rattle.std.specs.Option.{option_copied}
use Rattle.std.specs.Slice.Iter.{iter_rest}
use Rattle.std.specs.Vec.Iter.{into_iter_items}
use Rattle.cedar_names.specs.declared.non_empty.NonEmpty.{NonEmpty}
use Rattle.cedar_names.specs.declared.non_empty.NonEmptyIter.{NonEmptyIter}
use Rattle.cedar_names.specs.declared.non_empty.NonEmptyIntoIter.{NonEmptyIntoIter}

-- all its items
abbrev pub list_of : {T : Type 0} → NonEmpty T → List T
list_of x = x.head ∷ x.tail.items

-- the items that the iterator has left
abbrev pub rest_of : {T : Type 0} → NonEmptyIter T → List T
rest_of it = option_to_list (option_copied it.head) ++ iter_rest it.tail

-- the items that the iterator by value has left
abbrev pub owned_rest_of : {T : Type 0} → NonEmptyIntoIter T → List T
owned_rest_of it = option_to_list it.head ++ into_iter_items it.tail
