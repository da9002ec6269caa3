-- Maps by names, and those that keep the last value of each name.
use Rattle.std.proofs.Common.{◌≡◌, Bool, cond, if◌then◌else◌, Some, None, List, [], ◌∷◌, ◌++◌, BTreeMap, sym, ap, ◌∙◌}
use Rattle.std.proofs.lemmas.List.Sums.{fold-append}
use Rattle.std.specs.BTreeMap.{get, is_at}
use Rattle.std.specs.Map.{lookup}
use Rattle.std.specs.Ordering.{on}
use Rattle.cedar_names.specs.NameOrder.{name_cmp, name_eq, name_ties}
use Rattle.cedar_names.specs.Names.{BareName}
use Rattle.cedar_names.specs.PlainNames.{bare_name}
use Rattle.cedar_names.specs.declared.name.Name.{Name}
use Rattle.cedar_calls.specs.NamedFunctions.{last_such}
use Rattle.cedar_calls.specs.NameMaps.{value_at}

-- a map's own search finds the value at the name
pub found : {V : Type 0} (m : BTreeMap Name V) (name : Name)
    → get (on bare_name name_cmp) m name ≡ value_at (bare_name name) m
found m name = ap (λ test. lookup test m.entries)
    (λ i key. sym (name_ties (bare_name name) (bare_name key)) i)

-- a map that was updated at a key
pub updated : {V : Type 0} (m n : BTreeMap Name V) (key name : Name) (v : V)
    → get (on bare_name name_cmp) n name
    ≡ cond (is_at (on bare_name name_cmp key) name) (Some v) (get (on bare_name name_cmp) m name)
    → value_at (bare_name name) n
    ≡ (if name_eq (bare_name key) (bare_name name) then Some v else value_at (bare_name name) m)
updated m n key name v now =
    sym (found n name) ∙ (now
    ∙ (ap (λ b. if b then Some v else get (on bare_name name_cmp) m name) (sym (name_ties (bare_name key) (bare_name name)))
    ∙ ap (λ old. if name_eq (bare_name key) (bare_name name) then Some v else old) (found m name)))

-- the last of a list with one more item
last_such-push : {A : Type 0} (test : A → Bool) (xs : List A) (x : A) → last_such test (xs ++ x ∷ []) ≡ (if test x then Some x else last_such test xs)
last_such-push test xs x = fold-append (λ found a. if test a then Some a else found) None xs (x ∷ [])

-- a map that has the last value of each name still has it with one more
pub still_last : {A : Type 0} (name_of : A → BareName) (m n : BTreeMap Name A) (a : A) (before : List A)
    → ((q : Name) → value_at (bare_name q) m ≡ last_such (λ x. name_eq (name_of x) (bare_name q)) before)
    → ((q : Name) → value_at (bare_name q) n ≡ (if name_eq (name_of a) (bare_name q) then Some a else value_at (bare_name q) m))
    → (q : Name) → value_at (bare_name q) n ≡ last_such (λ x. name_eq (name_of x) (bare_name q)) (before ++ a ∷ [])
still_last name_of m n a before was now q =
    now q
    ∙ (ap (λ old. if name_eq (name_of a) (bare_name q) then Some a else old) (was q)
    ∙ sym (last_such-push (λ x. name_eq (name_of x) (bare_name q)) before a))

-- an empty map has nothing at any name
pub none_yet : {A : Type 0} (m : BTreeMap Name A) → m.entries ≡ [] → (q : Name) → value_at (bare_name q) m ≡ None
none_yet m empty q = ap (λ es. lookup (λ key. name_eq (bare_name q) (bare_name key)) es) empty
