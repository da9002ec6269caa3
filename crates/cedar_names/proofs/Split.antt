-- A text of a name is cut at its first `::` into an identifier and a text of a name.
use Rattle.std.proofs.Common.{◌≡◌, ◌≢◌, ℕ, zero, suc, ◌<◌, ◌≤◌, List, [], ◌∷◌, ◌++◌, length, drop, true, false, IsTrue, refl, sym, ◌∙◌, ap, arith}
use Rattle.std.specs.List.{list_all}
use Rattle.std.specs.Str.Pattern.{FindsText, LacksTextAt, SplitsAroundMatch}
use Rattle.std.proofs.lemmas.Bool.{false≢true, and_parts, and_from}
use Rattle.std.proofs.lemmas.List.{drop_at, take-append-drop, append_assoc, append-nil, length-append}
use Rattle.std.proofs.lemmas.Grind.{flat_map-append}
use Rattle.cedar_names.specs.Grammar.{is_start, is_part, is_any_id, is_id}
use Rattle.cedar_names.specs.Names.{BareName, IsNameOfIds, name_text, path_text, IsNameText}
use Rattle.cedar_names.specs.Readers.{OnReadError, IsNeverReserved}
use Rattle.cedar_names.specs.declared.err.ParseErrors.{ParseErrors}
use Rattle.cedar_names.specs.declared.err.ParseErrors.TheVariants.{NotNormalized, Reserved, Memory}
use Rattle.std.proofs.lemmas.Bool.Decides.{nat_tests}

start-part : (b : ℕ) → is_start b ≡ true → is_part b ≡ true
start-part b h = grind (arith, nat_tests)

colon-part : (b : ℕ) → is_part b ≡ true → b ≡ 58 → ⊥
colon-part b h e = false≢true (rw e at h)

-- the bytes of an identifier are those that may stand behind its first
pub id-parts : (s : List ℕ) → is_id s ≡ true → list_all is_part s ≡ true
id-parts [] h = refl
id-parts (b ∷ bs) h =
    let any = (and_parts (is_any_id (b ∷ bs)) _ h).0 in
    let each = and_parts (is_start b) (list_all is_part bs) any in
    and_from (is_part b) (list_all is_part bs) (start-part b each.0) each.1

no_colon : (xs ys : List ℕ) → list_all is_part (xs ++ (58 ∷ ys)) ≡ true → ⊥
no_colon [] ys h = false≢true h
no_colon (x ∷ xs) ys h = no_colon xs ys (and_parts (is_part x) (list_all is_part (xs ++ (58 ∷ ys))) h).1

-- no `::` begins in front of the end of xs
abbrev pub IsFirstCut : List ℕ → List ℕ → Type 0
IsFirstCut xs s = (i : ℕ) → i < length xs → (rest : List ℕ) → drop i s ≢ 58 ∷ 58 ∷ rest

-- no `::` begins inside the bytes of an identifier
cut_behind_parts : (xs ys : List ℕ) → list_all is_part xs ≡ true → IsFirstCut xs (xs ++ (58 ∷ 58 ∷ ys))
cut_behind_parts [] ys h i l rest e = absurd (omega arith)
cut_behind_parts (x ∷ xs) ys h zero l rest e = absurd (colon-part x (and_parts (is_part x) (list_all is_part xs) h).0 cc)
cut_behind_parts (x ∷ xs) ys h (suc i) l rest e =
    cut_behind_parts xs ys (and_parts (is_part x) (list_all is_part xs) h).1 i (omega arith) rest e

cut_alike : (p xs t ys : List ℕ) → list_all is_part p ≡ true → p ++ (58 ∷ 58 ∷ t) ≡ xs ++ (58 ∷ 58 ∷ ys) → IsFirstCut xs (xs ++ (58 ∷ 58 ∷ ys)) → (p ≡ xs) × (t ≡ ys)
cut_alike [] [] t ys h e f = (refl, cc)
cut_alike [] (x ∷ xs) t ys h e f = absurd (f 0 (omega arith) t (sym e))
cut_alike (x ∷ p) [] t ys h e f = absurd (colon-part x (and_parts (is_part x) (list_all is_part p) h).0 cc)
cut_alike (x ∷ p) (y ∷ xs) t ys h e f =
    let same : x ≡ y = cc in
    let r : (p ≡ xs) × (t ≡ ys) = cut_alike p xs t ys (and_parts (is_part x) (list_all is_part p) h).1 (cc) (λ (i : ℕ) (l : i < length xs). f (suc i) (omega arith)) in
    (cc, r.1)

-- the text of a name begins with its first identifier and `::`
text_begins : (p : List ℕ) (ps : List (List ℕ)) (b : List ℕ) → path_text (p ∷ ps) ++ b ≡ p ++ (58 ∷ 58 ∷ (path_text ps ++ b))
text_begins p ps b = append_assoc (p ++ (58 ∷ 58 ∷ [])) (path_text ps) b ∙ append_assoc p (58 ∷ 58 ∷ []) (path_text ps ++ b)

cut_parts : (path : List (List ℕ)) (b xs ys : List ℕ) → IsTrue (list_all is_id path) → IsTrue (is_id b) → path_text path ++ b ≡ xs ++ (58 ∷ 58 ∷ ys) → IsFirstCut xs (xs ++ (58 ∷ 58 ∷ ys)) → IsTrue (is_id xs) × IsNameText ys
cut_parts [] b xs ys h i e f = absurd (no_colon xs (58 ∷ ys) (ap (list_all is_part) (sym e) ∙ id-parts b i))
cut_parts (p ∷ ps) b xs ys h i e f =
    let ids = and_parts (is_id p) (list_all is_id ps) h in
    let r = cut_alike p xs (path_text ps ++ b) ys (id-parts p ids.0) (sym (text_begins p ps b) ∙ e) f in
    (ap is_id (sym r.0) ∙ ids.0, (record { path = ps; basename = b }, (ids.1, i), r.1))

pub IsNameText-cut : (s xs ys : List ℕ) → s ≡ xs ++ (58 ∷ 58 ∷ ys) → IsFirstCut xs s → IsNameText s → IsTrue (is_id xs) × IsNameText ys
IsNameText-cut s xs ys e f n = cut_parts n.0.path n.0.basename xs ys n.1.0 n.1.1 (n.2 ∙ e) (rw e at f)

last_part : (path : List (List ℕ)) (b s : List ℕ) → path_text path ++ b ≡ s → IsTrue (is_id b) → ((i : ℕ) → i ≤ length s → (rest : List ℕ) → drop i s ≢ 58 ∷ 58 ∷ rest) → IsTrue (is_id s)
last_part [] b s e h f = rw (← e) h
last_part (p ∷ ps) b s e h f =
    let whole : p ++ (58 ∷ 58 ∷ (path_text ps ++ b)) ≡ s = sym (text_begins p ps b) ∙ e in
    absurd (f (length p) (omega (arith, ap length whole, length-append p (58 ∷ 58 ∷ (path_text ps ++ b)))) (path_text ps ++ b)
    (ap (drop (length p)) (sym whole) ∙ drop_at p (58 ∷ 58 ∷ (path_text ps ++ b)) (length p) refl))

pub IsNameText-last : (s : List ℕ) → ((i : ℕ) → i ≤ length s → LacksTextAt (58 ∷ 58 ∷ []) s i) → IsNameText s → IsTrue (is_id s)
IsNameText-last s f n = last_part n.0.path n.0.basename s n.2 n.1.1 f

-- a reader that refuses a part for its grammar refuses the whole, where no name has that part
pub OnReadError-part : (e : ParseErrors) (word part whole : List ℕ) → (is_id part ≡ false → IsNameText whole → ⊥) → OnReadError e word (is_id part ≡ false) (IsNeverReserved part) → OnReadError e word (IsNameText whole → ⊥) (IsNeverReserved whole)
OnReadError-part (NotNormalized kind) word part whole f h = (f h.0, h.1)
OnReadError-part (Reserved r) word part whole f h = h
OnReadError-part Memory word part whole f h = tt

-- what `split_once("::")` ensures of its parts
pub split_parts : (s xs ys : List ℕ) → SplitsAroundMatch (FindsText (58 ∷ 58 ∷ [])) s xs ys → (s ≡ xs ++ (58 ∷ 58 ∷ ys)) × IsFirstCut xs s
split_parts s xs ys h = (
  sym (take-append-drop h.0 s) ∙ (ap (λ a. a ++ drop h.0 s) (sym h.3) ∙ ap (λ a. xs ++ a) (h.2.1.split ∙ ap (λ a. 58 ∷ 58 ∷ a) (sym h.4))),
  λ i l. h.2.0 i (omega (arith, h.6)),
)

-- the name is that of the text behind the part that was taken
pub IsNameText-later : (s xs ys : List ℕ) → SplitsAroundMatch (FindsText (58 ∷ 58 ∷ [])) s xs ys → IsNameText s → IsNameText ys
IsNameText-later s xs ys h n = let r = split_parts s xs ys h in (IsNameText-cut s xs ys r.0 r.1 n).1

-- a part that is no identifier stands in no text of a name
pub part_refused : (s xs ys : List ℕ) → SplitsAroundMatch (FindsText (58 ∷ 58 ∷ [])) s xs ys → is_id xs ≡ false → IsNameText s → ⊥
part_refused s xs ys h e n = let r = split_parts s xs ys h in false≢true (sym e ∙ (IsNameText-cut s xs ys r.0 r.1 n).0)

pub last_refused : (s : List ℕ) → ((i : ℕ) → i ≤ length s → LacksTextAt (58 ∷ 58 ∷ []) s i) → is_id s ≡ false → IsNameText s → ⊥
last_refused s f e n = false≢true (sym e ∙ IsNameText-last s f n)

-- one identifier more, and `::`, are taken from the text that is left
pub path_text-more : (ps : List (List ℕ)) (p s later : List ℕ) → s ≡ p ++ (58 ∷ 58 ∷ later) → path_text (ps ++ (p ∷ [])) ++ later ≡ path_text ps ++ s
path_text-more ps p s later e = rw e (simp (flat_map-append, append-nil, append_assoc))

texts_differ : (ps qs : List (List ℕ)) (b c : List ℕ) → IsTrue (list_all is_id ps) → IsTrue (list_all is_id qs) → IsTrue (is_id b) → IsTrue (is_id c) → path_text ps ++ b ≡ path_text qs ++ c → (ps ≡ qs) × (b ≡ c)
texts_differ [] [] b c h k i j e = (refl, e)
texts_differ [] (q ∷ qs) b c h k i j e = absurd (no_colon q (58 ∷ (path_text qs ++ c)) (ap (list_all is_part) (sym (e ∙ text_begins q qs c)) ∙ id-parts b i))
texts_differ (p ∷ ps) [] b c h k i j e = absurd (no_colon p (58 ∷ (path_text ps ++ b)) (ap (list_all is_part) (sym (sym e ∙ text_begins p ps b)) ∙ id-parts c j))
texts_differ (p ∷ ps) (q ∷ qs) b c h k i j e =
    let here = and_parts (is_id p) (list_all is_id ps) h in
    let there = and_parts (is_id q) (list_all is_id qs) k in
    let cut = cut_behind_parts q (path_text qs ++ c) (id-parts q there.0) in
    let r = cut_alike p q (path_text ps ++ b) (path_text qs ++ c) (id-parts p here.0) (sym (text_begins p ps b) ∙ (e ∙ text_begins q qs c)) cut in
    let s = texts_differ ps qs b c here.1 there.1 i j r.1 in
    (λ n. r.0 n ∷ s.0 n, s.1)

-- no two names of identifiers have one text
pub name_text-differs : (m n : BareName) → IsNameOfIds m → IsNameOfIds n → name_text m ≡ name_text n → m ≡ n
name_text-differs m n h k e =
    let r = texts_differ m.path n.path m.basename n.basename h.0 k.0 h.1 k.1 e in
    λ i. record { path = r.0 i; basename = r.1 i }
