-- Walks over two expressions side by side, and what a walk over one feeds a hasher.
use Rattle.std.proofs.Common.{◌≡◌, ℕ, ◌+◌, ◌<◌, List, [], ◌∷◌, ◌++◌, map, true, false, Ordering, Less, Equal, Greater, Global, BTreeMap, Vec, refl, sym, ap, ◌∙◌, fold, length, get_or, drop, drop-cons, add-one}
use Rattle.std.proofs.lemmas.Bool.{true≢false}
use Rattle.std.proofs.lemmas.List.{append_assoc, length-map}
use Rattle.std.proofs.lemmas.List.Sums.{fold-append}
use Rattle.std.specs.Cmp.Lexicographic.{slice_cmp}
use Rattle.std.specs.List.{flat_map}
use Rattle.std.specs.Hash as fed
use Rattle.std.specs.Hash.{HashWrites}
use Rattle.std.specs.Ordering.{is_ne, nat_cmp}
use Rattle.std.specs.Rc.{rc_str_bytes}
use Rattle.std.specs.declared.rc.Rc.{Rc}
use Rattle.std.specs.declared.rc.RcStr.{RcStr}
use Rattle.cedar_names.specs.NameOrder.{name_cmp}
use Rattle.cedar_names.specs.PlainNames.{bare_name}
use Rattle.cedar_names.specs.declared.name.Name.{Name}
use Rattle.cedar_builders.specs.BareExpr.{BareExpr, BareExprs, BareFields}
use Rattle.cedar_builders.specs.ShapeFeed.{shape_fed, row_fed, fields_fed}
use Rattle.cedar_builders.specs.Shapes.{◌or_else◌, kind_number, row_count, field_count, shape_cmp, row_cmp, fields_cmp}
use Rattle.cedar_exprs.specs.BareExpr.{ExprKind, bare_expr, bare_expr_kind, bare_exprs, bare_fields, kind_of}
use Rattle.cedar_exprs.specs.declared.expr.Expr.{Expr}
use Rattle.cedar_exprs.specs.declared.expr.KindOf.TheVariants.{ExtensionFunctionApp as CallOf, Set as SetOf, Record as RecordOf}
use Rattle.cedar_exprs.proofs.ChildrenOf.{bare_at_call, bare_at_set, members-length, values-length}
use Rattle.cedar_exprs.proofs.Records.{Entry, bare_at_record, bare_kind_of}

-- ---- two trees

or_ne : (r s : Ordering) → true ≡ is_ne r → r ≡ (r or_else s)
or_ne Less s h = refl
or_ne Equal s h = absurd (true≢false h)
or_ne Greater s h = refl

or_eq : (r s : Ordering) → false ≡ is_ne r → (r or_else s) ≡ s
or_eq Less s h = absurd (true≢false (sym h))
or_eq Equal s h = refl
or_eq Greater s h = absurd (true≢false (sym h))

-- by their number, then pair by pair
abbrev pub pairs_cmp : BareFields → BareFields → Ordering
pairs_cmp ps qs = nat_cmp (field_count ps) (field_count qs) or_else fields_cmp ps qs

-- what a walk over two maps answers is the answer to the two records
pub cmp_of_records : {T U : Type 0} (a : Expr T) (b : Expr U) (ps : Rc (BTreeMap (RcStr Global) (Expr T)) Global) (qs : Rc (BTreeMap (RcStr Global) (Expr U)) Global) (ms : BTreeMap (RcStr Global) (Expr T)) (ns : BTreeMap (RcStr Global) (Expr U)) (r : Ordering)
    → kind_of a ≡ RecordOf ps → kind_of b ≡ RecordOf qs → ms ≡ ps.value → ns ≡ qs.value → r ≡ pairs_cmp (bare_fields ms.entries) (bare_fields ns.entries) → r ≡ shape_cmp (bare_expr a) (bare_expr b)
cmp_of_records a b ps qs ms ns r at_a at_b is_ms is_ns answer =
    rw (bare_at_record a ps at_a, bare_at_record b qs at_b, ← is_ms, ← is_ns) answer

-- by their number, then one by one
abbrev pub rows_cmp : BareExprs → BareExprs → Ordering
rows_cmp es fs = nat_cmp (row_count es) (row_count fs) or_else row_cmp es fs

-- what a walk over two rows answers is the answer to the two sets, and to the two calls of alike names
module _ {T U : Type 0} (a : Expr T) (b : Expr U) (es : Rc (Vec (Expr T) Global) Global) (fs : Rc (Vec (Expr U) Global) Global) (v : Vec (Expr T) Global) (w : Vec (Expr U) Global) (xs : List (Expr T)) (ys : List (Expr U)) (r : Ordering) where
  pub cmp_of_sets : kind_of a ≡ SetOf es → kind_of b ≡ SetOf fs → v ≡ es.value → w ≡ fs.value → xs ≡ v.items → ys ≡ w.items → r ≡ rows_cmp (bare_exprs xs) (bare_exprs ys) → r ≡ shape_cmp (bare_expr a) (bare_expr b)
  cmp_of_sets at_a at_b is_v is_w is_xs is_ys answer =
      rw (bare_at_set a es v at_a is_v, bare_at_set b fs w at_b is_w, ← is_xs, ← is_ys) answer

  pub cmp_of_calls : (n m : Name) → kind_of a ≡ CallOf n es → kind_of b ≡ CallOf m fs → name_cmp (bare_name n) (bare_name m) ≡ Equal → v ≡ es.value → w ≡ fs.value → xs ≡ v.items → ys ≡ w.items → r ≡ rows_cmp (bare_exprs xs) (bare_exprs ys) → r ≡ shape_cmp (bare_expr a) (bare_expr b)
  cmp_of_calls n m at_a at_b alike is_v is_w is_xs is_ys answer =
      rw (bare_at_call a n es v at_a is_v, bare_at_call b m fs w at_b is_w, alike, ← is_xs, ← is_ys) answer

module _ {T U : Type 0} (es : List (Expr T)) (fs : List (Expr U)) (n : Ordering) (is : n ≡ nat_cmp (length es) (length fs)) where
  counts : n ≡ nat_cmp (row_count (bare_exprs es)) (row_count (bare_exprs fs))
  counts = is ∙ λ i. nat_cmp (sym (members-length es) i) (sym (members-length fs) i)

  pub uneven : true ≡ is_ne n → n ≡ rows_cmp (bare_exprs es) (bare_exprs fs)
  uneven h = or_ne n (row_cmp (bare_exprs es) (bare_exprs fs)) h ∙ ap (λ r. r or_else row_cmp (bare_exprs es) (bare_exprs fs)) counts

  pub even : false ≡ is_ne n → row_cmp (bare_exprs es) (bare_exprs fs) ≡ rows_cmp (bare_exprs es) (bare_exprs fs)
  even h = sym (or_eq n (row_cmp (bare_exprs es) (bare_exprs fs)) h) ∙ ap (λ r. r or_else row_cmp (bare_exprs es) (bare_exprs fs)) counts

module _ {T U : Type 0} (es : List (Entry T)) (fs : List (Entry U)) (n : Ordering) (is : n ≡ nat_cmp (length es) (length fs)) where
  pair_counts : n ≡ nat_cmp (field_count (bare_fields es)) (field_count (bare_fields fs))
  pair_counts = is ∙ λ i. nat_cmp (sym (values-length es) i) (sym (values-length fs) i)

  pub uneven_pairs : true ≡ is_ne n → n ≡ pairs_cmp (bare_fields es) (bare_fields fs)
  uneven_pairs h = or_ne n (fields_cmp (bare_fields es) (bare_fields fs)) h ∙ ap (λ r. r or_else fields_cmp (bare_fields es) (bare_fields fs)) pair_counts

  pub even_pairs : false ≡ is_ne n → fields_cmp (bare_fields es) (bare_fields fs) ≡ pairs_cmp (bare_fields es) (bare_fields fs)
  even_pairs h = sym (or_eq n (fields_cmp (bare_fields es) (bare_fields fs)) h) ∙ ap (λ r. r or_else fields_cmp (bare_fields es) (bare_fields fs)) pair_counts

module _ {T U : Type 0} (es : List (Expr T)) (i : ℕ) (e : Expr T) (f : Expr U) (left right : List (Expr U)) (w r : Ordering) (lt : i < length es) (is : e ≡ get_or es i e) (steps : right ≡ f ∷ left) (answer : row_cmp (bare_exprs (drop i es)) (bare_exprs right) ≡ w) (first : r ≡ shape_cmp (bare_expr e) (bare_expr f)) where
  first_two : row_cmp (bare_exprs (drop i es)) (bare_exprs right) ≡ (shape_cmp (bare_expr e) (bare_expr f) or_else row_cmp (bare_exprs (drop (i + 1) es)) (bare_exprs left))
  first_two = rw (steps, drop-cons es i e, ← is, add-one)

  then_rest : (r or_else row_cmp (bare_exprs (drop (i + 1) es)) (bare_exprs left)) ≡ w
  then_rest = ap (λ q. q or_else row_cmp (bare_exprs (drop (i + 1) es)) (bare_exprs left)) first ∙ sym first_two ∙ answer

  pub same_so_far : false ≡ is_ne r → row_cmp (bare_exprs (drop (i + 1) es)) (bare_exprs left) ≡ w
  same_so_far h = sym (or_eq r _ h) ∙ then_rest

  pub differ_here : true ≡ is_ne r → r ≡ w
  differ_here h = or_ne r _ h ∙ then_rest

-- an order of texts by their bytes is that of the lists of bytes
pub slices_map : (xs ys : List (RcStr Global)) → slice_cmp (λ x y. slice_cmp nat_cmp (rc_str_bytes x) (rc_str_bytes y)) xs ys ≡ slice_cmp (slice_cmp nat_cmp) (map rc_str_bytes xs) (map rc_str_bytes ys)
slices_map [] [] = refl
slices_map [] (y ∷ ys) = refl
slices_map (x ∷ xs) [] = refl
slices_map (x ∷ xs) (y ∷ ys) = ap (λ r. slice_cmp nat_cmp (rc_str_bytes x) (rc_str_bytes y) or_else r) (slices_map xs ys)

-- ---- what is fed

-- the number of a kind is that of its tree
pub number_of : {T : Type 0} (e : Expr T) (k : ExprKind T) (n : ℕ) → k ≡ kind_of e → n ≡ kind_number (bare_expr_kind k) → n ≡ kind_number (bare_expr e)
number_of e k n at is = is ∙ ap (λ x. kind_number (bare_expr_kind x)) at ∙ ap kind_number (sym (bare_kind_of e))

-- what a node feeds is what the number of its kind and then its fields feed
module _ {T S : Type 0} (write : S → List ℕ → S) (s t : S) (number : ℕ) (e : Expr T) (k : ExprKind T) where
  pub fed_of_node : k ≡ kind_of e → number ≡ kind_number (bare_expr_kind k) → t ≡ fold write s (fed.u8 number) → (b : BareExpr) (fields : HashWrites) (u : S)
      → bare_expr e ≡ b → (fed.u8 (kind_number b) ++ fields) ≡ shape_fed b → u ≡ fold write t fields → u ≡ fold write s (shape_fed (bare_expr e))
  fed_of_node at number_is first b fields u is joined then =
      then ∙ ap (λ r. fold write r fields) (first ∙ ap (λ n. fold write s (fed.u8 n)) (number_of e k number at number_is ∙ ap kind_number is))
      ∙ sym (fold-append write s (fed.u8 (kind_number b)) fields) ∙ ap (fold write s) (joined ∙ ap shape_fed (sym is))

pub in_four : {A : Type 0} (x y z w : List A) → (x ++ (y ++ (z ++ w))) ≡ (x ++ y ++ z ++ w)
in_four x y z w = sym (append_assoc (x ++ y) z w ∙ append_assoc x y (z ++ w))

-- the texts of pointers are fed as texts are
texts_one_by_one : (ks : List (RcStr Global)) → flat_map (λ k. fed.str (rc_str_bytes k)) ks ≡ flat_map fed.str (map rc_str_bytes ks)
texts_one_by_one [] = refl
texts_one_by_one (k ∷ ks) = ap (λ xs. fed.str (rc_str_bytes k) ++ xs) (texts_one_by_one ks)

pub texts_fed : (ks : List (RcStr Global)) → fed.slice (λ k. fed.str (rc_str_bytes k)) ks ≡ fed.slice fed.str (map rc_str_bytes ks)
texts_fed ks = (λ i. fed.usize (sym (length-map ks rc_str_bytes) i) ++ texts_one_by_one ks i)

-- what is fed in two steps
pub then_fed : {S : Type 0} (write : S → List ℕ → S) (t m u : S) (a b : HashWrites) → m ≡ fold write t a → u ≡ fold write m b → u ≡ fold write t (a ++ b)
then_fed write t m u a b first then = then ∙ ap (λ r. fold write r b) first ∙ sym (fold-append write t a b)

module _ {S : Type 0} (write : S → List ℕ → S) (s t u : S) where
  pub all_fed : {T : Type 0} (es rest : List (Expr T)) → rest ≡ [] → t ≡ fold write s (fed.usize (length es))
      → fold write u (row_fed (bare_exprs rest)) ≡ fold write t (row_fed (bare_exprs es)) → u ≡ fold write s (fed.usize (row_count (bare_exprs es)) ++ row_fed (bare_exprs es))
  all_fed es rest none first is =
      ap (λ xs. fold write u (row_fed (bare_exprs xs))) (sym none)
      ∙ is
      ∙ ap (λ r. fold write r (row_fed (bare_exprs es))) first
      ∙ ap (λ n. fold write s (fed.usize n ++ row_fed (bare_exprs es))) (sym (members-length es))

  pub all_pairs_fed : {T : Type 0} (es rest : List (Entry T)) → rest ≡ [] → t ≡ fold write s (fed.usize (length es))
      → fold write u (fields_fed (bare_fields rest)) ≡ fold write t (fields_fed (bare_fields es)) → u ≡ fold write s (fed.usize (field_count (bare_fields es)) ++ fields_fed (bare_fields es))
  all_pairs_fed es rest none first is =
      ap (λ xs. fold write u (fields_fed (bare_fields xs))) (sym none)
      ∙ is
      ∙ ap (λ r. fold write r (fields_fed (bare_fields es))) first
      ∙ ap (λ n. fold write s (fed.usize n ++ fields_fed (bare_fields es))) (sym (values-length es))
