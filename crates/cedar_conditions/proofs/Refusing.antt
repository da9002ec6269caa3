-- Which nodes are refused, and which trees.
use Rattle.std.proofs.Common.{◌≡◌, ◌<◌, ◌≤◌, ◌+◌, ◌++◌, ◌||◌, ℕ, Bool, true, false, List, [], ◌∷◌, Option, Result, Ok, Err, IfOk, map, take, length, refl, sym, ap, ◌∙◌, subst, arith, get_or, nat_le}
use Rattle.std.specs.Global.{Vec}
use Rattle.std.specs.List.{list_any}
use Rattle.std.specs.Option.{is_some}
use Rattle.std.proofs.lemmas.List.{map-append, take_all, take_more}
use Rattle.std.proofs.lemmas.List.Folds.{list_any-append, list_any_at}
use Rattle.std.proofs.lemmas.List.Sorted.{list_any-IsPermutation}
use Rattle.cedar_builders.specs.BareExpr.{Text, BareExpr}
use Rattle.cedar_conditions.specs.Conditions.{is_refused, is_refused_node, nodes, too_many}
use Rattle.cedar_conditions.specs.Nodes.{AreNodesOf, shown}
use Rattle.cedar_conditions.specs.declared.problem.Problem.{Problem}
use Rattle.cedar_conditions.specs.declared.size.Node.{Node}

any_map : {A B : Type 0} (p : B → Bool) (f : A → B) (xs : List A)
    → list_any p (map f xs) ≡ list_any (λ x. p (f x)) xs
any_map p f [] = refl
any_map p f (x ∷ xs) = ap (λ b. p (f x) || b) (any_map p f xs)

-- none of the nodes so far is refused
abbrev pub NoneRefused : ℕ → List Node → Type 0
NoneRefused i ns = list_any is_refused_node (map shown (take i ns)) ≡ false

pub none_next : (ns : List Node) (i : ℕ) (x : Node) → i < length ns → x ≡ get_or ns i x
    → false ≡ is_refused_node (shown x) → NoneRefused i ns → NoneRefused (i + 1) ns
none_next ns i x lt is kept h =
    ap (λ ys. list_any is_refused_node (map shown ys))
    (take_more ns i x lt ∙ ap (λ y. take i ns ++ (y ∷ [])) (sym is))
    ∙ ap (list_any is_refused_node) (map-append shown (take i ns) (x ∷ []))
    ∙ list_any-append is_refused_node (map shown (take i ns)) (shown x ∷ [])
    ∙ ap (λ b. b || (is_refused_node (shown x) || false)) h ∙ ap (λ b. b || false) (sym kept)

pub none_at_all : (ns : List Node) (i : ℕ) → length ns ≤ i → NoneRefused i ns
    → false ≡ list_any is_refused_node (map shown ns)
none_at_all ns i le h =
    sym h ∙ ap (λ ys. list_any is_refused_node (map shown ys)) (take_all i ns le)

pub one_found : (ns : List Node) (i : ℕ) (x : Node) → i < length ns → x ≡ get_or ns i x
    → true ≡ is_refused_node (shown x) → true ≡ list_any is_refused_node (map shown ns)
one_found ns i x lt is hit =
    sym (any_map is_refused_node shown ns
    ∙ list_any_at (λ n. is_refused_node (shown n)) ns i x lt
    (ap (λ n. is_refused_node (shown n)) (sym is) ∙ sym hit))

not_more : (m n : ℕ) → n < m → nat_le m n ≡ false
not_more m n lt = grind (arith)

at_most : (m n : ℕ) → m ≤ n → nat_le m n ≡ true
at_most m n le = grind (arith)

-- whether a tree is refused, by its nodes
by_nodes : (text : Text) (e : BareExpr) (ns : Vec Node) → AreNodesOf text e (Ok ns)
    → list_any is_refused_node (map shown ns.items) ≡ is_refused text e
by_nodes text e ns are =
    sym (list_any-IsPermutation is_refused_node (nodes e) (map shown ns.items) are.0)
    ∙ ap (λ x. x || list_any is_refused_node (nodes e)) (sym (not_more (too_many text) (length (nodes e)) are.1))

pub judged_by_nodes : {Z : Type 0} (text : Text) (e : BareExpr) (ns : Vec Node)
    (ms : List Node) (r : Result (Option Problem) Z) → AreNodesOf text e (Ok ns) → ms ≡ ns.items
    → IfOk r (λ found. is_some found ≡ list_any is_refused_node (map shown ms))
    → IfOk r (λ found. is_some found ≡ is_refused text e)
judged_by_nodes text e ns ms r are same h =
    subst (λ b. IfOk r (λ found. is_some found ≡ b))
    (ap (λ ys. list_any is_refused_node (map shown ys)) same ∙ by_nodes text e ns are) h

pub by_size : (text : Text) (e : BareExpr) (p : Problem) → AreNodesOf text e (Err p)
    → true ≡ is_refused text e
by_size text e p many =
    ap (λ x. x || list_any is_refused_node (nodes e)) (sym (at_most (too_many text) (length (nodes e)) many))
