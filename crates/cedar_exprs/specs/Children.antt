-- The children of a node as they stand in it, and what an iterator over them has left.
use Rattle.std.specs.Prelude.{List, [], ◌∷◌, ◌++◌, map, Option, option_to_list}
use Rattle.std.specs.Option.{option_copied}
use Rattle.std.specs.Slice.Iter.{iter_rest}
use Rattle.cedar_exprs.specs.declared.expr.Expr.{Expr}
use Rattle.cedar_exprs.specs.declared.walks.children.Children.{Children}
use Rattle.cedar_exprs.specs.declared.walks.children.Children.TheVariants.{Few as AtMostThree, Row, Values}
use Rattle.cedar_exprs.specs.declared.walks.children.Few.{Few}
use Rattle.cedar_exprs.specs.declared.walks.children.NodeChildren.{NodeChildren}
use Rattle.cedar_exprs.specs.declared.walks.children.NodeChildren.TheVariants as view
use denote.Ref.{Bor}

-- the children that a view shows
abbrev pub children_shown : {T : Type 0} → NodeChildren T → List (Expr T)
children_shown view.Nothing = []
children_shown (view.One a) = a.now ∷ []
children_shown (view.Two a b) = a.now ∷ b.now ∷ []
children_shown (view.Three a b c) = a.now ∷ b.now ∷ c.now ∷ []
children_shown (view.Row es) = es.now
children_shown (view.Values m) = map (λ e. e.1) m.now.entries

-- what a reference shows, if there is one
abbrev pub shown : {A : Type 0} → Option (Bor A) → List A
shown o = option_to_list (option_copied o)

-- those of at most three that are there
abbrev pub few_left : {T : Type 0} → Few T → List (Expr T)
few_left few = shown few.first ++ shown few.second ++ shown few.third

abbrev pub children_left : {T : Type 0} → Children T → List (Expr T)
children_left (AtMostThree few) = few_left few
children_left (Row rest) = iter_rest rest
children_left (Values rest) = rest
