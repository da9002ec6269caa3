-- What is reached by one or more steps of a relation.

-- y is reached from x by one or more steps of R
pub data Reaches {A : Type 0} (R : A → A → Type 0) : A → A → Type 0 where
  one : {x y : A} → R x y → Reaches R x y
  more : {x y z : A} → R x y → Reaches R y z → Reaches R x z

-- what is reached from what is reached is reached
pub Reaches-trans : {A : Type 0} {R : A → A → Type 0} {x y z : A}
    → Reaches R x y → Reaches R y z → Reaches R x z
Reaches-trans (one r) q = more r q
Reaches-trans (more r p) q = more r (Reaches-trans p q)
