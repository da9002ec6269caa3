-- What is told of a function that was looked up.
use Rattle.std.specs.Prelude.{◌≡◌, Option, Some, None, option_and_then, option_map, refl}

-- where nothing is told of it that is told of each, nothing else is
pub none_of_none : {A B C D : Type 0} (f : A → B) (g : A → Option C) (h : C → D) (o : Option A)
    → option_map f o ≡ None → option_map h (option_and_then g o) ≡ None
none_of_none f g h None is = refl
none_of_none f g h (Some a) is = cc
