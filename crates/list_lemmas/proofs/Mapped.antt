-- What a change of each item leaves of a list.
use Rattle.std.proofs.Common.{◌≡◌, List, [], ◌∷◌, map, refl}

-- a change that does no more the second time does no more to a list
pub map_twice : {X : Type 0} (f : X → X) → ((x : X) → f (f x) ≡ f x) → (xs : List X) → map f (map f xs) ≡ map f xs
map_twice f same [] = refl
map_twice f same (x ∷ xs) = λ i. same x i ∷ map_twice f same xs i
