-- What the program's writing keeps.
use Rattle.std.specs.Prelude.{ℕ, ◌≡◌, List, ◌++◌, flat_map}
use Rattle.std.specs.List.{AllByRecursion}

-- of all that is to be written some is in its bytes behind what was there before, each is as it should be, and the
-- rest waits
pub record Writes {X : Type 0} (bytes_of : X → List ℕ) (IsGood : X → Type 0) (before now : List ℕ)
    (rest all : List X) : Type 0 where
  pub done : List X
  pub parts : all ≡ done ++ rest
  pub bytes : now ≡ before ++ flat_map bytes_of done
  pub good : AllByRecursion IsGood done
