-- A text at its place among other bytes.
use Rattle.std.specs.Prelude.{ℕ, ◌≡◌, ◌+◌, List, ◌++◌, length, take, drop}

-- a text was put between two places, and the bytes before it and behind it are as they were
pub record Stands (text : List ℕ) (from end : ℕ) (old new : List ℕ) : Type 0 where
  pub at : from + length text ≡ end
  pub behind : drop from new ≡ text ++ drop end old
  pub before : take from new ≡ take from old
  pub size : length new ≡ length old
