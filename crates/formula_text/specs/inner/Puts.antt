-- Bytes that are put piece by piece.
use Rattle.std.specs.Prelude.{ℕ, ◌≡◌, Bool, true, List, ◌++◌}
use Rattle.formula_text.specs.declared.whole.Whole.{Whole}

-- bytes were put in one piece or in several, by what a piece may make of where they go
pub data Puts {S : Type 0} (has_put : S → List ℕ → S → Type 0) : S → List ℕ → S → Type 0 where
  at_once : {a b : S} {x : List ℕ} → has_put a x b → Puts has_put a x b
  in_pieces : {a b c : S} {x y : List ℕ} → Puts has_put a x b → Puts has_put b y c → Puts has_put a (x ++ y) c

-- where memory lasted, it lasted before, and the bytes stand behind those of before
abbrev pub Lengthens : Whole → List ℕ → Whole → Type 0
Lengthens old bytes new =
    new.has_room ≡ true → (old.has_room ≡ true) × (new.bytes.items ≡ old.bytes.items ++ bytes)
