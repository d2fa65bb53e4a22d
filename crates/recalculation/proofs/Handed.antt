-- What evaluations found of a store's values is handed out, and given back.
use Rattle.std.specs.Prelude.{◌≡◌, refl, length, List, [], ◌∷◌}
use Rattle.std.proofs.Common.{sym, subst, arith}
use Rattle.formula_parts.specs.declared.kept.Kept.{Kept}
use Rattle.formula_parts.specs.inner.Kept.{IsKept}
use Rattle.sheet_store.specs.Grid.{value_at, Grid}

-- it is so in a grid that is the same
pub taken : (k : Kept) (g h : Grid) → h ≡ g → IsKept k (value_at g) → IsKept k (value_at h)
taken k g h same is = subst (λ (x : Grid). IsKept k (value_at x)) (sym same) is

-- what holds between the grids in between holds between the first and the last
pub between : (P : Grid → Grid → Type 0) (a b c d : Grid) → b ≡ a → d ≡ c → P b c → P a d
between P a b c d start end is = subst (P a) (sym end) (subst (λ (x : Grid). P x c) start is)

-- a list of the length 0 is empty
pub none_there : {A : Type 0} (xs : List A) → length xs ≡ 0 → [] ≡ xs
none_there [] e = refl
none_there (x ∷ xs) e = absurd (omega (arith, e))
