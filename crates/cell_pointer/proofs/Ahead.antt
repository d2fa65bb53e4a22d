-- The cells ahead, one by one.
use Rattle.std.proofs.Common.{◌≡◌, ℕ, zero, suc, ◌-◌, ◌<◌, [], ◌∷◌, refl, arith}
use Rattle.grid_address.specs.Place.{Place}
use Rattle.cell_pointer.specs.Moves.{ahead, down_from}
use Rattle.cell_pointer.specs.declared.way.Arrow.{Arrow}
use Rattle.cell_pointer.specs.declared.way.Arrow.TheVariants.{Up, Left}

above : (row col : ℕ) → 0 < row
    → ahead Up (record { row = row; col = col })
    ≡ record { row = row - 1; col = col } ∷ ahead Up (record { row = row - 1; col = col })
unfolding down_from
above zero col some = absurd (omega (arith, some))
above (suc r) col some = let less : suc r - 1 ≡ r = omega arith in rw less refl

before : (row col : ℕ) → 0 < col
    → ahead Left (record { row = row; col = col })
    ≡ record { row = row; col = col - 1 } ∷ ahead Left (record { row = row; col = col - 1 })
unfolding down_from
before row zero some = absurd (omega (arith, some))
before row (suc c) some = let less : suc c - 1 ≡ c = omega arith in rw less refl

-- above a row below the first there are cells
pub some_above : (arrow : Arrow) (p : Place) (row col : ℕ) → arrow ≡ Up → p ≡ record { row = row; col = col } → 0 < row
    → ahead arrow p ≡ record { row = row - 1; col = col } ∷ ahead arrow (record { row = row - 1; col = col })
some_above arrow p row col up here some = rw (up, here) (above row col some)

-- above the first row there are none
pub none_above : (arrow : Arrow) (p : Place) (row col : ℕ) → arrow ≡ Up → p ≡ record { row = row; col = col } → row ≡ 0
    → ahead arrow p ≡ []
unfolding down_from
none_above arrow p row col up here none = rw (up, here, none) refl

-- before a column behind the first there are cells
pub some_before : (arrow : Arrow) (p : Place) (row col : ℕ) → arrow ≡ Left → p ≡ record { row = row; col = col }
    → 0 < col → ahead arrow p ≡ record { row = row; col = col - 1 } ∷ ahead arrow (record { row = row; col = col - 1 })
some_before arrow p row col left here some = rw (left, here) (before row col some)

-- before the first column there are none
pub none_before : (arrow : Arrow) (p : Place) (row col : ℕ) → arrow ≡ Left → p ≡ record { row = row; col = col }
    → col ≡ 0 → ahead arrow p ≡ []
unfolding down_from
none_before arrow p row col left here none = rw (left, here, none) refl
