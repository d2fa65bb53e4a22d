-- Runs of filled cells, cell by cell, and steps, one by one.
use Rattle.std.proofs.Common.{◌≡◌, ℕ, zero, suc, ◌-◌, ◌≤◌, true, false, List, [], ◌∷◌, refl, arith}
use Rattle.grid_address.specs.Place.{Place}
use Rattle.sheet_store.specs.Grid.{Grid}
use Rattle.cell_pointer.specs.Moves.{is_filled, next_filled, run_end, stepped_times}
use Rattle.cell_pointer.specs.Steps.{stepped}
use Rattle.cell_pointer.specs.declared.way.Arrow.{Arrow}

-- a run goes on over a filled cell
pub run_goes_on : (g : Grid) (here p : Place) (ps rest : List Place) → ps ≡ p ∷ rest → is_filled g p ≡ true
    → run_end g here ps ≡ run_end g p rest
unfolding run_end
run_goes_on g here p ps rest more filled = rw (more, filled) refl

-- it stops before a cell that isn't filled
pub run_stops : (g : Grid) (here p : Place) (ps rest : List Place) → ps ≡ p ∷ rest → is_filled g p ≡ false
    → run_end g here ps ≡ here
unfolding run_end
run_stops g here p ps rest more blank = rw (more, blank) refl

-- it stops at the edge
pub run_at_edge : (g : Grid) (here : Place) (ps : List Place) → ps ≡ [] → run_end g here ps ≡ here
unfolding run_end
run_at_edge g here ps none = rw none refl

-- the next filled cell is the first ahead, where that is filled
pub next_is_here : (g : Grid) (here p : Place) (ps rest : List Place) → ps ≡ p ∷ rest → is_filled g p ≡ true
    → next_filled g here ps ≡ p
unfolding next_filled
next_is_here g here p ps rest more filled = rw (more, filled) refl

-- it is further on, where that isn't
pub next_is_further : (g : Grid) (here p : Place) (ps rest : List Place) → ps ≡ p ∷ rest → is_filled g p ≡ false
    → next_filled g here ps ≡ next_filled g p rest
unfolding next_filled
next_is_further g here p ps rest more blank = rw (more, blank) refl

-- with none ahead it is where one stands
pub next_at_edge : (g : Grid) (here : Place) (ps : List Place) → ps ≡ [] → next_filled g here ps ≡ here
unfolding next_filled
next_at_edge g here ps none = rw none refl

-- one step of so many
pub one_more : (n : ℕ) (arrow : Arrow) (g : Grid) (p : Place) → 1 ≤ n
    → stepped_times n arrow g p ≡ stepped_times (n - 1) arrow g (stepped arrow g p)
unfolding stepped_times
one_more zero arrow g p some = absurd (omega (arith, some))
one_more (suc n) arrow g p some = let less : suc n - 1 ≡ n = omega arith in rw less refl

-- no step of none
pub no_more : (n : ℕ) (arrow : Arrow) (g : Grid) (p : Place) → n ≡ 0 → stepped_times n arrow g p ≡ p
unfolding stepped_times
no_more n arrow g p none = rw none refl
