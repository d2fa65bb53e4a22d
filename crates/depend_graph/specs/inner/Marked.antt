-- Marks of cells, and cells that are marked while an order is looked at.
use Rattle.std.specs.Prelude.{ℕ, zero, suc, ◌≡◌, Bool, cond, true, false, List, [], ◌∷◌}
use Rattle.std.specs.List.{list_any}
use Rattle.cell_maps.specs.Numbers.{number_at}
use Rattle.cell_maps.specs.Sets.{has}
use Rattle.grid_address.specs.Place.{same_place, InSheet, Place}
use Rattle.range_index.specs.Hulls.{in_hull}
use Rattle.range_index.specs.declared.hull.Hull.{Hull}
use Rattle.depend_graph.specs.declared.marks.Marked.{Marked}
use Rattle.depend_graph.specs.declared.marks.Marks.{Marks}

-- whether a cell is marked in a list
abbrev pub is_among : List Marked → Place → Bool
is_among few c = list_any (λ (x : Marked). same_place x.cell c) few

-- the first mark of a cell in a list, and where it has none there the number that it has elsewhere
abbrev pub mark_among : List Marked → ℕ → Place → ℕ
mark_among [] n c = n
mark_among (x ∷ xs) n c = cond (same_place x.cell c) x.mark (mark_among xs n c)

-- a cell's first mark in a list stands there
abbrev pub StandsAt : List Marked → ℕ → Place → Type 0
StandsAt [] i c = ⊥
StandsAt (x ∷ xs) zero c = same_place x.cell c ≡ true
StandsAt (x ∷ xs) (suc i) c = (same_place x.cell c ≡ false) × StandsAt xs i c

-- the mark of a cell, 0 where it has none
abbrev pub mark_at : Marks → Place → ℕ
mark_at m c = mark_among m.few.items (number_at m.table c) c

-- each of the cells lies on the sheet and in the hull, and is marked
abbrev pub AreMarked : Marks → Hull → List Place → Type 0
AreMarked marked hull cells =
    (d : Place) → has same_place cells d ≡ true → InSheet d × ((mark_at marked d ≡ 1) × (in_hull hull d ≡ true))
