-- A search back from cells over what formulas read.
use Rattle.std.specs.Prelude.{ℕ, ◌≡◌, ◌+◌, ◌-◌, ◌*◌, ◌^◌, ◌<◌, ◌⊎◌, ◌↔◌, true, false, List, length}
use Rattle.std.specs.FinMap.{entries}
use Rattle.std.specs.List.{IsDistinct}
use Rattle.std.specs.Map.{keys_of}
use Rattle.cell_maps.specs.Sets.{has}
use Rattle.grid_address.specs.Place.{same_place, InSheet, Place}
use Rattle.depend_graph.specs.Network.{reads, Network}
use Rattle.depend_graph.specs.inner.Marked.{mark_at}
use Rattle.depend_graph.specs.inner.Within.{Within}
use Rattle.depend_graph.specs.declared.closure.Search.{Search}

-- every formula
abbrev pub all : Network → List Place
all g = keys_of (entries g.formulas)

-- what was met, what of it was left, and what is still on the stack
pub record IsSearched (g : Network) (cells : List Place) (s : Search) : Type 0 where
  pub unmet : (c : Place) → InSheet c → mark_at s.marks c ≡ 0 → has same_place s.met.items c ≡ false
  pub marked : (c : Place) → InSheet c → (mark_at s.marks c ≡ 0 → ⊥) → has same_place s.met.items c ≡ true
  pub over : (c : Place) → InSheet c → (mark_at s.marks c ≡ 0 → ⊥) → (mark_at s.marks c ≡ 1 → ⊥) →
      has same_place s.left.items c ≡ true
  pub begun : (c : Place) → has same_place s.met.items c ≡ true →
      (has same_place s.left.items c ≡ true) ⊎ (has same_place s.stack.items c ≡ true)
  pub left : (c : Place) → has same_place s.left.items c ≡ true → has same_place s.met.items c ≡ true
  pub cells_in : (c : Place) → has same_place cells c ≡ true →
      (has same_place s.met.items c ≡ true) ⊎ (has same_place s.stack.items c ≡ true)
  pub readers_in : (c d : Place) → has same_place s.met.items c ≡ true → reads g d c ≡ true →
      (has same_place s.met.items d ≡ true) ⊎ (has same_place s.stack.items d ≡ true)
  pub met : (c : Place) → has same_place s.met.items c ≡ true → Within g cells c
  pub stacked : (c : Place) → has same_place s.stack.items c ≡ true → Within g cells c
  pub distinct : IsDistinct same_place s.met.items

-- a cell and all that read it were put on the stack
pub record IsDeeper (g : Network) (c : Place) (old new : List Place) : Type 0 where
  pub members : (d : Place) →
      (has same_place new d ≡ true) ↔ ((has same_place old d ≡ true) ⊎ ((same_place d c ≡ true) ⊎ (reads g d c ≡ true)))
  pub short : length new < 2 ^ 64

-- the steps that are left: no more cells are met than there are, and each step without a new one shortens the stack
abbrev pub work_left : Network → List Place → Search → ℕ
work_left g cells s = (length cells + length (all g) + 1 - length s.met.items) * 2 ^ 64 + length s.stack.items
