-- Two indexes of what formulas read. A formula's spans are in one of them, and the other has room for its next ones.
use Rattle.std.specs.Prelude.{◌≡◌, Bool, cond, false, not, ◌⊎◌, List}
use Rattle.std.specs.FinMap.{get}
use Rattle.std.specs.List.{filter}
use Rattle.grid_address.specs.Place.{same_place, Extent, Place}
use Rattle.range_index.specs.Owners.{spans_in, Owners}

-- a span is one cell
abbrev pub is_one : Extent → Bool
is_one s = same_place s.first s.last

-- the spans of more than one cell
abbrev pub wide : List Extent → List Extent
wide spans = filter (λ s. not (is_one s)) spans

-- the spans of a cell in one of the two
abbrev pub spans_at : Owners → Owners → Bool → Place → List Extent
spans_at even odd is_odd c = spans_in (get (cond is_odd odd even) c)

-- the spans of all cells but one are as they were
abbrev pub AreOthers : Owners → Owners → Place → Type 0
AreOthers old new c = (d : Place) → same_place d c ≡ false → spans_in (get new d) ≡ spans_in (get old d)

-- the spans of all cells are as they were, but for one cell in one of the two
abbrev pub AreOthersKept : Owners → Owners → Owners → Owners → Bool → Place → Type 0
AreOthersKept even odd even' odd' is_odd c = (b : Bool) (d : Place) → (same_place d c ≡ false) ⊎ (b ≡ is_odd → ⊥) →
    spans_at even' odd' b d ≡ spans_at even odd b d
