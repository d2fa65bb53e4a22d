-- Which cells own spans, and which of their spans hold a cell.
use Rattle.std.specs.Prelude.{Bool, cond, List, [], ◌∷◌, ◌++◌, Option, None, Some}
use Rattle.std.specs.FinMap.{FinMap, entries, get, insert}
use Rattle.std.specs.List.{list_any}
use Rattle.grid_address.specs.Place.{is_within, place_cmp, Extent, Place}

-- each owner's spans, in the order in which they were added
abbrev pub Owners : Type 0
Owners = FinMap place_cmp (List Extent)

-- the spans of an owner that may have none
abbrev pub spans_in : Option (List Extent) → List Extent
spans_in None = []
spans_in (Some spans) = spans

-- the owners with one more span for one of them
abbrev pub with_span : Owners → Place → Extent → Owners
with_span m owner span = insert m owner (spans_in (get m owner) ++ span ∷ [])

-- whether one of the spans holds a cell
abbrev pub hold : List Extent → Place → Bool
hold spans p = list_any (λ s. is_within s p) spans

-- the owners among the entries of which a span holds a cell, each once, in their order
abbrev pub owners_among : Place → List (Place × List Extent) → List Place
owners_among p [] = []
owners_among p (e ∷ es) = cond (hold e.1 p) (e.0 ∷ owners_among p es) (owners_among p es)

-- the owners of a span that holds a cell, by row and then by column
abbrev pub owners_of : Owners → Place → List Place
owners_of m p = owners_among p (entries m)
