-- How spans are registered: by their size, and by the block that holds them.
use Rattle.std.specs.Prelude.{◌≡◌, ◌⊎◌, Bool, true, ◌&&◌, List}
use Rattle.std.specs.declared.cmp.Ordering.{Ordering}
use Rattle.std.specs.Ordering.{nat_cmp, ordering_then}
use Rattle.std.specs.BTreeMap.{is_at}
use Rattle.std.specs.FinMap.{get}
use Rattle.std.specs.List.{list_all, list_any}
use Rattle.grid_address.specs.Place.{is_within, place_cmp, whole, Extent, Place}
use Rattle.range_index.specs.inner.Blocks.{are_one, block_at, size_of}
use Rattle.range_index.specs.Owners.{hold, spans_in, Owners}
use Rattle.range_index.specs.inner.Powers.{powers_cmp, Powers}
use Rattle.range_index.specs.declared.block.Block.{Block}
use Rattle.range_index.specs.declared.register.Registration.{Registration}

-- the order of blocks: by their size, then by row, then by column
abbrev pub block_cmp : Block → Block → Ordering
block_cmp a b = ordering_then (powers_cmp a.size b.size) (ordering_then (nat_cmp a.row b.row) (nat_cmp a.col b.col))

-- the order of entries of the index: by their block, then by their owner
abbrev pub registration_cmp : Registration → Registration → Ordering
registration_cmp a b = ordering_then (block_cmp a.block b.block) (place_cmp a.owner b.owner)

-- the entry of an owner at a block
abbrev pub owned : Block → Place → Registration
owned b o = record { block = b; owner = o }

-- an owner's registration for a span
abbrev pub registered : Place → Extent → Registration
registered o s = owned (block_at (size_of s) s.first) o

-- whether a size is among these
abbrev pub has_size : List Powers → Powers → Bool
has_size sizes z = list_any (is_at (powers_cmp z)) sizes

-- whether an entry is among these
abbrev pub has_registration : List Registration → Registration → Bool
has_registration rs r = list_any (is_at (registration_cmp r)) rs

-- the owner is a cell, one block holds the span, and its size and the registration are there
abbrev pub is_registered : List Powers → List Registration → Place → Extent → Bool
is_registered sizes rs o s =
    (is_within whole o && are_one s) && (has_size sizes (size_of s) && has_registration rs (registered o s))

-- what is registered stays so
abbrev pub StaysRegistered : List Powers → List Registration → List Powers → List Registration → Type 0
StaysRegistered sizes rs sizes' rs' = (o : Place) (s : Extent) → is_registered sizes rs o s ≡ true →
    is_registered sizes' rs' o s ≡ true

-- each owner's spans are registered
abbrev pub AreRegistered : Owners → List Powers → List Registration → Type 0
AreRegistered m sizes rs = (o : Place) → list_all (is_registered sizes rs o) (spans_in (get m o)) ≡ true

-- whether a cell is among those that were found
abbrev pub has_place : List Place → Place → Bool
has_place found o = list_any (is_at (place_cmp o)) found

-- each that was found owns a span that holds the place
abbrev pub AreOwners : Owners → Place → List Place → Type 0
AreOwners m p found = (o : Place) → has_place found o ≡ true → hold (spans_in (get m o)) p ≡ true

-- what was found before is among those that are found now
abbrev pub AreAmong : List Place → List Place → Type 0
AreAmong old new = (o : Place) → has_place old o ≡ true → has_place new o ≡ true

-- each owner that the registrations name in a block is found
abbrev pub AreFoundIn : Owners → Place → List Registration → Block → List Place → Type 0
AreFoundIn m p rs b found = (o : Place) → is_within whole o ≡ true → has_registration rs (owned b o) ≡ true →
    hold (spans_in (get m o)) p ≡ true → has_place found o ≡ true

-- each owner that is registered in a block of one of the sizes is found
abbrev pub AreFoundAt : Owners → Place → List Registration → List Powers → List Place → Type 0
AreFoundAt m p rs sizes found = (z : Powers) → has_size sizes z ≡ true → AreFoundIn m p rs (block_at z p) found

-- each such owner is found, or is still to come
abbrev pub AreFoundOrLeft : Owners → Place → List Registration → Block → List Place → List Registration → Type 0
AreFoundOrLeft m p rs b found left = (o : Place) → is_within whole o ≡ true → has_registration rs (owned b o) ≡ true →
    hold (spans_in (get m o)) p ≡ true → (has_place found o ≡ true) ⊎ (has_registration left (owned b o) ≡ true)

-- the owners of each size are found, or the size is still to come
abbrev pub AreFoundOrCome : Owners → Place → List Registration → List Powers → List Place → List Powers → Type 0
AreFoundOrCome m p rs sizes found left = (z : Powers) → has_size sizes z ≡ true →
    AreFoundIn m p rs (block_at z p) found ⊎ (has_size left z ≡ true)
