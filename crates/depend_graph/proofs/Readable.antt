-- A formula that reads a cell stands in the cell's list, or is an owner of it in the index where its wide spans are.
use Rattle.std.specs.Prelude.{◌≡◌, Bool, true, false, cond, not, List, [], ◌∷◌, Option, None, Some, refl}
use Rattle.std.specs.FinMap.{get}
use Rattle.std.specs.List.{filter}
use Rattle.std.proofs.Common.{sym, ◌∙◌, ap, inl, inr, ◌⊎◌}
use Rattle.std.proofs.lemmas.Bool.{cases_Bool, false≢true, true≢false, or_cases, or_left, or_right}
use Rattle.cell_maps.specs.Sets.{has}
use Rattle.grid_address.proofs.Places.{same_place_is}
use Rattle.grid_address.specs.Place.{is_within, same_place, Extent, Place}
use Rattle.range_index.proofs.Listed.{owner_told}
use Rattle.range_index.specs.Owners.{hold, owners_of, Owners}
use Rattle.depend_graph.specs.inner.Banks.{is_one, spans_at, wide}
use Rattle.depend_graph.specs.inner.Lists.{list_at, AreInLists, IsInListsOf, Lists}
use Rattle.depend_graph.specs.Network.{holds}
use Rattle.depend_graph.specs.inner.Readers.{any_reads, IsReaderAmong}
use Rattle.depend_graph.specs.inner.Slots.{had, node_in, AreRegistered, Slots, Stands}
use Rattle.depend_graph.specs.declared.node.Node.{Node}
use Rattle.depend_graph.specs.declared.slots.Slot.{Slot}

-- where none of the formulas reads a cell, none that is among them does
pub none_reads : (m : Slots) (c : Place) (fs : List Place) → any_reads m c fs ≡ false → (d : Place)
    → has same_place fs d ≡ true → holds (had node_in (get m d)) c ≡ true → ⊥
none_reads m c [] none d h k = false≢true h
none_reads m c (f ∷ fs) none d h k = elim (or_cases (same_place d f) (has same_place fs d) h) [
  | inl s ↦ true≢false (sym (or_left (holds (had node_in (get m f)) c) (any_reads m c fs)
      (ap (λ (x : Place). holds (had node_in (get m x)) c) (sym (same_place_is d f s)) ∙ k)) ∙ none)
  | inr later ↦ elim (cases_Bool (any_reads m c fs)) [
    | inl t ↦ true≢false (sym (or_right (holds (had node_in (get m f)) c) (any_reads m c fs) t) ∙ none)
    | inr rest ↦ none_reads m c fs rest d later k
  ]
]

-- a reader among some is the first of them or one of the others
pub one_of : (m : Slots) (c f : Place) (fs : List Place) (d : Place) → IsReaderAmong m c (f ∷ fs) d
    → IsReaderAmong m c (f ∷ []) d ⊎ IsReaderAmong m c fs d
one_of m c f fs d h = elim (or_cases (same_place d f) (has same_place fs d) h.0) [
  | inl e ↦ inl (or_left _ _ e, h.1)
  | inr k ↦ inr (k, h.1)
]

-- and the other way round
pub among_first : (m : Slots) (c f : Place) (fs : List Place) (d : Place) → IsReaderAmong m c (f ∷ []) d
    → IsReaderAmong m c (f ∷ fs) d
among_first m c f fs d h = elim (or_cases (same_place d f) false h.0) [
  | inl e ↦ (or_left _ _ e, h.1)
  | inr k ↦ absurd (false≢true k)
]

-- so are those behind the first
pub among_more : (m : Slots) (c f : Place) (fs : List Place) (d : Place) → IsReaderAmong m c fs d
    → IsReaderAmong m c (f ∷ fs) d
among_more m c f fs d h = (or_right (same_place d f) _ h.0, h.1)

-- a span that holds a cell is that cell or a wide one
in_part : (cell : Place) (spans : List Extent) → hold spans cell ≡ true
    → (hold (filter is_one spans) cell ≡ true) ⊎ (hold (wide spans) cell ≡ true)
in_part cell [] h = absurd (true≢false (sym h))
in_part cell (s ∷ ss) h = elim (is_one s) as (λ b. (hold (cond b (s ∷ filter is_one ss) (filter is_one ss)) cell ≡ true)
    ⊎ (hold (cond (not b) (s ∷ wide ss) (wide ss)) cell ≡ true)) [
      | true ↦ elim (or_cases (is_within s cell) (hold ss cell) h) [
        | inl m ↦ inl (or_left _ _ m)
        | inr m ↦ elim (in_part cell ss m) [ inl k ↦ inl (or_right (is_within s cell) _ k) | inr k ↦ inr k ]
      ]
      | false ↦ elim (or_cases (is_within s cell) (hold ss cell) h) [
        | inl m ↦ inr (or_left _ _ m)
        | inr m ↦ elim (in_part cell ss m) [ inl k ↦ inl k | inr k ↦ inr (or_right (is_within s cell) _ k) ]
      ]
    ]

module _ (m : Slots) (lists : Lists) (even odd : Owners) (all : AreRegistered m even odd) (listed : AreInLists m lists)
    (cell d : Place) where
  abbrev IsFound : Type 0
  IsFound = (has same_place (list_at lists cell) d ≡ true)
      ⊎ ((has same_place (owners_of even cell) d ≡ true) ⊎ (has same_place (owners_of odd cell) d ≡ true))

  in_bank : (b : Bool) (n : Node) → spans_at even odd b d ≡ wide n.reads → hold (wide n.reads) cell ≡ true
      → (has same_place (owners_of even cell) d ≡ true) ⊎ (has same_place (owners_of odd cell) d ≡ true)
  in_bank true n e h = inr (owner_told cell odd d ∙ ap (λ (l : List Extent). hold l cell) e ∙ h)
  in_bank false n e h = inl (owner_told cell even d ∙ ap (λ (l : List Extent). hold l cell) e ∙ h)

  by_node : (o : Option Node) (b : Bool) → Stands o (spans_at even odd b d) → IsInListsOf lists d o
      → holds o cell ≡ true → IsFound
  by_node None b e l h = absurd (true≢false (sym h))
  by_node (Some n) b e l h = elim (in_part cell n.reads h) [ inl k ↦ inl (l cell k) | inr k ↦ inr (in_bank b n e k) ]

  by_slot : (o : Option Slot) → get m d ≡ o → holds (had node_in o) cell ≡ true → IsFound
  by_slot None e h = absurd (true≢false (sym h))
  by_slot (Some s) e h = by_node s.node s.is_odd (all d s e).node (listed d s e).node h

  -- a formula that reads the cell stands in the cell's list, or is an owner of it in one of the indexes
  pub found : holds (had node_in (get m d)) cell ≡ true → IsFound
  found h = by_slot (get m d) refl h
