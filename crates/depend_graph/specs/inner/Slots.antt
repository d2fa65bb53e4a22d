-- A cell's formula, with the one that it will have.
use Rattle.std.specs.Prelude.{◌≡◌, Bool, false, not, List, [], ◌∷◌, Option, None, Some}
use Rattle.std.specs.FinMap.{entries, from_entries, get, insert, remove, FinMap}
use Rattle.grid_address.specs.Place.{place_cmp, Extent, Place}
use Rattle.range_index.specs.Owners.{Owners}
use Rattle.depend_graph.specs.Network.{Nodes}
use Rattle.depend_graph.specs.inner.Banks.{spans_at, wide}
use Rattle.depend_graph.specs.declared.node.Node.{Node}
use Rattle.depend_graph.specs.declared.slots.Part.{Part}
use Rattle.depend_graph.specs.declared.slots.Part.TheVariants.{Formula, Offer}
use Rattle.depend_graph.specs.declared.slots.Slot.{Slot}

-- all cells that have a formula or an offer, in one map
abbrev pub Slots : Type 0
Slots = FinMap place_cmp Slot

-- what is put at a place, or taken out there
abbrev pub placed : {X : Type 0} → FinMap place_cmp X → Place → Option X → FinMap place_cmp X
placed m c None = remove m c
placed m c (Some x) = insert m c x

-- the entries whose slot has a node by f
abbrev pub with_some : Place → Option Node → List (Place × Node) → List (Place × Node)
with_some p None es = es
with_some p (Some n) es = (p, n) ∷ es

-- of the entries those in which f finds a node, with that node
abbrev pub somes : (Slot → Option Node) → List (Place × Slot) → List (Place × Node)
somes f [] = []
somes f (e ∷ es) = with_some e.0 (f e.1) (somes f es)

-- the map of the nodes that f finds in the slots
abbrev pub picked : (Slot → Option Node) → Slots → Nodes
picked f m = from_entries (somes f (entries m))

-- the formula in force
abbrev pub node_in : Slot → Option Node
node_in s = s.node

-- the formula that waits to take its place
abbrev pub offer_in : Slot → Option Node
offer_in s = s.offer

-- what a slot has, where there is one
abbrev pub had : (Slot → Option Node) → Option Slot → Option Node
had f None = None
had f (Some s) = f s

-- a slot gets an offer
abbrev pub offering : Option Slot → Node → Slot
offering None n = record { node = None; offer = Some n; is_odd = false }
offering (Some s) n = record s { offer = Some n }

-- a slot with a formula alone
abbrev pub formed : Node → Slot
formed n = record { node = Some n; offer = None; is_odd = false }

-- which index has the spans of a cell's formula
abbrev pub side : Option Slot → Bool
side None = false
side (Some s) = s.is_odd

-- the offer becomes the formula
abbrev pub turned_to : Option Node → Slot → Slot
turned_to None s = s
turned_to (Some n) s = record { node = Some n; offer = None; is_odd = not s.is_odd }

-- the same where there may be no slot
abbrev pub turned : Option Slot → Option Slot
turned None = None
turned (Some s) = Some (turned_to s.offer s)

-- a slot stays where it still has the other of the two, and is taken out where it has neither
abbrev pub filled : Option Node → Slot → Option Slot
filled None s = None
filled (Some n) s = Some s

-- the other of the two that a slot may have
abbrev pub other_in : Part → Slot → Option Node
other_in Formula s = s.offer
other_in Offer s = s.node

-- a slot without one of the two
abbrev pub cleared : Part → Slot → Slot
cleared Formula s = record s { node = None }
cleared Offer s = record s { offer = None }

-- what is left of a slot whose formula is dropped, or whose offer is given up
abbrev pub without : Part → Option Slot → Option Slot
without part None = None
without part (Some s) = filled (other_in part s) (cleared part s)

-- the wide spans of a node, if there is one, are these
abbrev pub Stands : Option Node → List Extent → Type 0
Stands None spans = Unit {0}
Stands (Some n) spans = spans ≡ wide n.reads

-- a formula's wide spans are in its own index, and those of its offer in the other
pub record IsRegistered (even odd : Owners) (c : Place) (s : Slot) : Type 0 where
  pub node : Stands s.node (spans_at even odd s.is_odd c)
  pub offer : Stands s.offer (spans_at even odd (not s.is_odd) c)

-- so it is in every slot
abbrev pub AreRegistered : Slots → Owners → Owners → Type 0
AreRegistered m even odd = (c : Place) (s : Slot) → get m c ≡ Some s → IsRegistered even odd c s
