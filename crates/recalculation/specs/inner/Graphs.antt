-- What a graph tells of formulas, and how it is made.
use Rattle.std.specs.Prelude.{Option, None, Some, List, []}
use Rattle.grid_address.specs.Place.{Extent, Place}
use Rattle.depend_graph.specs.Network.{put, Network}
use Rattle.depend_graph.specs.declared.node.Node.{Node}

-- what a graph tells that a formula reads
abbrev pub spans_told : Option Node → List Extent
spans_told None = []
spans_told (Some n) = n.reads

-- the graph with the formula of a cell, where the cell holds one
abbrev pub with_formula : Option Node → Network → Place → Network
with_formula None n c = n
with_formula (Some x) n c = put n c x
