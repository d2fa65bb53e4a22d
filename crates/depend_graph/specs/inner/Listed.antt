-- Where the spans are that a formula reads.
use Rattle.std.specs.Prelude.{List, []}
use Rattle.grid_address.specs.Place.{Extent}
use Rattle.depend_graph.specs.declared.node.Listed.{Listed}
use Rattle.depend_graph.specs.declared.node.Listed.TheVariants.{None, One, Two, Three, Many}

-- the spans, from left to right
abbrev pub spans_listed : Listed → List Extent
spans_listed None = []
spans_listed (One l) = l
spans_listed (Two l) = l
spans_listed (Three l) = l
spans_listed (Many l) = l.items
