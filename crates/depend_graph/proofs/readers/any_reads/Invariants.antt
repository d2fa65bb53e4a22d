use Rattle.std.specs.Prelude.{◌≡◌, drop}
use Rattle.depend_graph.specs.inner.Readers.{any_reads}
use Rattle.depend_graph.proofs.readers.any_reads.Given as goal

abbrev pub invariant-loop-formula : goal.invariant-loop-formula
invariant-loop-formula l =
    any_reads l.slots l.cell (drop l.formula-index l.formulas) ≡ any_reads l.slots l.cell l.formulas
