use Rattle.std.specs.Prelude.{◌≡◌, take}
use Rattle.std.specs.FinMap.{get}
use Rattle.range_index.specs.Owners.{spans_in}
use Rattle.depend_graph.specs.inner.Banks.{wide, AreOthers}
use Rattle.depend_graph.proofs.banks.fill.Given as goal

abbrev pub invariant-loop-span : goal.invariant-loop-span
invariant-loop-span l = record {
  is : spans_in (get l.index l.owner) ≡ wide (take l.span-index l.spans);
  others : AreOthers l.fn.index l.index l.owner;
}
