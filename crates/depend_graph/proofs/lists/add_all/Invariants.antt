use Rattle.std.specs.Prelude.{take}
use Rattle.depend_graph.specs.inner.Lists.{AreKept, IsListed}
use Rattle.depend_graph.proofs.lists.add_all.Given as goal

abbrev pub invariant-loop-span : goal.invariant-loop-span
invariant-loop-span l = record {
  kept : AreKept l.fn.lists l.lists;
  listed : IsListed l.lists l.formula (take l.span-index l.spans);
}
