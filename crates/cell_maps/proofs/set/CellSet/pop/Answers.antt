use Rattle.std.specs.Prelude.{length}
use Rattle.std.proofs.Common.{arith, inl, subst}
use Rattle.cell_maps.specs.inner.Numbering.{AreNumbered}
use Rattle.cell_maps.specs.inner.Numbering.{above}
use Rattle.cell_maps.proofs.Above.{above_set}
use Rattle.cell_maps.proofs.Filled.{last_is}
use Rattle.cell_maps.proofs.Sets.{popped, room}
use Rattle.cell_maps.proofs.set.CellSet.pop.Goals as goal

pub set-requires : goal.set-requires
set-requires c =
    let old = above c.self.inside.gone c.self.inside.table in
    let ok = subst (AreNumbered old) c.in-Some.ensures.items c.self.invariant.1.0 in
    room old c.in-Some.cell (length c.pop.new.self.items)
    (ok.told (length c.pop.new.self.items) c.in-Some.cell (last_is c.pop.new.self.items c.in-Some.cell))

pub invariant_of-self : goal.invariant_of-self
invariant_of-self c =
    let gone = c.self.inside.gone in
    let old = above gone c.self.inside.table in
    let ok = subst (AreNumbered old) c.in-Some.ensures.items c.self.invariant.1.0 in (
      c.self.invariant.0,
      (
        popped old (above gone c.set.new.self) c.pop.new.self.items c.in-Some.cell ok
            (above_set gone 0 0 c.self.inside.table c.set.new.self c.in-Some.cell (omega arith) c.set.ensures),
        inl c.clear.ensures.items,
      ),
    )
