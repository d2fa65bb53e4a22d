use Rattle.std.specs.Prelude.{◌+◌, refl, take, List}
use Rattle.std.proofs.Common.{arith, subst}
use Rattle.std.proofs.lemmas.List.{take_all}
use Rattle.grid_address.specs.Place.{same_place, Place}
use Rattle.cell_maps.specs.Sets.{has}
use Rattle.sheet_store.specs.Grid.{Cells, Grid}
use Rattle.sheet_edits.proofs.Overlaid.{putting_is, putting_new, putting_none, putting_same, Putting}
use Rattle.sheet_edits.specs.inner.Putting.{HaveRoom}
use Rattle.sheet_edits.proofs.many.put_all_new.Goals as goal
use Rattle.sheet_edits.proofs.many.put_all_new.Goals.{then-is_new+in_ok-put_new, else-is_new}

pub loop-cell-init : goal.loop-cell-init
loop-cell-init c =
    let p : Putting c.args.changes.now c.args.store.now (take 0 c.args.cells.now) c.args.grown.now c.args.changes.now
    c.args.store.now =
    putting_none c.args.changes.now c.args.store.now c.args.cells.now c.args.grown.now c.requires.grown in
    record { grown = p.are_grown; put = p.are_put; room = p.have_room }

pub put_new-requires : goal.put_new-requires
put_new-requires c =
    λ s e. c.requires.sound c.cell-item.result s (c.loop-cell.invariant.put.among c.cell-item.result s e)

pub loop-cell-preserved : goal.loop-cell-preserved
loop-cell-preserved c =
    let given : Cells = c.args.changes.now in
    let old : Grid = c.args.store.now in
    let now : Putting given old (take c.loop-cell.cell-index c.args.cells.now) c.loop-cell.grown c.loop-cell.changes
    c.loop-cell.store =
    record {
      are_grown = c.loop-cell.invariant.grown;
      are_put = c.loop-cell.invariant.put;
      have_room = c.loop-cell.invariant.room;
    } in
    let next : Putting given old (take (c.loop-cell.cell-index + 1) c.args.cells.now) c.if-is_new.grown
    c.if-is_new.changes c.if-is_new.store = elim c.if-is_new.branch [
      | then-is_new+in_ok-put_new w ↦ putting_is given old (take (c.loop-cell.cell-index + 1) c.args.cells.now)
          w.put_new.new.grown c.if-is_new.grown w.put_new.new.changes c.if-is_new.changes w.put_new.new.store
          c.if-is_new.store w.grown-is w.changes-is w.store-is
          (putting_new given old c.args.cells.now c.loop-cell.cell-index c.cell-item.result c.cell-item.is
          c.loop-cell-test.true c.loop-cell.grown c.loop-cell.changes c.loop-cell.store now
          w.put_new.new.grown w.put_new.new.changes w.put_new.new.store
          (w.if-is_new.ensures.absent refl) w.put_new.ensures.grown w.put_new.ensures.held w.put_new.ensures.others
          w.in_ok-put_new.ensures.changes w.in_ok-put_new.ensures.store)
      | else-is_new w ↦ putting_is given old (take (c.loop-cell.cell-index + 1) c.args.cells.now) c.loop-cell.grown
          c.if-is_new.grown c.loop-cell.changes c.if-is_new.changes c.loop-cell.store c.if-is_new.store w.grown-is
          w.changes-is w.store-is
          (putting_same given old c.args.cells.now c.loop-cell.cell-index c.cell-item.result c.cell-item.is
          c.loop-cell-test.true c.loop-cell.grown c.loop-cell.changes c.loop-cell.store now
          (w.if-is_new.ensures.rest refl))
    ] in
    record { grown = next.are_grown; put = next.are_put; room = next.have_room }

pub returns-clause-room : goal.returns-clause-room
returns-clause-room c = subst (λ (l : List Place). HaveRoom c.loop-cell.changes (has same_place l) c.loop-cell.store)
    (take_all c.loop-cell.cell-index c.args.cells.now (omega (arith, c.loop-cell-test.false)))
    c.loop-cell.invariant.room
