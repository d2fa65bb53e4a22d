use Rattle.std.specs.Prelude.{◌≡◌, ◌&&◌, cond, true, List}
use Rattle.std.specs.FinMap.{get}
use Rattle.std.proofs.Common.{ap, subst, ◌∙◌}
use Rattle.grid_address.specs.Place.{same_place, Place}
use Rattle.cell_maps.specs.Sets.{has}
use Rattle.recalculation.specs.Reading.{is_formula_at}
use Rattle.sheet_store.specs.Grid.{Cells, Grid}
use Rattle.sheet_edits.proofs.Overlaid.{dirtied_all, put_whole}
use Rattle.sheet_edits.proofs.Plain.{plain_dirtied, plain_matches}
use Rattle.sheet_edits.specs.Spans.{changed, Becomes}
use Rattle.sheet_edits.proofs.many.write_cells.Goals as goal

pub put_all-requires-clause-sound : goal.put_all-requires-clause-sound
put_all-requires-clause-sound c = λ x s e. c.requires.sound x s (c.in-Ok.ensures.put.among x s e)

pub returns-in-Ok-clause-store : goal.returns-in-Ok-clause-store
returns-in-Ok-clause-store c =
    let left : Cells = c.prepare_all.new.changes in
    let mid : Grid = c.prepare_all.new.store in
    let put = subst (λ (l : List Place). Becomes mid (λ x. cond (has same_place l x)
    (changed (get left x) (get mid.cells x)) (get mid.cells x)) c.put_all.new.store) c.as_slice-in-Ok.ensures
    (record {
      cells = c.put_all.ensures.cells;
      widths = c.put_all.ensures.widths;
      hidden = c.put_all.ensures.hidden;
    }) in
    put_whole c.args.cells.now c.args.changes left c.args.store.now mid c.put_all.new.store c.requires.given
    c.in-Ok.ensures.put put

pub returns-in-Ok-clause-dirty : goal.returns-in-Ok-clause-dirty
returns-in-Ok-clause-dirty c =
    let cells : List Place = c.args.cells.now in
    let changes : Cells = c.args.changes in
    let left : Cells = c.prepare_all.new.changes in
    let mid : Grid = c.prepare_all.new.store in
    let keys : List Place = c.prepare_all.new.dirty.keys in
    let put = subst (λ (l : List Place). Becomes mid (λ x. cond (has same_place l x)
    (changed (get left x) (get mid.cells x)) (get mid.cells x)) c.put_all.new.store) c.as_slice-in-Ok.ensures
    (record {
      cells = c.put_all.ensures.cells;
      widths = c.put_all.ensures.widths;
      hidden = c.put_all.ensures.hidden;
    }) in
    dirtied_all changes c.args.store.now c.put_all.new.store (put_whole cells changes left c.args.store.now mid
    c.put_all.new.store c.requires.given c.in-Ok.ensures.put put).cells cells c.requires.given c.args.graph.now
    c.requires.matches
    c.args.dirty.now.keys keys c.settle_all.new.dirty.keys c.requires.only c.in-Ok.ensures.dirty
    (λ x. c.settle_all.ensures.dirty x ∙ ap (λ (l : List Place). cond (has same_place l x) (has same_place keys x
    && is_formula_at c.put_all.new.store x) (has same_place keys x)) c.as_slice-in-Ok-2.ensures)

pub returns-then-is_plain-clause-dirty : goal.returns-then-is_plain-clause-dirty
returns-then-is_plain-clause-dirty c = plain_dirtied c.args.graph.now c.args.store.now c.change_cells.new.store
    c.args.changes (c.is_plain.ensures.none c.if-is_plain.true) c.requires.matches
    (c.is_plain.ensures.plain c.if-is_plain.true) c.in_ok-change_cells.ensures.ok c.args.dirty.now.keys
    (has same_place c.args.cells.now) c.requires.only

pub returns-then-is_plain-clause-matches : goal.returns-then-is_plain-clause-matches
returns-then-is_plain-clause-matches c = plain_matches c.args.graph.now c.args.store.now c.change_cells.new.store
    c.args.changes (c.is_plain.ensures.none c.if-is_plain.true) c.requires.matches
    (c.is_plain.ensures.plain c.if-is_plain.true) c.in_ok-change_cells.ensures.ok
