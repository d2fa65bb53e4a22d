use Rattle.std.specs.Prelude.{List}
use Rattle.std.specs.FinMap.{get}
use Rattle.std.proofs.Common.{ap, subst, sym, ◌∙◌}
use Rattle.grid_address.specs.Place.{Place}
use Rattle.depend_graph.specs.Sets.{Extends}
use Rattle.sheet_edits.proofs.Listed.{extends_both, member_more, member_same}
use Rattle.sheet_edits.specs.inner.Putting.{gives_formula}
use Rattle.sheet_edits.proofs.many.insert_given.Goals as goal
use Rattle.sheet_edits.proofs.many.insert_given.Goals.{then-is_given+in_ok-insert, else-is_given}

pub loop-cell-preserved : goal.loop-cell-preserved
loop-cell-preserved c = elim c.if-is_given.branch [
  | then-is_given+in_ok-insert w ↦ record {
    members = member_more c.args.cells.now c.loop-cell.cell-index c.cell-item.result
        c.cell-item.is c.loop-cell-test.true c.args.dirty.now.keys c.loop-cell.dirty.keys
        (λ x. gives_formula (get c.args.changes.now x)) c.loop-cell.invariant.members
        c.if-is_given.dirty.keys (ap (λ d. d.keys) w.dirty-is ∙ w.in_ok-insert.ensures.keys)
        (sym w.if-is_given.ensures);
    extends = extends_both c.args.dirty.now.keys c.loop-cell.dirty.keys c.if-is_given.dirty.keys
        c.loop-cell.invariant.extends (subst (λ (ks : List Place). Extends c.loop-cell.dirty.keys ks)
        (sym (ap (λ d. d.keys) w.dirty-is)) w.insert.ensures.extends);
  }
  | else-is_given w ↦ record {
    members = member_same c.args.cells.now c.loop-cell.cell-index c.cell-item.result
        c.cell-item.is c.loop-cell-test.true c.args.dirty.now.keys c.loop-cell.dirty.keys
        (λ x. gives_formula (get c.args.changes.now x)) c.loop-cell.invariant.members
        c.if-is_given.dirty.keys (ap (λ d. d.keys) w.dirty-is) (sym w.if-is_given.ensures);
    extends = subst (λ (ks : List Place). Extends c.args.dirty.now.keys ks)
        (sym (ap (λ d. d.keys) w.dirty-is)) c.loop-cell.invariant.extends;
  }
]
