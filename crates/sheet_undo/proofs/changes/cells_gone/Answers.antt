use Rattle.std.proofs.Common.{ap, subst}
use Rattle.sheet_undo.proofs.Between.{taken_gone, taking_begun, IsTaking}
use Rattle.sheet_undo.proofs.Going.{all_gone}
use Rattle.sheet_undo.specs.inner.Changes.{gone_of}
use Rattle.edit_log.specs.Changes.{all_changed}
use Rattle.sheet_undo.proofs.changes.cells_gone.Goals as goal

pub loop-entry-init : goal.loop-entry-init
loop-entry-init c = taking_begun c.args.kept.now.cells c.args.next.now.cells (gone_of c.new-gone.result.items)
    c.entries-left.result (ap gone_of c.new-gone.ensures.items) c.entries-left.ensures

pub loop-entry-preserved-in-Continue-1 : goal.loop-entry-preserved-in-Continue-1
loop-entry-preserved-in-Continue-1 c =
    let kept = c.args.kept.now.cells in
    let next = c.args.next.now.cells in
    let now = all_changed next (gone_of c.loop-entry.gone.items) in
    taken_gone kept next now (all_changed next (gone_of c.push.new.self.items))
    (c.in-Some.entry.0, c.in-Some.entry.1.now) c.next.new.self (c.is_absent.ensures.0 c.if-is_absent.true)
    (all_gone next c.loop-entry.gone.items c.push.new.self.items c.in-Some.entry.0 c.in_ok-push.ensures.items)
    (subst (IsTaking kept next now) c.in-Some.ensures.some c.loop-entry.invariant)
