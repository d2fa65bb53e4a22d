use Rattle.std.proofs.Common.{arith, sym, ◌∙◌}
use Rattle.std.proofs.lemmas.Option.{get_or_from_slice_get}
use Rattle.sheet_edits.proofs.Gathering.{nothing_gathered, one_gathered}
use Rattle.sheet_edits.proofs.Ranked.{before_more, none_before}
use Rattle.sheet_edits.proofs.writes.gathered.Goals as goal
use Rattle.sheet_edits.proofs.writes.gathered.Goals.{in-Some+in_ok-gather, in_default}

pub loop-place-init : goal.loop-place-init
loop-place-init c = record {
  gathered = nothing_gathered c.args.store.now c.args.cells.now c.reserve.new.self c.requires.cells
      (c.reserve.ensures ∙ c.requires.changes);
  before = none_before c.args.cells.now 0 c.requires.cells;
}

pub loop-place-preserved : goal.loop-place-preserved
loop-place-preserved c = elim c.match-get.branch [
  | in-Some+in_ok-gather w ↦ record {
    gathered = one_gathered c.args.store.now c.args.writes.now c.loop-place.place w.in-Some.write.now
        (sym (get_or_from_slice_get c.args.writes.now c.loop-place.place w.in-Some.write.now w.in-Some.write.now
        w.in-Some.ensures.some.1)) w.in-Some.ensures.some.0
        c.loop-place.cells c.match-get.cells c.loop-place.changes c.match-get.changes c.loop-place.invariant.gathered
        (w.cells-is ∙ w.in_ok-gather.ensures.cells) (w.changes-is ∙ w.in_ok-gather.ensures.changes);
    before = before_more c.loop-place.cells c.match-get.cells w.in-Some.write.now.cell
        (w.cells-is ∙ w.in_ok-gather.ensures.cells) c.loop-place.least c.match-get.least c.loop-place.invariant.before
        (omega (arith, w.least-is, w.behind-least.ensures.least))
        (omega (arith, w.least-is, w.behind-least.ensures.rank, w.rank-rank.ensures.rank));
  }
  | in_default w ↦ absurd (omega (arith, c.loop-place-test.true, c.len-place-end.ensures, w.in_default.ensures.none))
]
