use Rattle.std.proofs.Common.{arith, sym, ◌∙◌}
use Rattle.sheet_run.proofs.Unsent.{untold_all, untold_more}
use Rattle.sheet_run.proofs.displays.are_untold.Goals as goal

pub loop-place-init : goal.loop-place-init
loop-place-init g c k d below = absurd (omega (arith, below))

pub loop-place-preserved : goal.loop-place-preserved
loop-place-preserved g c =
    untold_more _ c.args.displays.now.items c.loop-place.place c.index.result.now
    (omega (arith, c.args.displays.now.ok.0)) c.index.ensures (sym c.if-tells.false ∙ c.tells.ensures)
    c.loop-place.invariant

pub returns : goal.returns
returns g c is =
    untold_all _ c.args.displays.now.items c.loop-place.place (omega (arith, c.args.displays.now.ok.0))
    c.loop-place.invariant
