use Rattle.sheet_run.proofs.Unsent.{FirstUntold}
use Rattle.sheet_run.proofs.displays.are_untold.Given as goal

abbrev pub invariant-loop-place : goal.invariant-loop-place
invariant-loop-place g l =
    FirstUntold (λ d. (goal.Display-dyn g (d.vtable, d.value)).seen d.value) l.displays.items l.place
