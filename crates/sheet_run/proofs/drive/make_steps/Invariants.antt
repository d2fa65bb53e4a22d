use Rattle.std.proofs.Common.{◌≡◌, ◌≤◌, ◌+◌, ◌-◌}
use Rattle.sheet_run.specs.Displays.{Screen}
use Rattle.sheet_run.specs.inner.KeyFeed.{ahead}
use Rattle.sheet_run.specs.inner.Lent.{told, HasRoom, IsSame}
use Rattle.sheet_run.specs.inner.Sending.{IsUnsent}
use Rattle.sheet_run.specs.declared.displays.Sending.TheVariants.{AtTheEnd, EachStep}
use Rattle.sheet_run.proofs.Going.{Going}
use Rattle.sheet_run.proofs.drive.make_steps.Given as goal

abbrev pub invariant-loop-event : goal.invariant-loop-event
invariant-loop-event g l = record {
  going : (last : Screen) × Going l.bounds l.steps l.fn.session l.session l.feed last (told g.K.Keys g.S.Shelf g.C.Clock
      (λ d. (goal.Display-dyn g (d.vtable, d.value)).seen d.value) l.fn.keys l.fn.outside)
      (told g.K.Keys g.S.Shelf g.C.Clock (λ d. (goal.Display-dyn g (d.vtable, d.value)).seen d.value) l.keys l.outside)
      × (l.sending ≡ EachStep → l.frames.shown ≡ last);
  frames : l.frames.next ≡ l.frames.shown;
  unsent : l.sending ≡ AtTheEnd → IsUnsent (told g.K.Keys g.S.Shelf g.C.Clock
      (λ d. (goal.Display-dyn g (d.vtable, d.value)).seen d.value) l.fn.keys l.fn.outside)
      (told g.K.Keys g.S.Shelf g.C.Clock (λ d. (goal.Display-dyn g (d.vtable, d.value)).seen d.value) l.keys l.outside);
  same : IsSame l.fn.outside l.outside;
  room : HasRoom l.outside;
  within : l.steps ≤ l.bounds.steps;
}

abbrev pub decreases-loop-event : goal.decreases-loop-event
decreases-loop-event g l = ahead l.feed + (l.bounds.steps - l.steps)
