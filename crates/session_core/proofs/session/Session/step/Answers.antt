use Rattle.std.specs.Prelude.{◌≡◌, ℕ, true, false, slice_get, IfNone, IfSome, List, Bool, None, Option, Some, replicate}
use Rattle.std.proofs.Common.{refl, ap, sym, subst, ◌∙◌}
use Rattle.screen_show.proofs.LineSets.{all_may_differ}
use Rattle.screen_show.specs.Changes.{Unchanged}
use Rattle.session_core.specs.Machine.{afresh, scene_at, sheet_of, SessionView, State}
use Rattle.session_core.specs.declared.glance.Glance.{Glance}
use Rattle.session_core.specs.declared.touched.Touched.{Touched}
use Rattle.session_core.specs.inner.Glances.{glance_of, IsKept}
use Rattle.session_core.specs.inner.Touches.{HasTouched}
use Rattle.session_core.specs.Moving.{IsMoved, OnlyMovesBy}
use Rattle.session_core.specs.Screen.{screen}
use Rattle.work_sheet.specs.Doing.{with_pointer}
use Rattle.session_core.proofs.Afresh.{moves_afresh}
use Rattle.session_core.proofs.Held.{by_done}
use Rattle.session_core.proofs.Kept.{lines_followed}
use Rattle.session_core.proofs.Breaking.{event_breaks}
use Rattle.session_core.proofs.session.Session.step.Goals as goal

-- the lines that aren't told are the same: where an area stands still newly, all are told
lines_same : (freezes : Bool) (lines : List Bool) (s t : State) → (freezes ≡ true → lines ≡ replicate 25 true)
    → (freezes ≡ false → Unchanged lines (screen s) (screen t)) → Unchanged lines (screen s) (screen t)
lines_same true lines s t all kept =
    subst (λ (ls : List Bool). Unchanged ls (screen s) (screen t)) (sym (all refl))
    (all_may_differ (screen s) (screen t))
lines_same false lines s t all kept = kept refl

-- the lines that aren't told are the same, by what they hung on before the step: all are told where that isn't known
lines_known : (before : Option Glance) (freezes : Bool) (touched : Touched) (lines : List Bool) (s t : State)
    → IfNone before (lines ≡ replicate 25 true) → (freezes ≡ true → lines ≡ replicate 25 true)
    → IfSome before (λ b. freezes ≡ false → (n : ℕ) → slice_get lines n ≡ Some false
    → IsKept touched b (glance_of t) n) → IfSome before (λ b. b ≡ glance_of s)
    → ((b : Glance) → b ≡ glance_of s → freezes ≡ false
    → ((n : ℕ) → slice_get lines n ≡ Some false → IsKept touched b (glance_of t) n)
    → Unchanged lines (screen s) (screen t)) → Unchanged lines (screen s) (screen t)
lines_known None freezes touched lines s t unknown all kept is follow =
    subst (λ (ls : List Bool). Unchanged ls (screen s) (screen t)) (sym unknown) (all_may_differ (screen s) (screen t))
lines_known (Some b) freezes touched lines s t unknown all kept is follow =
    lines_same freezes lines s t all (λ none. follow b is none (kept none))

pub returns-in-Ok-clause-lines : goal.returns-in-Ok-clause-lines
returns-in-Ok-clause-lines g c is_fresh =
    let s : State = c.self.inside.machine.state in
    let mid : State = c.do_event.new.self.state in
    let t : State = c.follow-freezes.new.self.state in
    let lines : List Bool = c.lines_behind.result in
    let led = c.in-Ok.ensures.ok in
    let b : State = c.begin.new.self.state in
    let held : mid.frozen ≡ s.frozen =
    ap (λ (u : State). u.frozen) led.leads.state
    ∙ by_done c.args.event led.replies led.changed (scene_at b c.args.now.now) b
    ∙ ap (λ (u : State). u.frozen) c.begin.ensures.state in
    let touch : HasTouched c.in-Ok.taken.touched s mid =
    subst (λ (u : State). HasTouched c.in-Ok.taken.touched u mid) c.begin.ensures.state c.in-Ok.ensures.touched in
    let same : Unchanged lines (screen s) (screen t) =
    lines_known c.glance_before-before.result c.follow-freezes.result c.in-Ok.taken.touched lines s t
    c.lines_behind.ensures.unknown c.lines_behind.ensures.all c.lines_behind.ensures.kept c.glance_before-before.ensures
    (λ seen is none kept. lines_followed s mid t c.in-Ok.taken.touched seen (glance_of t) lines held touch
    (ap (λ (u : State). sheet_of u) c.follow-freezes.ensures.state)
    (ap (λ (u : State). u.frozen) c.follow-freezes.ensures.state) (sym c.follow-freezes.ensures.newly ∙ none)
    is refl kept) in
    subst (λ (shown : List (List ℕ)). Unchanged lines shown (screen t))
    (ap (λ (r : SessionView). screen r.state) c.self.view_is) same

-- a step that only moves leaves all of the sheet but the pointer, seen from before the step began
pub returns-in-Ok-clause-sheet : goal.returns-in-Ok-clause-sheet
returns-in-Ok-clause-sheet g c only =
    let mid : State = c.do_event.new.self.state in
    let b : State = c.begin.new.self.state in
    let from : b ≡ afresh c.args.self.now.state =
    c.begin.ensures.state ∙ ap (λ (r : SessionView). afresh r.state) c.self.view_is in
    let moved : IsMoved (sheet_of b) (sheet_of mid) =
    c.in-Ok.ensures.sheet (subst (λ (u : State). OnlyMovesBy c.args.event u) (sym from)
    (moves_afresh c.args.event c.args.self.now.state only)) in (
      moved.0,
      ap (λ (u : State). sheet_of u) c.follow-freezes.ensures.state ∙ moved.1
          ∙ ap (λ (u : State). with_pointer moved.0 (sheet_of u)) from,
    )

-- memory ran out in the step
pub returns-in-Err-clause-broken : goal.returns-in-Err-clause-broken
returns-in-Err-clause-broken g c is =
    event_breaks c.args.event c.args.now.now c.args.self.now.state c.begin.new.self.state _ _
    (c.begin.ensures.state ∙ ap (λ (r : SessionView). afresh r.state) c.self.view_is) c.in-Err.ensures.memory
