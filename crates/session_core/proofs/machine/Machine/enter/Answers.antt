use Rattle.std.proofs.Common.{◌≡◌, ℕ, true, ap, subst, ◌∙◌}
use Rattle.grid_address.specs.Place.{Place}
use Rattle.session_core.specs.Machine.{pointer_of, scene_at, sheet_of, State}
use Rattle.session_core.specs.inner.Touches.{touches_row, Settles}
use Rattle.session_core.specs.declared.touched.Touched.{Touched}
use Rattle.session_core.proofs.Touching.{entry_touches}
use Rattle.session_core.proofs.machine.Machine.enter.Goals as goal

-- what is touched behind the write is touched by all
pub returns-clause-touched : goal.returns-clause-touched
returns-clause-touched c =
    let s : State = c.args.self.now.state in
    let mid : State = c.write.new.self.state in
    let x : Touched = c.touched_behind-touched.result in
    let same : mid.corner.row ≡ s.corner.row = ap (λ (u : State). u.corner.row) c.in_ok-write.ensures.state in
    let place : c.row.inside.row ≡ (pointer_of s).row = ap (λ (p : Place). p.row) (c.row.view_is ∙ c.pointer.ensures) in
    let row : touches_row x s.corner.row (pointer_of s).row ≡ true =
    subst (λ (n : ℕ). touches_row x n (pointer_of s).row ≡ true) same
    (subst (λ (n : ℕ). touches_row x mid.corner.row n ≡ true) place c.touched_behind-touched.ensures.row) in
    let settles : Settles x s.corner.row (sheet_of mid) =
    subst (λ (n : ℕ). Settles x n (sheet_of mid)) same c.touched_behind-touched.ensures.settles in
    entry_touches (sheet_of s) (sheet_of mid) (sheet_of c.settle.new.self.state) (sheet_of c.go.new.self.state)
    (scene_at s c.args.now.now)
    (scene_at mid c.args.now.now) (pointer_of s) c.args.content
    (ap (λ (u : State). sheet_of u) c.in_ok-write.ensures.state)
    (ap (λ (u : State). sheet_of u) c.in_ok-settle.ensures.state) c.go.ensures.sheet
    x s.corner.row row settles
