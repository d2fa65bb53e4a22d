use Rattle.std.proofs.Common.{◌≡◌, rules, ℕ, ◌<◌, List, [], get_or, set, Option, Some, None, ap, sym, ◌∙◌, arith}
use Rattle.std.specs.Prelude.{option_copied, slice_get}
use Rattle.std.proofs.lemmas.Option.{slice_get-get_or}
use Rattle.session_rooms.specs.declared.panel.Panel.{Panel}
use Rattle.screen_layout.proofs.Painted.{line_at}
use Rattle.screen_layout.specs.Screen.{screen_line}
use Rattle.screen_layout.specs.Views.{viewed}
use Rattle.session_core.specs.Frozen.{held_at, line_over}
use Rattle.session_core.specs.Machine.{sheet_of, State}
use Rattle.session_core.specs.inner.Leading.{Worked}
use Rattle.session_core.specs.Screen.{painted_screen, panel_of, screen}
use Rattle.session_core.proofs.Still.{put_whole, shown_at}
use Rattle.session_core.proofs.machine.Machine.paint_line.Goals as goal

-- a line that is held is shown
pub returns-in-Some : goal.returns-in-Some
returns-in-Some c =
    let s : State = c.args.self.now.state in
    let n : ℕ = c.args.line in
    let inside : n < 25 = omega (arith, c.requires.inside) in
    let held : List (List ℕ) = c.in-Some.held.now in
    let bytes : List ℕ = c.line.result.now in
    let is : held_at s.frozen n ≡ Some held = search rules in
    let there : Some bytes ≡ Some (get_or held n []) =
    sym c.line.ensures.line ∙ slice_get-get_or held n [] (omega (arith, c.line.ensures.screen.lines, inside)) in
    let same : bytes ≡ get_or held n [] = cc in
    c.put.ensures.put ∙ put_whole c.args.shown.now n bytes c.put.ensures.screen inside c.line.ensures.width
    ∙ ap (set c.args.shown.now n) (same ∙ sym (shown_at s.frozen (painted_screen s) n inside
    ∙ ap (λ (h : Option (List (List ℕ))). line_over h (painted_screen s) n) is))

-- and any other is painted
pub returns-in-None : goal.returns-in-None
returns-in-None c =
    let s : State = c.args.self.now.state in
    let n : ℕ = c.args.line in
    let inside : n < 25 = omega (arith, c.requires.inside) in
    let is : held_at s.frozen n ≡ None = search rules in
    let shown : get_or (screen s) n [] ≡ screen_line (sheet_of s) (panel_of s) s.corner s.day s.second n =
    shown_at s.frozen (painted_screen s) n inside
    ∙ ap (λ (h : Option (List (List ℕ))). line_over h (painted_screen s) n) is
    ∙ line_at (sheet_of s) (panel_of s) s.corner s.day s.second n inside in
    let painted : c.line_at-painted.result ≡ screen_line (sheet_of s) (panel_of s) s.corner s.day s.second n =
    c.line_at-painted.ensures
    ∙ ap (λ (v : Worked). screen_line (sheet_of v.state) (viewed c.args.panel.now) v.state.corner v.state.day
    v.state.second n) c.self.view_is
    ∙ ap (λ (p : Panel). screen_line (sheet_of s) p s.corner s.day s.second n) c.requires.panel in
    c.set_line.ensures ∙ ap (set c.args.shown.now n) (painted ∙ sym shown)
