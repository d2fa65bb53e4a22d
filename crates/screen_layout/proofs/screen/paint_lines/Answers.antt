use Rattle.std.proofs.Common.{◌≡◌, ℕ, ◌+◌, ◌<◌, List, [], get_or, set, Option, ap, sym, subst, ◌∙◌, arith}
use Rattle.screen_layout.specs.Views.{viewed}
use Rattle.session_rooms.specs.declared.panel.Panel.{Panel}
use Rattle.grid_address.specs.Place.{Place}
use Rattle.screen_layout.specs.Screen.{screen}
use Rattle.screen_layout.proofs.Painted.{line_at, shaped}
use Rattle.screen_show.proofs.LineSets.{copying_ends, copying_more, copying_starts, Copying}
use Rattle.work_sheet.specs.Seen.{of_worksheet, Sheet}
use Rattle.screen_layout.proofs.screen.paint_lines.Goals as goal

pub loop-line-init : goal.loop-line-init
loop-line-init c =
    let s : Sheet = of_worksheet c.args.sheet.now in
    let p : Panel = viewed c.args.panel.now in
    let whole : List (List ℕ) = screen s p c.args.corner c.args.now.now.day c.args.now.now.second in
    record {
      within = c.next_from-line.ensures.within.1;
      copying =
          copying_starts c.args.lines.now c.args.shown.now whole c.requires _ c.next_from-line.ensures.passed
          c.is_whole.ensures.lines;
    }

-- the line is painted, and those up to the next one of the set are the same already
pub loop-line-preserved : goal.loop-line-preserved
loop-line-preserved c =
    let s : Sheet = of_worksheet c.args.sheet.now in
    let p : Panel = viewed c.args.panel.now in
    let corner : Place = c.args.corner in
    let day : Option ℕ = c.args.now.now.day in
    let second : ℕ = c.args.now.now.second in
    let whole : List (List ℕ) = screen s p corner day second in
    let row : ℕ = c.loop-line.line in
    let inside : row < 25 = omega arith in
    let painted : c.set_line.new.self ≡ set c.loop-line.shown row (get_or whole row []) =
    c.set_line.ensures ∙ ap (set c.loop-line.shown row)
    (c.line_at.ensures ∙ sym (line_at s p corner day second row inside)) in
    record {
      within = c.next_from-line-in-loop-line.ensures.within.1;
      copying =
          subst (λ (g : List (List ℕ)). Copying c.next_from-line-in-loop-line.result c.args.shown.now whole g)
          (sym painted)
          (copying_more c.args.lines.now c.args.shown.now whole c.requires row c.next_from-line-in-loop-line.result
          c.loop-line.shown inside c.next_from-line-in-loop-line.ensures.within.0
          c.next_from-line-in-loop-line.ensures.passed (shaped s p corner day second).lines
          c.loop-line.invariant.copying);
    }

pub returns : goal.returns
returns c =
    let s : Sheet = of_worksheet c.args.sheet.now in
    let p : Panel = viewed c.args.panel.now in
    let corner : Place = c.args.corner in
    copying_ends c.args.lines.now c.args.shown.now (screen s p corner c.args.now.now.day c.args.now.now.second)
    c.requires c.loop-line.line c.loop-line.shown
    (omega arith) (shaped s p corner c.args.now.now.day c.args.now.now.second).lines c.loop-line.invariant.copying
