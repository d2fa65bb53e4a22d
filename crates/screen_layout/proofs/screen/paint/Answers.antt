use Rattle.std.proofs.Common.{ap, ◌∙◌}
use Rattle.session_rooms.specs.declared.panel.Panel.{Panel}
use Rattle.screen_layout.specs.Screen.{screen}
use Rattle.work_sheet.specs.Seen.{of_worksheet}
use Rattle.screen_layout.proofs.Painted.{printed, shaped}
use Rattle.screen_show.proofs.LineSets.{all_may_differ}
use Rattle.screen_layout.proofs.screen.paint.Goals as goal

pub paint_lines-requires : goal.paint_lines-requires
paint_lines-requires c = rw c.all.ensures (all_may_differ _ _)

pub returns-clause-screen : goal.returns-clause-screen
returns-clause-screen c =
    c.paint_lines.ensures
    ∙ ap (λ (p : Panel). screen (of_worksheet c.args.sheet.now) p c.args.corner c.args.now.now.day
    c.args.now.now.second) c.of.ensures

pub returns-clause-printed : goal.returns-clause-printed
returns-clause-printed c =
    printed (of_worksheet c.args.sheet.now) c.args.panel.now c.args.corner c.args.now.now.day c.args.now.now.second

pub returns-clause-shape : goal.returns-clause-shape
returns-clause-shape c =
    shaped (of_worksheet c.args.sheet.now) c.args.panel.now c.args.corner c.args.now.now.day c.args.now.now.second
