-- What a command makes of the worksheet that is worked on.
use Rattle.std.specs.Prelude.{◌≡◌}
use Rattle.command_desk.specs.Acting.{Acted, HasActedBy}
use Rattle.command_desk.specs.declared.ending.CommandEnd.{CommandEnd}
use Rattle.commands_range.specs.declared.work.Work.{Work}
use Rattle.formula_parts.specs.declared.look.Scene.{Scene}
use Rattle.work_sheet.specs.Seen.{Sheet}

-- the same worksheet and count, at the same scene
pub record IsSame (a b : Work) : Type 0 where
  pub sheet : b.sheet.ghost_name ≡ a.sheet.ghost_name
  pub scene : b.scene ≡ a.scene
  pub tally : b.tally.ghost_name ≡ a.tally.ghost_name

-- a command came to this end by an act over the worksheet at the scene
pub record HasActedOn (act : Scene → Sheet → Acted) (a b : Work) (end : CommandEnd) : Type 0 where
  pub acted : HasActedBy (act a.scene.now) end a.sheet.now b.sheet.now a.tally.now.count b.tally.now.count
  pub same : IsSame a b
