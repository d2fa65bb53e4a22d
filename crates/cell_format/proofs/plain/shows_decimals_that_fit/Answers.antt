use Rattle.std.proofs.Common.{ap, sym, ◌∙◌}
use Rattle.cell_format.specs.Numbers.{number_text}
use Rattle.cell_format.specs.declared.shape.Shape.{Shape}
use Rattle.cell_format.proofs.UsualFormat.{usual_shape}
use Rattle.cell_format.proofs.plain.shows_decimals_that_fit.Goals as goal

pub returns-then-is_shown_as : goal.returns-then-is_shown_as
returns-then-is_shown_as c = λ _ v room.
    ap (λ (s : Shape). number_text s v room)
    (usual_shape c.args.format.0 (sym c.is_shown_as.ensures ∙ c.if-is_shown_as.true))

pub returns-else-is_shown_as : goal.returns-else-is_shown_as
returns-else-is_shown_as c = λ general v room.
    ap (λ (s : Shape). number_text s v room) (sym c.shape_of.ensures.shape) ∙ c.is_general.ensures general v room
