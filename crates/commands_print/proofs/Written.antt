-- How a command below Print ends that makes no call.
use Rattle.std.specs.Prelude.{ℕ, refl}
use Rattle.command_desk.specs.Acting.{DeskActed, HasActedOn}
use Rattle.command_desk.specs.declared.desk.Desk as declared
use Rattle.command_desk.specs.declared.ending.CommandEnd.{CommandEnd}
use Rattle.commands_file.specs.Calls.{failed, ShelfView}
use Rattle.commands_file.specs.Commands.{without_call, HasActedOver}

-- it leaves the shelf, whatever it would answer
pub alone : (acted : DeskActed) (came : CommandEnd) (v w : declared.Desk) (m n : ℕ) (shelf : ShelfView)
    → HasActedOn acted came v w m n →
    HasActedOver (λ r. without_call acted) came v w m n shelf shelf
alone acted came v w m n shelf h = record { reply = failed; acted = h; answered = refl }
