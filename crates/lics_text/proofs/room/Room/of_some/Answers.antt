use Rattle.std.proofs.Common.{◌∙◌, ◌-◌, drop, length, length-drop, arith}
use Rattle.std.proofs.lemmas.List.{take_all}
use Rattle.lics_text.proofs.Ends.{from_both_ends}
use Rattle.lics_text.proofs.room.Room.of_some.Goals as goal

pub returns : goal.returns
returns g c =
    let some = c.requires.some in
    let few = c.requires.few in
    let bytes = c.args.bytes.now in
    let from = length bytes - 12 in
    let last = c.copy_from_slice-2.ensures.after
    ∙ take_all (length bytes - from) (drop from bytes) (omega (arith, length-drop from bytes)) in
    from_both_ends 12 bytes c.copy_from_slice.new.self c.copy_from_slice-2.new.self _ _ some
    (omega (arith, few)) c.copy_from_slice.ensures.after last
