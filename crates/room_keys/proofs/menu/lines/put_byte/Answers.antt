use Rattle.std.proofs.Common.{◌≡◌, ◌≤◌, ℕ, List, length, subst, ◌∙◌}
use Rattle.room_keys.proofs.Names.{byte_cut}
use Rattle.room_keys.proofs.menu.lines.put_byte.Goals as goal

pub returns : goal.returns
returns c =
    c.put.ensures.list
    ∙ byte_cut c.args.line.now c.args.byte
    (subst (λ (l : List ℕ). length l ≤ 240) c.bytes.ensures.bytes c.bytes.ensures.length)
