use Rattle.std.proofs.Common.{◌≡◌, ◌≤◌, ℕ, ◌-◌, List, ◌++◌, length, ap, subst, ◌∙◌}
use Rattle.std.specs.Prelude.{min, take}
use Rattle.session_rooms.proofs.Ends.{cut_at_end}
use Rattle.room_keys.proofs.menu.lines.put_cut.Goals as goal

pub returns : goal.returns
returns c =
    let text : List ℕ = c.args.line.now in
    let bytes : List ℕ = c.args.bytes.now in
    let short : length text ≤ 240 =
    subst (λ (l : List ℕ). length l ≤ 240) c.bytes.ensures.bytes c.bytes.ensures.length in
    let room : c.min-room.result ≡ min (240 - length text) (length bytes) =
    c.min-room.ensures ∙ ap (λ (l : List ℕ). min (240 - length l) (length bytes)) c.bytes.ensures.bytes in
    c.put_all.ensures ∙ ap (λ (n : ℕ). text ++ take n bytes) room ∙ cut_at_end text bytes short
