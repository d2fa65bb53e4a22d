use Rattle.std.proofs.Common.{◌≡◌, ℕ, ◌-◌, List, ◌++◌, length, ap, ◌∙◌}
use Rattle.std.specs.Prelude.{min, take}
use Rattle.session_rooms.proofs.Ends.{cut_at_end, is_line_of}
use Rattle.session_rooms.proofs.lines.extended.Goals as goal

pub returns : goal.returns
returns c =
    let text : List ℕ = c.args.line.now.text in
    let bytes : List ℕ = c.args.bytes.now in
    let front : c.put_all.new.self ≡ text =
    c.put_all.ensures ∙ ap (λ (l : List ℕ). l ++ c.text-text.result.now) c.new-all.ensures ∙ c.text-text.ensures.text in
    let room : c.min-room.result ≡ min (240 - length text) (length bytes) =
    c.min-room.ensures ∙ ap (λ (l : List ℕ). min (240 - length l) (length bytes)) c.text-text.ensures.text in
    let all : c.put_all-2.new.self ≡ take 240 (text ++ bytes) =
    c.put_all-2.ensures ∙ ap (λ (l : List ℕ). l ++ take c.min-room.result bytes) front
    ∙ ap (λ (n : ℕ). text ++ take n bytes) room ∙ cut_at_end text bytes c.text-text.ensures.short in
    let shown : c.bytes.result.now ≡ take 240 (text ++ bytes) = c.bytes.ensures.bytes ∙ all in
    is_line_of c.new.result (take 240 (text ++ bytes)) (c.new.ensures.text ∙ shown)
    (c.new.ensures.cursor ∙ ap length shown)
