-- Bytes at the end of a line.
use Rattle.std.proofs.Common.{◌≡◌, ◌≤◌, ℕ, ◌+◌, ◌-◌, List, ◌++◌, length, ap, sym, ◌∙◌, arith}
use Rattle.std.specs.Prelude.{min, take}
use Rattle.std.proofs.Math.Seq.{take-append-add}
use Rattle.std.proofs.lemmas.List.{take_min}
use Rattle.entry_line.specs.Line.{Entry}
use Rattle.session_rooms.specs.Lines.{line_of}

-- as many bytes as there is room for
pub cut_at_end : (text bytes : List ℕ) → length text ≤ 240
    → text ++ take (min (240 - length text) (length bytes)) bytes ≡ take 240 (text ++ bytes)
cut_at_end text bytes short =
    let whole : length text + (240 - length text) ≡ 240 = omega (arith, short) in
    ap (λ (l : List ℕ). text ++ l) (take_min (240 - length text) bytes)
    ∙ sym (take-append-add text bytes (240 - length text))
    ∙ ap (λ (n : ℕ). take n (text ++ bytes)) whole

-- an entry with its cursor at the end is the line of its text
pub is_line_of : (e : Entry) (t : List ℕ) → e.text ≡ t → e.cursor ≡ length t → e ≡ line_of t
is_line_of e t text cursor =
    ap (λ (n : ℕ). record e { cursor = n }) cursor ∙ ap (λ (l : List ℕ). record (line_of t) { text = l }) text
