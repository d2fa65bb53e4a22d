-- Texts that were written whole, or cut.
use Rattle.std.proofs.Common.{◌≡◌, ◌≤◌, ℕ, true, false, List, length, refl, ap, ◌∙◌, arith}
use Rattle.std.specs.Prelude.{nat_le, take}
use Rattle.std.proofs.lemmas.Bool.Decides.{nat_tests}
use Rattle.std.proofs.lemmas.List.{take_all}
use Rattle.desk_errors.specs.declared.error.CommandError.TheVariants as error
use Rattle.session_rooms.specs.declared.turn.Turn.TheVariants as turn
use Rattle.room_keys.specs.ready.Ready.{editing}

-- a text of at most 240 bytes is edited whole
pub whole_is_edited : (text bytes : List ℕ) → bytes ≡ take 240 text → nat_le (length text) 240 ≡ true
    → editing bytes ≡ editing text
whole_is_edited text bytes cut short =
    let few : length text ≤ 240 = grind (arith, nat_tests, short) in
    ap editing (cut ∙ take_all 240 text few)

-- a longer one is refused
pub long_is_refused : (text : List ℕ) → nat_le (length text) 240 ≡ false → editing text ≡ turn.Fail error.LineTooLong
long_is_refused text long = rw long refl
