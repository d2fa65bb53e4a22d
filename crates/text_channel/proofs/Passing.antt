-- How far the position may move.
use Rattle.std.proofs.Common.{◌≡◌, ◌≤◌, ◌+◌, ℕ, List, length, Option, None, Some, IfSome, arith}
use Rattle.std.proofs.lemmas.Bool.Decides.{nat_tests}
use Rattle.std.proofs.lemmas.List.{length-drop}
use Rattle.text_channel.specs.Channels.{left_to_read}
use Rattle.text_channel.specs.declared.attached.Attached.{Attached}

-- behind bytes that can be read the position is still within the file
pub is_within : (c : Option Attached) (left : List ℕ) (count : ℕ) → Some left ≡ left_to_read c → count ≤ length left
    → IfSome c (λ a. a.at + count ≤ length a.bytes)
is_within None left count is short = tt
is_within (Some a) left count is short = grind (arith, nat_tests, length-drop a.at a.bytes, is, short)
