-- What is read is a text's bytes.
use Rattle.std.proofs.Common.{◌≡◌, ◌≤◌, ℕ, List, length, map, sym, subst, arith}
use Rattle.std.proofs.lemmas.Bool.Decides.{nat_tests}
use Rattle.std.proofs.lemmas.List.{length-map}
use Rattle.std.proofs.lemmas.List.Elements.{All-map}
use Rattle.std.specs.List.{slice_index_or}
use Rattle.lics_text.specs.Bytes.{IsText}
use Rattle.text_channel.specs.Lines.{text_byte}

at_least : (b : ℕ) → 32 ≤ text_byte b
at_least b = grind (arith, nat_tests)

-- bytes as they are shown, at most 240 of them, are a text
pub is_shown_text : (bytes shown : List ℕ) → shown ≡ map text_byte bytes → length bytes ≤ 240 → IsText shown
is_shown_text bytes shown is short = subst IsText (sym is) (
  omega (arith, length-map bytes text_byte, short),
  All-map (λ b. 32 ≤ b) text_byte bytes (λ k d inside. at_least (slice_index_or bytes k d)),
)
