-- What is shown fills its width.
use Rattle.std.proofs.Common.{◌≡◌, ◌≤◌, ◌<◌, ◌-◌, ◌+◌, ◌/◌, ◌%◌, ℕ, zero, suc, ℤ, List, [], ◌∷◌, ◌++◌, length, map}
use Rattle.std.proofs.Common.{take, get_or, refl, ap, arith, length-append, inl, inr, Option, Some, None}
use Rattle.std.specs.Prelude.{nat_le, nat_lt}
use Rattle.std.proofs.lemmas.Bool.{cases_Bool}
use Rattle.std.proofs.lemmas.Bool.Decides.{nat_tests}
use Rattle.std.proofs.lemmas.List.{length-replicate, length-take}
use Rattle.lics_text.specs.declared.prefix.LabelPrefix.{LabelPrefix}
use Rattle.lics_text.specs.declared.prefix.LabelPrefix.TheVariants.{Left, Right, Center, Repeat, Unprinted}
use Rattle.cell_format.specs.Format.{shape_of}
use Rattle.cell_format.specs.Labels.{aligned, at_left, centred, masked, repeated, shown_label}
use Rattle.cell_format.specs.Numbers.{at_right, number_text, placed, shown_number, spaces}

right_width : (text : List ℕ) (width : ℕ) → length text < width → length (at_right text width) ≡ width
right_width text width fits =
    omega (
      arith,
      fits,
      length-append (spaces (width - 1 - length text)) (text ++ 32 ∷ []),
      length-replicate {A = ℕ} (width - 1 - length text) 32,
      length-append text (32 ∷ []),
    )

placed_width : (text : Option (List ℕ)) (width : ℕ) → length (placed text width) ≡ width
placed_width None width = length-replicate {A = ℕ} width 42
placed_width (Some text) width = elim (cases_Bool (nat_lt (length text) width)) [
  | inl fits ↦ rw fits (right_width text width (grind (arith, nat_tests, fits)))
  | inr too_long ↦ rw too_long (length-replicate {A = ℕ} width 42)
]

number_in_width : (v : ℤ) (format width : ℕ) → length (shown_number v format width) ≡ width
unfolding shown_number
number_in_width v format width = placed_width (number_text (shape_of format) v (width - 1)) width

left_width : (text : List ℕ) (width : ℕ) → length (at_left text width) ≡ width
left_width text width =
    omega (
      arith,
      length-append (take width text) (spaces (width - length text)),
      length-take width text,
      length-replicate {A = ℕ} (width - length text) 32,
    )

centred_width : (text : List ℕ) (width : ℕ) → length text ≤ width → length (centred text width) ≡ width
centred_width text width fits =
    let free : ℕ = width - length text in
    omega (
      arith,
      fits,
      length-append (spaces (free / 2)) (text ++ spaces (free - free / 2)),
      length-append text (spaces (free - free / 2)),
      length-replicate {A = ℕ} (free / 2) 32,
      length-replicate {A = ℕ} (free - free / 2) 32,
    )

repeated_width : (text : List ℕ) (width : ℕ) → length (repeated text width) ≡ width
unfolding repeated
repeated_width text zero = refl
repeated_width text (suc width) =
    omega (
      arith,
      length-append (repeated text width) (get_or text (width % length text) 32 ∷ []),
      repeated_width text width,
    )

aligned_width : (prefix : LabelPrefix) (text : List ℕ) (width : ℕ) → length (aligned prefix text width) ≡ width
aligned_width Repeat text width = repeated_width text width
aligned_width Right text width = elim (cases_Bool (nat_lt (length text) width)) [
  | inl fits ↦ rw fits (right_width text width (grind (arith, nat_tests, fits)))
  | inr too_long ↦ rw too_long (left_width text width)
]
aligned_width Center text width = elim (cases_Bool (nat_le (length text) width)) [
  | inl fits ↦ rw fits (centred_width text width (grind (arith, nat_tests, fits)))
  | inr too_long ↦ rw too_long (left_width text width)
]
aligned_width Left text width = left_width text width
aligned_width Unprinted text width = left_width text width

label_in_width : (prefix : LabelPrefix) (bytes : List ℕ) (width : ℕ) → length (shown_label prefix bytes width) ≡ width
unfolding shown_label
label_in_width prefix bytes width = aligned_width prefix (map masked bytes) width

-- a shown number fills its width
pub number_width : (line new : List ℕ) (v : ℤ) (format width : ℕ) → new ≡ line ++ shown_number v format width
    → length new ≡ length line + width
number_width line new v format width is =
    omega (arith, ap length is, length-append line (shown_number v format width), number_in_width v format width)

-- a shown label fills its width
pub label_width : (line new : List ℕ) (prefix : LabelPrefix) (bytes : List ℕ) (width : ℕ)
    → new ≡ line ++ shown_label prefix bytes width → length new ≡ length line + width
label_width line new prefix bytes width is =
    omega (arith, ap length is, length-append line (shown_label prefix bytes width), label_in_width prefix bytes width)
