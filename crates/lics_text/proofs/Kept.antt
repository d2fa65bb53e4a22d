-- What is made of a text is a text.
use Rattle.std.specs.Char.{is_ascii_alphabetic, to_ascii_lowercase, to_ascii_uppercase}
use Rattle.std.proofs.Common.{◌≡◌, ℕ, suc, ◌≤◌, Bool, true, false, List, [], ◌∷◌, length, get_or, map, refl, ap, arith}
use Rattle.std.proofs.Common.{inl, inr}
use Rattle.std.specs.Prelude.{◌==◌, ◌&&◌, if◌then◌else◌}
use Rattle.std.specs.List.{All}
use Rattle.std.proofs.lemmas.Bool.{cases_Bool}
use Rattle.std.proofs.lemmas.Bool.Decides.{nat_tests}
use Rattle.std.proofs.lemmas.List.{length-map}
use Rattle.std.proofs.lemmas.List.Elements.{All-map, All-cons, All-head, All-tail}
use Rattle.lics_text.specs.Bytes.{IsText}
use Rattle.lics_text.specs.Texts.{proper_after, proper_of, is_gap, single_spaced, without_front, trimmed}

folded_large : (b : ℕ) → 32 ≤ b → 32 ≤ to_ascii_uppercase b
folded_large b h = grind (arith, nat_tests)

lowered_large : (b : ℕ) → 32 ≤ b → 32 ≤ to_ascii_lowercase b
lowered_large b h = grind (arith, nat_tests)

-- a text stays one with its letters raised
pub upper_kept : (xs : List ℕ) → IsText xs → IsText (map to_ascii_uppercase xs)
upper_kept xs text = (
  omega (arith, length-map xs to_ascii_uppercase, text.0),
  All-map (λ b. 32 ≤ b) to_ascii_uppercase xs (λ k d h. folded_large (get_or xs k d) (text.1 k d h)),
)

-- it stays one with them lowered
pub lower_kept : (xs : List ℕ) → IsText xs → IsText (map to_ascii_lowercase xs)
lower_kept xs text = (
  omega (arith, length-map xs to_ascii_lowercase, text.0),
  All-map (λ b. 32 ≤ b) to_ascii_lowercase xs (λ k d h. lowered_large (get_or xs k d) (text.1 k d h)),
)

length-proper_after : (before : Bool) (xs : List ℕ) → length (proper_after before xs) ≡ length xs
length-proper_after before [] = refl
length-proper_after before (x ∷ xs) = ap suc (length-proper_after (is_ascii_alphabetic x) xs)

cased_large : (before : Bool) (b : ℕ) → 32 ≤ b → 32 ≤ (if before then to_ascii_lowercase b else to_ascii_uppercase b)
cased_large true b h = lowered_large b h
cased_large false b h = folded_large b h

proper_large : (before : Bool) (xs : List ℕ) → All (λ b. 32 ≤ b) xs → All (λ b. 32 ≤ b) (proper_after before xs)
proper_large before [] all = all
proper_large before (x ∷ xs) all =
    All-cons (λ b. 32 ≤ b) _ _ (cased_large before x (All-head (λ b. 32 ≤ b) x xs all))
    (proper_large (is_ascii_alphabetic x) xs (All-tail (λ b. 32 ≤ b) x xs all))

-- it stays one with its words begun by capitals
pub proper_kept : (xs : List ℕ) → IsText xs → IsText (proper_of xs)
proper_kept xs text = (omega (arith, length-proper_after false xs, text.0), proper_large false xs (text.1))

-- without its front a text is no longer
pub front_shorter : (xs : List ℕ) → length (without_front xs) ≤ length xs
front_shorter [] = omega arith
front_shorter (x ∷ xs) = elim (cases_Bool (x == 32)) [
  | inl space ↦ rw space (omega (arith, front_shorter xs))
  | inr other ↦ rw other (omega arith)
]

front_large : (xs : List ℕ) → All (λ b. 32 ≤ b) xs → All (λ b. 32 ≤ b) (without_front xs)
front_large [] all = all
front_large (x ∷ xs) all = elim (cases_Bool (x == 32)) [
  | inl space ↦ rw space (front_large xs (All-tail (λ b. 32 ≤ b) x xs all))
  | inr other ↦ rw other all
]

single_shorter : (xs : List ℕ) → length (single_spaced xs) ≤ length xs
single_shorter [] = omega arith
single_shorter (x ∷ xs) = elim (cases_Bool (x == 32 && is_gap xs)) [
  | inl space ↦ rw space (omega (arith, single_shorter xs))
  | inr other ↦ rw other (omega (arith, single_shorter xs))
]

single_large : (xs : List ℕ) → All (λ b. 32 ≤ b) xs → All (λ b. 32 ≤ b) (single_spaced xs)
single_large [] all = all
single_large (x ∷ xs) all = elim (cases_Bool (x == 32 && is_gap xs)) [
  | inl space ↦ rw space (single_large xs (All-tail (λ b. 32 ≤ b) x xs all))
  | inr other ↦
      rw other (All-cons (λ b. 32 ≤ b) _ _ (All-head (λ b. 32 ≤ b) x xs all)
      (single_large xs (All-tail (λ b. 32 ≤ b) x xs all)))
]

-- a trimmed text is a text
pub trim_kept : (xs : List ℕ) → IsText xs → IsText (trimmed xs)
trim_kept xs text = (
  omega (arith, single_shorter (without_front xs), front_shorter xs, text.0),
  single_large (without_front xs) (front_large xs (text.1)),
)
