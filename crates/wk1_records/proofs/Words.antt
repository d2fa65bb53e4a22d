-- Texts in records: bytes up to a 00, of which none is below 32.
use Rattle.std.proofs.Common.{◌≡◌, ℕ, zero, suc, ◌≤◌, ◌<◌, Bool, true, false, nat_le, get_or, take, List, [], ◌∷◌}
use Rattle.std.proofs.Common.{◌+◌, ◌-◌, length, refl, ap, arith, sym, ◌∙◌, inl, inr, length-take}
use Rattle.std.proofs.lemmas.Bool.{cases_lt}
use Rattle.std.proofs.lemmas.List.{get_or-take}
use Rattle.std.specs.List.{list_all}
use Rattle.std.specs.Prelude.{◌==◌, ◌&&◌, Option, Some, None, Ok, Err, if◌then◌else◌}
use Rattle.std.proofs.lemmas.Bool.Decides.{nat_tests}
use Rattle.lics_text.specs.Prefixes.{prefix_of}
use Rattle.lics_text.specs.declared.prefix.LabelPrefix.{LabelPrefix}
use Rattle.formula_tree.specs.Ranges.{is_text}
use Rattle.wk1_formula.specs.Reading.{before_zero, with_byte}
use Rattle.wk1_formula.proofs.Texts.{first_zero, no_zero}
use Rattle.wk1_records.specs.Meanings.{cell_of, label_by, label_of, label_state, labelled, text_entry}
use Rattle.wk1_records.specs.declared.entry.Entry.TheVariants as entry
use Rattle.wk1_records.specs.declared.fault.Wk1Fault.TheVariants as fault

-- none is below 32
abbrev are_words : List ℕ → Bool
are_words t = list_all (λ b. nat_le 32 b) t

-- a text is there, and none of its bytes is below 32
abbrev has_words : Option (List ℕ) → Bool
has_words None = false
has_words (Some t) = are_words t

both_false : (x : Bool) → (x && false) ≡ false
both_false true = refl
both_false false = refl

with_words : (b : ℕ) (o : Option (List ℕ)) → has_words (with_byte b o) ≡ (nat_le 32 b && has_words o)
with_words b None = sym (both_false (nat_le 32 b))
with_words b (Some t) = refl

-- bytes in front of one are words where none of them is below 32
pub front_words : (bytes : List ℕ) (at : ℕ) → ((k : ℕ) → k < at → 32 ≤ get_or bytes k 0) → at ≤ length bytes
    → list_all (λ b. nat_le 32 b) (take at bytes) ≡ true
front_words [] zero large inside = refl
front_words (b ∷ bs) zero large inside = refl
front_words [] (suc k) large inside = absurd (omega (arith, inside))
front_words (b ∷ bs) (suc k) large inside =
    let first : 32 ≤ b = large 0 (omega arith) in
    let e : nat_le 32 b ≡ true = grind (arith, nat_tests, first) in
    ap (λ x. x && are_words (take k bs)) e
    ∙ front_words bs k (λ j less. large (suc j) (omega (arith, less))) (omega (arith, inside))

-- they are what stands before the first 00, where they end at one
pub ends_there : (bytes : List ℕ) (at : ℕ) → ((k : ℕ) → k < at → 32 ≤ get_or bytes k 0) → at < length bytes
    → get_or bytes at 0 ≡ 0 → before_zero bytes ≡ Some (take at bytes)
ends_there bytes at large inside is =
    first_zero bytes at (λ k less z. (let x = large k less in absurd (omega (arith, x, z)))) inside is

-- bytes are large in a list where they are in its front
pub large_front : (bytes : List ℕ) (at : ℕ) → at ≤ length bytes
    → ((k : ℕ) → k < length (take at bytes) → 32 ≤ get_or (take at bytes) k 0)
    → (k : ℕ) → k < at → 32 ≤ get_or bytes k 0
large_front bytes at inside large k less =
    let there : k < length (take at bytes) = omega (arith, less, inside, length-take at bytes) in
    let same : get_or (take at bytes) k 0 ≡ get_or bytes k 0 = get_or-take at bytes k 0 less in
    let x : 32 ≤ get_or (take at bytes) k 0 = large k there in
    omega (arith, same, x)

-- bytes are large in a list where its first ones and its last ones are, and these meet
pub large_ends : (bytes : List ℕ) (n least : ℕ) → n ≤ length bytes → length bytes ≤ n + n → 32 ≤ least
    → ((k : ℕ) → k < n → (least ≤ get_or bytes k 0) × (least ≤ get_or bytes (length bytes - n + k) 0))
    → (k : ℕ) → k < length bytes → 32 ≤ get_or bytes k 0
large_ends bytes n least more few large each k inside =
    elim (cases_lt k n) [
      | inl less ↦ (let x : least ≤ get_or bytes k 0 = (each k less).0 in omega (arith, x, large))
      | inr later ↦ (
          let last = length bytes - n in
          let place : last + (k - last) ≡ k = omega (arith, later, few) in
          let same : get_or bytes (last + (k - last)) 0 ≡ get_or bytes k 0 = ap (λ j. get_or bytes j 0) place in
          let x : least ≤ get_or bytes (last + (k - last)) 0 =
          (each (k - last) (omega (arith, inside, later, few, more))).1 in
          omega (arith, same, x, large))
    ]

-- a byte below 32 before the first 00 is in the text that ends there
low_byte : (bytes : List ℕ) (at : ℕ) → ((k : ℕ) → k < at → 32 ≤ get_or bytes k 0) → at < length bytes
    → get_or bytes at 0 < 32 → (get_or bytes at 0 ≡ 0 → ⊥) → has_words (before_zero bytes) ≡ false
low_byte [] at large inside low some = absurd (omega (arith, inside))
low_byte (b ∷ bs) zero large inside low some =
    let e : (b == 0) ≡ false = grind (arith, nat_tests, some) in
    let small : nat_le 32 b ≡ false = grind (arith, nat_tests, low) in
    ap (λ (x : Bool). has_words (if x then Some [] else with_byte b (before_zero bs))) e
    ∙ with_words b (before_zero bs) ∙ ap (λ x. x && has_words (before_zero bs)) small
low_byte (b ∷ bs) (suc k) large inside low some =
    let first : 32 ≤ b = large 0 (omega arith) in
    let e : (b == 0) ≡ false = grind (arith, nat_tests, first) in
    let rest = low_byte bs k (λ j less. large (suc j) (omega (arith, less))) (omega (arith, inside)) low some in
    ap (λ (x : Bool). has_words (if x then Some [] else with_byte b (before_zero bs))) e
    ∙ with_words b (before_zero bs) ∙ ap (λ x. nat_le 32 b && x) rest ∙ both_false (nat_le 32 b)

no_prefix : (b : ℕ) → b < 32 → prefix_of b ≡ None
unfolding prefix_of
no_prefix b small =
    let left : (b == 39) ≡ false = grind (arith, nat_tests, small) in
    let right : (b == 34) ≡ false = grind (arith, nat_tests, small) in
    let center : (b == 94) ≡ false = grind (arith, nat_tests, small) in
    let repeat : (b == 92) ≡ false = grind (arith, nat_tests, small) in
    let unprinted : (b == 124) ≡ false = grind (arith, nat_tests, small) in
    rw left (rw right (rw center (rw repeat (rw unprinted refl))))

abbrev is_prefix : Option LabelPrefix → Bool
is_prefix None = false
is_prefix (Some p) = true

large_prefix : (b : ℕ) (p : LabelPrefix) (x : Bool) → prefix_of b ≡ Some p → nat_le 32 b ≡ x → nat_le 32 b ≡ true
large_prefix b p true is e = e
large_prefix b p false is e =
    let small : b < 32 = grind (arith, nat_tests, e) in
    let clash : false ≡ true = ap is_prefix (sym (no_prefix b small) ∙ is) in
    e ∙ clash

words_by : (b : ℕ) (t : List ℕ) (p : Option LabelPrefix) → prefix_of b ≡ p
    → list_all (λ b. nat_le 32 b) (label_by p b t).1 ≡ (nat_le 32 b && are_words t)
words_by b t None is = refl
words_by b t (Some p) is = sym (ap (λ x. x && are_words t) (large_prefix b p (nat_le 32 b) is refl))

-- a label's text has a byte below 32 exactly where it has one with its prefix
words_behind : (t : List ℕ) → list_all (λ b. nat_le 32 b) (label_of t).1 ≡ list_all (λ b. nat_le 32 b) t
words_behind [] = refl
words_behind (b ∷ t) = words_by b t (prefix_of b) refl

no_text : (t : List ℕ) → list_all (λ b. nat_le 32 b) t ≡ false → is_text t ≡ false
no_text t is = ap (λ x. nat_le (length t) 240 && x) is ∙ both_false (nat_le (length t) 240)

refused : (o : Option (List ℕ)) → has_words o ≡ false → (n : ℕ) (body : List ℕ)
    → (text_entry n body o ≡ Err (fault.BadText n)) × (label_state n body o ≡ Err (fault.BadText n))
refused None is n body = (refl, refl)
refused (Some t) is n body =
    let whole : is_text t ≡ false = no_text t is in
    let behind : is_text (label_of t).1 ≡ false = no_text (label_of t).1 (words_behind t ∙ is) in (
      ap (λ (x : Bool). if x then Ok (entry.Text (cell_of body) t) else Err (fault.BadText n)) whole,
      ap (λ (x : Bool). if x then Ok (entry.State (cell_of body) (labelled body (label_of t)))
          else Err (fault.BadText n)) behind,
    )

-- such a byte before the first 00 makes a text or a label faulty
pub low_refused : (bytes : List ℕ) (at : ℕ) → ((k : ℕ) → k < at → 32 ≤ get_or bytes k 0) → at < length bytes
    → get_or bytes at 0 < 32 → (get_or bytes at 0 ≡ 0 → ⊥) → (n : ℕ) (body : List ℕ)
    → (text_entry n body (before_zero bytes) ≡ Err (fault.BadText n))
    × (label_state n body (before_zero bytes) ≡ Err (fault.BadText n))
low_refused bytes at large inside low some = refused (before_zero bytes) (low_byte bytes at large inside low some)

-- so does it that there is no 00
pub endless_refused : (bytes : List ℕ) (at : ℕ) → ((k : ℕ) → k < at → 32 ≤ get_or bytes k 0) → length bytes ≤ at
    → (n : ℕ) (body : List ℕ)
    → (text_entry n body (before_zero bytes) ≡ Err (fault.BadText n))
    × (label_state n body (before_zero bytes) ≡ Err (fault.BadText n))
endless_refused bytes at large past =
    refused (before_zero bytes)
    (ap has_words (no_zero bytes at (λ k less z. (let x = large k less in absurd (omega (arith, x, z)))) past))
