use Rattle.std.proofs.Common.{◌≡◌, ℕ, ◌+◌, ◌/◌, ◌%◌, ◌≤◌, ◌<◌, List, ◌++◌, ◌∷◌, [], length, ap, sym, ◌∙◌, arith}
use Rattle.std.proofs.Common.{append_assoc, length-append}
use Rattle.grid_address.specs.Address.{decimal}
use Rattle.grid_address.proofs.Decimals.{decimal_more, decimal_one, length-decimal_more}
use Rattle.grid_address.proofs.decimal.+push_number.Goals as goal
use Rattle.grid_address.proofs.decimal.+push_number.Goals.{then-number-ge10, else-number-ge10}

pub push_number-requires : goal.push_number-requires
push_number-requires t c = (omega arith, omega (arith, c.requires, length-decimal_more c.args.number (omega arith)))

more_room : (text old : List ℕ) (n : ℕ) → text ≡ old ++ decimal (n / 10) → 10 ≤ n
    → length old + length (decimal n) ≤ 20 → length text + 1 ≤ 20
more_room text old n is more room =
    omega (arith, ap length is, length-append old (decimal (n / 10)), length-decimal_more n more)

one_room : (text old : List ℕ) (n : ℕ) → text ≡ old → n < 10 → length old + length (decimal n) ≤ 20
    → length text + 1 ≤ 20
one_room text old n is one room = omega (arith, ap length is, ap length (decimal_one n one))

pub put_all-requires : goal.put_all-requires
put_all-requires t c = elim c.if-number-ge10.branch [
  | then-number-ge10 w ↦ (
    omega arith,
    more_room _ c.args.text.now c.args.number (w.text-is ∙ w.push_number.ensures) (omega arith)
        c.requires,
  )
  | else-number-ge10 w ↦ (omega arith, one_room _ c.args.text.now c.args.number w.text-is (omega arith) c.requires)
]

last_digit : (text old new : List ℕ) (n : ℕ) → text ≡ old ++ decimal (n / 10) → 10 ≤ n
    → new ≡ text ++ (48 + n % 10) ∷ [] → new ≡ old ++ decimal n
last_digit text old new n is more pushed =
    pushed ∙ ap (λ ds. ds ++ (48 + n % 10) ∷ []) is ∙ append_assoc old (decimal (n / 10)) ((48 + n % 10) ∷ [])
    ∙ ap (λ ds. old ++ ds) (sym (decimal_more n more))

one_digit : (text old new : List ℕ) (n : ℕ) → text ≡ old → n < 10 → new ≡ text ++ (48 + n % 10) ∷ []
    → new ≡ old ++ decimal n
one_digit text old new n is one pushed =
    pushed ∙ ap (λ ds. ds ++ (48 + n % 10) ∷ []) is ∙ ap (λ ds. old ++ ds) (sym (decimal_one n one))

pub returns : goal.returns
returns t c = elim c.if-number-ge10.branch [
  | then-number-ge10 w ↦
      last_digit _ c.args.text.now _ c.args.number (w.text-is ∙ w.push_number.ensures) (omega arith) c.put_all.ensures
  | else-number-ge10 w ↦ one_digit _ c.args.text.now _ c.args.number w.text-is (omega arith) c.put_all.ensures
]
