use Rattle.std.proofs.Common.{arith, ap, ◌∷◌, [], length, length-append}
use Rattle.grid_address.specs.Address.{decimal}
use Rattle.cell_format.proofs.Digits.{two_digits_in}
use Rattle.cell_format.proofs.indicators.lettered.Goals as goal

pub put_all-requires-2 : goal.put_all-requires-2
put_all-requires-2 c =
    omega (
      arith,
      ap length c.put_all.ensures,
      ap length c.new-text.ensures,
      length-append c.new-text.result (40 ∷ c.args.letter ∷ []),
      ap length c.bytes.ensures.bytes,
      ap length c.decimal_text-digits.ensures,
      ap (λ n. length (decimal n)) c.from.ensures,
      two_digits_in c.args.places c.requires,
    )

pub put_all-requires-3 : goal.put_all-requires-3
put_all-requires-3 c =
    omega (
      arith,
      ap length c.put_all-2.ensures,
      length-append c.put_all.new.self c.bytes.result.now,
      ap length c.put_all.ensures,
      ap length c.new-text.ensures,
      length-append c.new-text.result (40 ∷ c.args.letter ∷ []),
      ap length c.bytes.ensures.bytes,
      ap length c.decimal_text-digits.ensures,
      ap (λ n. length (decimal n)) c.from.ensures,
      two_digits_in c.args.places c.requires,
    )
