use Rattle.std.proofs.Common.{◌≡◌, ◌-◌, ◌∙◌, ap, sym, arith, length, take, drop}
use Rattle.std.specs.Int.{from_le_bytes, w64}
use Rattle.std.proofs.lemmas.Bool.Decides.{nat_tests}
use Rattle.wk1_records.specs.Records.{IsBytes}
use Rattle.wk1_records.proofs.Ends.{same_ends}
use Rattle.wk1_records.proofs.read_codes.are_both_ends_same.Goals as goal

pub returns-then-first_long : goal.returns-then-first_long
returns-then-first_long c is =
    let a = c.args.a.now in
    let b = c.args.b.now in
    let at = length a - 8 in
    let f : IsBytes a = λ i. omega (arith, c.type_inv.a i) in
    let g : IsBytes b = λ i. omega (arith, c.type_inv.b i) in
    let same : c.first_long-then-first_long.result ≡ c.first_long-then-first_long-2.result =
    grind (arith, nat_tests, is) in
    let first : from_le_bytes w64 (take 8 a) ≡ from_le_bytes w64 (take 8 b) =
    sym c.first_long.ensures ∙ c.if-first_long.true ∙ c.first_long-2.ensures in
    let last : from_le_bytes w64 (take 8 (drop at a)) ≡ from_le_bytes w64 (take 8 (drop at b)) =
    sym
    (c.first_long-then-first_long.ensures ∙ ap (λ l. from_le_bytes w64 (take 8 l)) c.bytes_from.ensures.rest)
    ∙ same
    ∙ c.first_long-then-first_long-2.ensures
    ∙ ap (λ l. from_le_bytes w64 (take 8 l)) c.bytes_from-then-first_long.ensures.rest in
    same_ends a b at f g (omega (arith, c.requires.least)) (omega (arith, c.requires.least, c.requires.same))
    (omega (arith, c.requires.most)) first last
