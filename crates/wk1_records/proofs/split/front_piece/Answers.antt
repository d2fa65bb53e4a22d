use Rattle.std.proofs.Common.{◌≡◌, ◌≤◌, ◌+◌, ◌<◌, ◌∙◌, ap, sym, subst, length, take, drop, get_or, ℕ, arith}
use Rattle.wk1_formula.specs.Reading.{short_at}
use Rattle.wk1_records.specs.Records.{IsFront}
use Rattle.wk1_records.proofs.Fronts.{whole_piece}
use Rattle.wk1_records.proofs.split.front_piece.Goals as goal

pub returns-clause-some : goal.returns-clause-some
returns-clause-some c =
    let bytes = c.args.bytes.now in
    let four : 4 ≤ length bytes = omega (arith, c.if-bytes-lt4.false) in
    let size : c.from-size.result ≡ short_at 2 bytes = c.from-size.ensures ∙ c.short_at.ensures in
    let long : 4 + short_at 2 bytes ≤ length bytes = omega (arith, four, size, c.if-bytes-size.false) in
    let small : (i : ℕ) → get_or bytes i 0 < 256 = λ i. omega (arith, c.type_inv.bytes i) in
    let body : c.body_of.result.now ≡ take (short_at 2 bytes) (drop 4 bytes) =
    c.body_of.ensures ∙ ap (λ n. take n (drop 4 bytes)) size in
    subst (λ k. IsFront bytes k c.body_of.result.now) (sym c.short_at-2.ensures)
    (subst (IsFront bytes (short_at 0 bytes)) (sym body) (whole_piece bytes small four long))
