use Rattle.std.proofs.Common.{rules, arith, ap, ◌∙◌, ◌≡◌, ◌≤◌, ◌+◌, ◌-◌, ℕ, length, take}
use Rattle.std.proofs.lemmas.List.{length-replicate, length-take-le}
use Rattle.std.proofs.lemmas.Slice.{drop-put_mid}
use Rattle.screen_layout.proofs.Blanks.{blank_part, later_blank}
use Rattle.screen_layout.proofs.painted_line.PaintedLine.add_plain.Goals as goal

pub invariant_of-self : goal.invariant_of-self
invariant_of-self c =
    let from = c.self.inside.len in
    let to = from + c.from.result in
    let line = c.self.inside.bytes in
    let was : c.args.self.now ≡ take from line = search rules in
    let long : length c.args.self.now ≡ from = ap length was ∙ length-take-le from line (omega arith) in
    let within : to ≤ 80 = omega (arith, long, c.requires, c.from.ensures) in
    let part : length c.put_plain.new.cell ≡ to - from =
    c.put_plain.ensures.size ∙ ap length (blank_part from to line (omega arith) within (c.self.invariant.1))
    ∙ length-replicate {A = ℕ} (to - from) 32 in (
      within,
      drop-put_mid from (to - from) line c.put_plain.new.cell to (omega arith) (omega arith) part
          ∙ later_blank from to line (omega arith) within (c.self.invariant.1),
    )
