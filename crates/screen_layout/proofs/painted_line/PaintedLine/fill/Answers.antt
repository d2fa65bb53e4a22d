use Rattle.std.proofs.Common.{rules, arith, ap, sym, ◌∙◌, ◌≡◌, ◌++◌, ◌-◌, ℕ, List, take, length, replicate}
use Rattle.std.proofs.lemmas.List.{length-take-le}
use Rattle.screen_layout.proofs.Blanks.{later_blank, longer_by_blanks}
use Rattle.screen_layout.proofs.painted_line.PaintedLine.fill.Goals as goal

pub invariant_of-self : goal.invariant_of-self
invariant_of-self c = (
  omega arith,
  later_blank c.self.inside.len c.args.column c.self.inside.bytes (omega arith) (omega arith)
      (c.self.invariant.1),
)

pub returns-then-self-column : goal.returns-then-self-column
returns-then-self-column c =
    let from = c.self.inside.len in
    let line = c.self.inside.bytes in
    let was : c.args.self.now ≡ take from line = search rules in
    let long : length c.args.self.now ≡ from = ap length was ∙ length-take-le from line (omega arith) in
    longer_by_blanks from c.args.column line (omega arith) (omega arith) (c.self.invariant.1)
    ∙ ap (λ (l : List ℕ). l ++ replicate (c.args.column - from) 32) (sym was)
    ∙ ap (λ n. c.args.self.now ++ replicate (c.args.column - n) 32) (sym long)
