use Rattle.std.proofs.Common.{arith, ◌∙◌, ◌+◌, ◌-◌}
use Rattle.std.proofs.lemmas.Slice.{drop-put_mid}
use Rattle.screen_layout.proofs.Blanks.{later_blank}
use Rattle.screen_layout.proofs.painted_line.PaintedLine.add.Goals as goal

pub invariant_of-self : goal.invariant_of-self
invariant_of-self c =
    let from = c.self.inside.len in
    let to = from + c.min-count.result in (
      omega arith,
      drop-put_mid from (to - from) c.self.inside.bytes c.copy_from_slice.new.self to (omega arith) (omega arith)
          (omega arith)
          ∙ later_blank from to c.self.inside.bytes (omega arith) (omega arith) (c.self.invariant.1),
    )
