use Rattle.std.proofs.Common.{◌≡◌, ℕ, [], ◌∷◌, ◌++◌, ◌+◌, ◌-◌, ap, map, sym, ◌∙◌, arith}
use Rattle.grid_address.specs.Place.{Place}
use Rattle.block_writes.specs.Writing.{at, numbers_from}
use Rattle.block_writes.proofs.Rows.{made_more}
use Rattle.sheet_store.specs.declared.writes.Write.{Write}
use Rattle.data_blocks.specs.Benches.{values_on}
use Rattle.data_blocks.specs.Tables.{answer_written, columns_behind, Answer}
use Rattle.data_blocks.proofs.Scenarios.{fused}
use Rattle.data_blocks.proofs.one_input.push_row.Goals as goal

pub loop-place-preserved : goal.loop-place-preserved
loop-place-preserved g c =
    let values = values_on (g.B.Bench.shows c.args.bench.now) in
    let s = c.args.span in
    let row = c.args.row in
    let now = c.loop-place.writes in
    let f : ℕ → Write = λ (col : ℕ). answer_written values (record { from = at s.first.row col; to = at row col }) in
    let col : ℕ = s.first.col + 1 + c.loop-place.place in (
      made_more f c.args.writes.now now c.push_answer.new.writes (s.first.col + 1) c.loop-place.place
          c.loop-place.invariant.0
          (c.in_ok-push_answer.ensures
          ∙ ap (λ (p : Place). now ++ answer_written values (record { from = p; to = at row c.from.inside.col }) ∷ [])
          c.cell_across-from.ensures
          ∙ ap (λ (k : ℕ). now ++ answer_written values (record { from = at s.first.row col; to = at row k }) ∷ [])
          (ap (λ (p : Place). p.col) (c.from.view_is ∙ c.cell_across-from.ensures))),
      c.loop-place.invariant.1,
    )

pub returns : goal.returns
returns g c =
    let values = values_on (g.B.Bench.shows c.args.bench.now) in
    let s = c.args.span in
    let row = c.args.row in
    let before = c.args.writes.now in
    let f : ℕ → Write = λ (col : ℕ). answer_written values (record { from = at s.first.row col; to = at row col }) in
    let h : ℕ → Answer = λ (col : ℕ). record { from = at s.first.row col; to = at row col } in
    let ends : c.loop-place.place ≡ s.last.col - s.first.col =
    omega (arith, c.loop-place-test.false, c.loop-place.auto.place-end, c.loop-place.invariant.1) in
    c.loop-place.invariant.0 ∙ ap (λ (k : ℕ). before ++ map f (numbers_from (s.first.col + 1) k)) ends
    ∙ ap (λ l. before ++ l) (sym (fused (answer_written values) h (columns_behind s)))
