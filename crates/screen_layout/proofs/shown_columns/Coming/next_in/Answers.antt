use Rattle.std.proofs.Common.{◌≡◌, ℕ, ◌+◌, ◌∷◌, ◌-◌, ◌||◌, true, false, refl, ap, sym, ◌∙◌, arith}
use Rattle.std.specs.Prelude.{nat_eq, nat_le}
use Rattle.std.proofs.lemmas.Bool.Decides.{nat_tests}
use Rattle.screen_layout.specs.inner.Coming.{behind, coming}
use Rattle.screen_layout.specs.Sheets.{width_in}
use Rattle.work_sheet.specs.Seen.{of_worksheet, Sheet}
use Rattle.screen_layout.proofs.Coming.{behind_all, behind_hidden, behind_last, behind_shown}
use Rattle.screen_layout.proofs.shown_columns.Coming.next_in.Goals as goal
use Rattle.screen_layout.proofs.shown_columns.Coming.next_in.Goals.{
  else-self-gt0-via-then-self-gt0+else-width-saturating_sub,
}
use Rattle.screen_layout.proofs.shown_columns.Coming.next_in.Goals.{else-self-gt0-via-else-self-gt0}

pub loop-col-preserved : goal.loop-col-preserved
loop-col-preserved c = record {
  same = c.loop-col.invariant.same;
  left = c.loop-col.invariant.left
      ∙ behind_hidden (of_worksheet c.args.sheet.now) c.loop-col.self.used c.loop-col.col (omega arith)
      (sym c.is_hidden.ensures ∙ c.if-is_hidden.true);
}

pub returns-then-width-saturating_sub-clause-next : goal.returns-then-width-saturating_sub-clause-next
returns-then-width-saturating_sub-clause-next c =
    let s : Sheet = of_worksheet c.args.sheet.now in
    let used : ℕ = c.loop-col.self.used in
    let width : c.width_in-width.result ≡ width_in s c.loop-col.col = c.width_in-width.ensures.width in
    let begun : nat_eq used 0 ≡ false = grind (arith, nat_tests, c.if-self-gt0.true) in
    let wide : nat_le (width_in s c.loop-col.col) (76 - used) ≡ false =
    grind (arith, nat_tests, width, c.saturating_sub.ensures, c.if-width-saturating_sub.true) in
    ap (coming s) (sym c.loop-col.invariant.same) ∙ c.loop-col.invariant.left
    ∙ behind_last s used c.loop-col.col (omega arith) (sym c.is_hidden.ensures ∙ c.if-is_hidden.false)
    (rw (begun, wide) refl)

pub returns-in-loop-col-clause-next : goal.returns-in-loop-col-clause-next
returns-in-loop-col-clause-next c =
    let s : Sheet = of_worksheet c.args.sheet.now in
    let used : ℕ = c.loop-col.self.used in
    let width : c.width_in-width.result ≡ width_in s c.loop-col.col = c.width_in-width.ensures.width in
    let fits : (nat_eq used 0 || nat_le (width_in s c.loop-col.col) (76 - used)) ≡ true =
    elim c.else-self-gt0.branch [
      | else-self-gt0-via-then-self-gt0+else-width-saturating_sub w ↦
          (let small : nat_le (width_in s c.loop-col.col) (76 - used) ≡ true =
          grind (arith, nat_tests, width, w.saturating_sub.ensures, w.if-width-saturating_sub.false) in
          let begun : nat_eq used 0 ≡ false = grind (arith, nat_tests, w.if-self-gt0.true) in rw (begun, small) refl)
      | else-self-gt0-via-else-self-gt0 w ↦
          (let none : nat_eq used 0 ≡ true = grind (arith, nat_tests, w.if-self-gt0.false) in rw none refl)
    ] in
    let next : behind s used c.loop-col.col
    ≡ record { col = c.loop-col.col; width = width_in s c.loop-col.col }
    ∷ behind s (used + width_in s c.loop-col.col) (c.loop-col.col + 1) =
    behind_shown s used c.loop-col.col (omega arith) (sym c.is_hidden.ensures ∙ c.if-is_hidden.false)
    (omega (arith, width, c.width_in-width.ensures.least)) fits in
    ap (coming s) (sym c.loop-col.invariant.same) ∙ c.loop-col.invariant.left ∙ next
    ∙ ap (λ (w : ℕ). record { col = c.loop-col.col; width = w } ∷ behind s (used + w) (c.loop-col.col + 1)) (sym width)
    ∙ ap (λ (n : ℕ). record { col = c.loop-col.col; width = c.width_in-width.result }
    ∷ behind s (used + c.width_in-width.result) (n + 1)) (sym c.from.ensures)

pub returns-clause-next : goal.returns-clause-next
returns-clause-next c =
    ap (coming (of_worksheet c.args.sheet.now)) (sym c.loop-col.invariant.same) ∙ c.loop-col.invariant.left
    ∙ behind_all (of_worksheet c.args.sheet.now) c.loop-col.self.used c.loop-col.col (omega arith)
