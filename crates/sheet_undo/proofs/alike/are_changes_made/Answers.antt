use Rattle.std.specs.Prelude.{◌≡◌}
use Rattle.std.specs.FinMap.{get}
use Rattle.std.specs.List.{AllByRecursion}
use Rattle.std.proofs.Common.{arith, subst, sym, ◌∙◌}
use Rattle.std.proofs.lemmas.Bool.{false≢true, true≢false}
use Rattle.std.proofs.lemmas.List.{take_all}
use Rattle.sheet_undo.proofs.Made.{all_made, made_otherwise}
use Rattle.sheet_undo.proofs.Twins.{granted}
use Rattle.sheet_undo.proofs.alike.are_changes_made.Goals as goal

pub returns-then-not-branch : goal.returns-then-not-branch
returns-then-not-branch c = (
  λ t. absurd (false≢true t),
  λ same. absurd (made_otherwise c.args.store.now.cells c.args.changes.now c.loop-change.change-index
      c.change-item.result c.requires c.change-item.is c.loop-change-test.true
      (λ h. true≢false (sym (c.in_ok-is_as_changed.ensures.1 h) ∙ c.if-not-branch.true)) same),
)

pub returns : goal.returns
returns c = granted (all_made c.args.store.now.cells c.args.changes.now
    (subst (AllByRecursion (λ e. get c.args.store.now.cells e.0 ≡ e.1)) (take_all c.loop-change.change-index
    c.args.changes.now (omega (arith, c.loop-change-test.false))) c.loop-change.invariant))
