use Rattle.std.proofs.Common.{ap, arith, refl, slice_set, ◌∙◌}
use Rattle.sheet_undo.proofs.Pasts.{turned}
use Rattle.sheet_undo.specs.inner.Keeping.{base, before, earlier, sheet_with, Past}
use Rattle.sheet_undo.proofs.past.Past.turn_first.Goals as goal

pub returns-clause-kept : goal.returns-clause-kept
returns-clause-kept c = λ settings circular stale.
    let store = c.args.store.now in
    let names = c.args.names.now in
    let items = c.self.inside.kept.items in
    let difference = c.in_ok-difference.difference in
    turned (sheet_with store names settings circular stale) (base c.args.self.now store names) items
    (slice_set items 0 difference)
    c.index.result.now difference (λ none. omega (arith, none, c.len.ensures, c.if-len-eq0.false)) c.index.ensures refl
    (c.in_ok-difference.ensures settings circular stale ∙ c.in_ok-first.ensures
    ∙ ap (before c.index.result.now) c.in_ok-base.ensures)
    ∙ ap (λ (p : Past). earlier (base c.args.self.now store names) p.kept) c.self.view_is
