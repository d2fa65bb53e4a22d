use Rattle.std.proofs.Common.{ap, sym, true, ◌∙◌}
use Rattle.sheet_undo.proofs.Pasts.{even_forgotten, even_same, state_begun}
use Rattle.sheet_undo.specs.inner.Keeping.{earlier, history_of, sheet_with, with_nothing, Past}
use Rattle.sheet_undo.proofs.past.Past.begin.Goals as goal
use Rattle.sheet_undo.proofs.past.Past.begin.Goals.{then-not-is_even+in_ok-turn_first, else-not-is_even}

pub returns-clause-ok : goal.returns-clause-ok
returns-clause-ok c =
    let old = c.args.self.now in
    let store = c.args.store.now in
    let names = c.args.names.now in
    let settings = c.args.settings.now in
    let sheet = sheet_with store names settings c.args.circular c.args.stale in
    ap (λ (p : Past). history_of
    (record p { is_begun = true; settings = settings; circular = c.args.circular; stale = c.args.stale }) store names)
    c.self-2.view_is
    ∙ elim c.if-not-is_even.branch [
      | then-not-is_even+in_ok-turn_first w ↦
          state_begun old c.if-not-is_even.self store names settings c.args.circular c.args.stale
          (even_forgotten w.turn_first.new.self c.if-not-is_even.self (w.self-is ∙ w.forget.ensures))
          (ap (λ (p : Past). earlier sheet p.kept) (w.self-is ∙ w.forget.ensures)
          ∙ w.in_ok-turn_first.ensures.kept settings c.args.circular c.args.stale)
      | else-not-is_even w ↦
          state_begun old c.if-not-is_even.self store names settings c.args.circular c.args.stale
          (w.self-is ∙ c.is_even.ensures w.if-not-is_even.false ∙ ap (λ (p : Past). with_nothing p) (sym w.self-is))
          (ap (λ (p : Past). earlier sheet p.kept) w.self-is
          ∙ even_same old store names settings c.args.circular c.args.stale (c.is_even.ensures w.if-not-is_even.false))
    ]
