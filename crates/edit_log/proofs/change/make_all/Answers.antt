use Rattle.std.specs.FinMap.{get}
use Rattle.std.specs.Prelude.{◌≡◌, ◌+◌, ◌∷◌, List, Option}
use Rattle.std.proofs.Common.{ap, drop, sym, ◌∙◌}
use Rattle.std.proofs.lemmas.List.{drop_more}
use Rattle.edit_log.proofs.Changed.{again, beside_more}
use Rattle.edit_log.specs.Changes.{with_changes}
use Rattle.grid_address.specs.Place.{Place}
use Rattle.sheet_store.specs.Grid.{Grid}
use Rattle.sheet_store.specs.State.{CellState}
use Rattle.edit_log.proofs.change.make_all.Goals as goal

pub returns-in_err-make-clause-again : goal.returns-in_err-make-clause-again
returns-in_err-make-clause-again c =
    ap (λ (g : Grid). with_changes g c.args.changes.now) c.in_err-make.ensures.err
    ∙ again c.args.store.now c.loop-change.store c.args.changes.now c.loop-change.invariant.beside
    c.loop-change.invariant.widths c.loop-change.invariant.hidden

pub loop-change-preserved : goal.loop-change-preserved
loop-change-preserved c =
    let changes : List (Place × Option CellState) = c.args.changes.now in
    let at = c.loop-change.change-index in
    let left : drop at changes ≡ c.change-item.result ∷ drop (at + 1) changes =
    drop_more changes at c.change-item.result c.loop-change-test.true
    ∙ ap (λ (x : Place × Option CellState). x ∷ drop (at + 1) changes) (sym c.change-item.is) in
    record {
      rest = ap (λ (g : Grid). with_changes g (drop (at + 1) changes)) c.in_ok-make.ensures.ok
          ∙ ap (λ (es : List (Place × Option CellState)). with_changes c.loop-change.store es) (sym left)
          ∙ c.loop-change.invariant.rest;
      beside = λ q f. ap (λ (g : Grid). get g.cells q) c.in_ok-make.ensures.ok
          ∙ beside_more c.args.store.now.cells c.loop-change.store.cells c.args.changes.now c.loop-change.change-index
          c.change-item.result c.change-item.is c.loop-change-test.true c.loop-change.invariant.beside q f;
      widths = ap (λ (g : Grid). g.widths) c.in_ok-make.ensures.ok ∙ c.loop-change.invariant.widths;
      hidden = ap (λ (g : Grid). g.hidden) c.in_ok-make.ensures.ok ∙ c.loop-change.invariant.hidden;
    }

pub returns-clause-again : goal.returns-clause-again
returns-clause-again c =
    again c.args.store.now c.loop-change.store c.args.changes.now c.loop-change.invariant.beside
    c.loop-change.invariant.widths c.loop-change.invariant.hidden
