use Rattle.std.specs.Prelude.{◌≡◌, ◌⊎◌, None}
use Rattle.std.specs.FinMap.{get}
use Rattle.std.proofs.Common.{ap, subst, sym, ◌∙◌}
use Rattle.depend_graph.specs.Network.{Network}
use Rattle.sheet_edits.proofs.Overlaid.{settled_beside, settled_here, settled_offer, settled_offers}
use Rattle.sheet_edits.specs.inner.Settling.{settled}
use Rattle.sheet_edits.proofs.many.settle_at.Goals as goal

pub returns-clause-here : goal.returns-clause-here
returns-clause-here c =
    ap (λ (n : Network). get n.formulas c.args.cell)
    (c.settle.ensures.graph ∙ ap (λ b. settled b c.args.graph.now c.args.cell) c.holds_formula-holds_formula.ensures)
    ∙ settled_here c.args.graph.now c.args.store.now c.args.cell
    (record { offer = c.requires.offer; some = c.requires.some })

pub returns-clause-offer : goal.returns-clause-offer
returns-clause-offer c = subst (λ (n : Network). (get n.offers c.args.cell ≡ None)
    ⊎ (get n.offers c.args.cell ≡ get c.args.graph.now.offers c.args.cell)) (sym c.settle.ensures.graph)
    (settled_offer c.args.graph.now c.args.cell c.holds_formula-holds_formula.result)

pub returns-clause-formulas : goal.returns-clause-formulas
returns-clause-formulas c = λ x f. ap (λ (n : Network). get n.formulas x) c.settle.ensures.graph
    ∙ settled_beside c.args.graph.now c.args.cell x f c.holds_formula-holds_formula.result

pub returns-clause-offers : goal.returns-clause-offers
returns-clause-offers c = λ x f. ap (λ (n : Network). get n.offers x) c.settle.ensures.graph
    ∙ settled_offers c.args.graph.now c.args.cell x f c.holds_formula-holds_formula.result
