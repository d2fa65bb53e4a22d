use Rattle.std.specs.FinMap.{get}
use Rattle.std.proofs.Common.{ap, sym, ◌∙◌}
use Rattle.depend_graph.specs.Network.{Network}
use Rattle.sheet_edits.proofs.Reaching.{offer_beside, offer_gone, offer_there, withdrawal_beside}
use Rattle.sheet_edits.proofs.edit.offer.Goals as goal

pub returns-in_ok-offer-in-Some-clause-offer : goal.returns-in_ok-offer-in-Some-clause-offer
returns-in_ok-offer-in-Some-clause-offer c = ap (λ (n : Network). get n.offers c.args.cell)
    c.in_ok-offer-in-Some.ensures.ok ∙ offer_there c.args.graph.now c.args.cell c.in-Some.node ∙ sym c.in-Some.is

pub returns-in-None-clause-offer : goal.returns-in-None-clause-offer
returns-in-None-clause-offer c = ap (λ (n : Network). get n.offers c.args.cell) c.withdraw.ensures
    ∙ offer_gone c.args.graph.now c.args.cell ∙ sym c.in-None.is

pub returns-in_ok-offer-in-Some-clause-others : goal.returns-in_ok-offer-in-Some-clause-others
returns-in_ok-offer-in-Some-clause-others c = λ x h. ap (λ (n : Network). get n.offers x)
    c.in_ok-offer-in-Some.ensures.ok ∙ offer_beside c.args.graph.now c.args.cell c.in-Some.node x h

pub returns-in_err-offer-in-Some-clause-others : goal.returns-in_err-offer-in-Some-clause-others
returns-in_err-offer-in-Some-clause-others c = λ x h. ap (λ (n : Network). get n.offers x)
    c.in_err-offer-in-Some.ensures.err ∙ withdrawal_beside c.args.graph.now c.args.cell x h

pub returns-in-None-clause-others : goal.returns-in-None-clause-others
returns-in-None-clause-others c = λ x h. ap (λ (n : Network). get n.offers x) c.withdraw.ensures
    ∙ withdrawal_beside c.args.graph.now c.args.cell x h
