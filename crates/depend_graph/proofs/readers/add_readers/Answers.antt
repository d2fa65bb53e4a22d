use Rattle.std.specs.Prelude.{◌≡◌, Option}
use Rattle.std.specs.FinMap.{get}
use Rattle.std.proofs.Common.{ap, sym, inl, inr, ◌∙◌}
use Rattle.depend_graph.proofs.Kept.{get_picked}
use Rattle.depend_graph.proofs.Readable.{found}
use Rattle.depend_graph.specs.Network.{holds, reads}
use Rattle.depend_graph.specs.inner.Readers.{network_of}
use Rattle.depend_graph.specs.inner.Slots.{had, node_in, Slots}
use Rattle.depend_graph.specs.declared.node.Node.{Node}
use Rattle.depend_graph.proofs.readers.add_readers.Goals as goal

pub returns : goal.returns
returns c = λ d.
    let m : Slots = c.args.slots.now in
    let first = c.in_ok-add_listed.ensures d in
    let second = c.in_ok-add_owners.ensures d in
    let third = c.in_ok-add_owners-2.ensures d in
    let same : reads (network_of m) d c.args.cell ≡ holds (had node_in (get m d)) c.args.cell =
    ap (λ (o : Option Node). holds o c.args.cell) (get_picked node_in m d) in (
      (λ h. elim (third.0 h) [
        | inl k ↦ elim (second.0 k) [
          | inl l ↦ elim (first.0 l) [ inl old ↦ inl old | inr r ↦ inr (same ∙ r.1) ]
          | inr r ↦ inr (same ∙ r.1)
        ]
        | inr r ↦ inr (same ∙ r.1)
      ]),
      (λ h. elim h [
        | inl old ↦ third.1 (inl (second.1 (inl (first.1 (inl old)))))
        | inr r ↦ elim (found m c.args.lists.now c.args.banks.now.even c.args.banks.now.odd c.requires.registered
            c.requires.listed c.args.cell d (sym same ∙ r)) [
              | inl k ↦ third.1 (inl (second.1 (inl (first.1 (inr (k, sym same ∙ r))))))
              | inr q ↦ elim q [
                | inl k ↦ third.1 (inl (second.1 (inr (k, sym same ∙ r))))
                | inr k ↦ third.1 (inr (k, sym same ∙ r))
              ]
            ]
      ]),
    )
