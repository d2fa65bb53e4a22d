use Rattle.std.specs.Prelude.{◌≡◌, Option}
use Rattle.std.specs.FinMap.{get}
use Rattle.std.proofs.Common.{ap, sym, inl, inr, ◌∙◌}
use Rattle.std.proofs.lemmas.Bool.{cases_Bool, false≢true}
use Rattle.cell_maps.specs.Sets.{has}
use Rattle.grid_address.specs.Place.{same_place}
use Rattle.depend_graph.proofs.Kept.{get_picked}
use Rattle.depend_graph.proofs.Readable.{found, none_reads}
use Rattle.depend_graph.specs.Network.{holds, reads}
use Rattle.depend_graph.specs.inner.Lists.{list_at}
use Rattle.depend_graph.specs.inner.Readers.{network_of}
use Rattle.depend_graph.specs.inner.Slots.{had, node_in, Slots}
use Rattle.depend_graph.specs.declared.node.Node.{Node}
use Rattle.depend_graph.proofs.readers.is_unread.Goals as goal

pub returns-then-is_unowned : goal.returns-then-is_unowned
returns-then-is_unowned c = λ t d.
    let m : Slots = c.args.slots.now in
    let same : reads (network_of m) d c.args.cell ≡ holds (had node_in (get m d)) c.args.cell =
    ap (λ (o : Option Node). holds o c.args.cell) (get_picked node_in m d) in
    elim (cases_Bool (holds (had node_in (get m d)) c.args.cell)) [
      | inl k ↦ elim (found m c.args.lists.now c.args.banks.now.even c.args.banks.now.odd c.requires.registered
          c.requires.listed c.args.cell d k) [
            | inl l ↦ absurd (none_reads m c.args.cell (list_at c.args.lists.now c.args.cell)
                (sym c.any_listed.ensures ∙ c.if-any_listed.false) d l k)
            | inr q ↦ elim q [
              | inl o ↦
                  absurd (false≢true
                  (ap (λ l. has same_place l d) (sym (c.is_unowned.ensures c.if-is_unowned.true)) ∙ o))
              | inr o ↦
                  absurd (false≢true (ap (λ l. has same_place l d) (sym (c.is_unowned-then-is_unowned.ensures t)) ∙ o))
            ]
          ]
      | inr f ↦ same ∙ f
    ]
