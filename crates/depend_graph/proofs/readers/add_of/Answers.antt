use Rattle.std.specs.Prelude.{List}
use Rattle.std.proofs.Common.{inl, inr, subst, sym}
use Rattle.grid_address.specs.Place.{Place}
use Rattle.depend_graph.proofs.Readable.{among_first, among_more, one_of}
use Rattle.depend_graph.specs.inner.Readers.{IsReaderAmong}
use Rattle.depend_graph.specs.inner.Slots.{Slots}
use Rattle.depend_graph.proofs.readers.add_of.Goals as goal

pub returns : goal.returns
returns c = λ d.
    let m : Slots = c.args.slots.now in
    let first : Place = c.args.readers.now.first in
    let more : List Place = c.args.readers.now.more.items in
    let one = c.in_ok-add_those.ensures d in
    let rest = c.in_ok-add_those-2.ensures d in (
      (λ h. elim (rest.0 h) [
        | inl k ↦ elim (one.0 k) [ inl old ↦ inl old | inr r ↦ inr (among_first m c.args.cell first more d r) ]
        | inr r ↦ inr (among_more m c.args.cell first more d
            (subst (λ (l : List Place). IsReaderAmong m c.args.cell l d) c.as_slice.ensures.value r))
      ]),
      (λ h. elim h [
        | inl old ↦ rest.1 (inl (one.1 (inl old)))
        | inr r ↦ elim (one_of m c.args.cell first more d r) [
          | inl k ↦ rest.1 (inl (one.1 (inr k)))
          | inr k ↦ rest.1 (inr
              (subst (λ (l : List Place). IsReaderAmong m c.args.cell l d) (sym c.as_slice.ensures.value) k))
        ]
      ]),
    )
