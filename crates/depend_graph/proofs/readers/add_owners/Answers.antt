use Rattle.std.specs.Prelude.{◌≡◌, List, []}
use Rattle.std.specs.FinMap.{empty, entries, len-empty, len-entries}
use Rattle.std.proofs.Common.{ap, inl, inr, sym, ◌∙◌}
use Rattle.std.proofs.lemmas.Bool.{false≢true}
use Rattle.std.proofs.lemmas.List.{nil_from_length}
use Rattle.cell_maps.specs.Sets.{has}
use Rattle.grid_address.specs.Place.{place_cmp, same_place, Extent, Place}
use Rattle.range_index.specs.Owners.{owners_among, owners_of, Owners}
use Rattle.depend_graph.proofs.readers.add_owners.Goals as goal

-- an empty index
abbrev nothing : Owners
nothing = empty

-- has no entry
no_entry : entries nothing ≡ []
no_entry = nil_from_length (entries nothing) (sym (len-entries nothing) ∙ len-empty place_cmp (List Extent))

pub returns-then-is_empty : goal.returns-then-is_empty
returns-then-is_empty c = λ d.
    (let is : c.args.index.now ≡ nothing = c.is_empty.ensures c.if-is_empty.true in
    let none : owners_of c.args.index.now c.args.cell ≡ [] = ap (λ (m : Owners). owners_of m c.args.cell) is
    ∙ ap (owners_among c.args.cell) no_entry in (
      (λ h. inl h),
      (λ h. elim h [
        | inl k ↦ k
        | inr r ↦ absurd (false≢true (ap (λ l. has same_place l d) (sym none) ∙ r.0))
      ]),
    ))
