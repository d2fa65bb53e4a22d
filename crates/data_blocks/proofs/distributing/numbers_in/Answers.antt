use Rattle.std.proofs.Common.{◌<◌, ◌≡◌, List, length, Some, sym, ap, ◌∙◌, subst, arith}
use Rattle.std.specs.Prelude.{slice_get}
use Rattle.grid_address.specs.Place.{Place}
use Rattle.formula_tree.specs.Seen.{seen_value}
use Rattle.data_blocks.proofs.Shares.{gathered}
use Rattle.data_blocks.proofs.distributing.numbers_in.Goals as goal
use Rattle.data_blocks.proofs.distributing.numbers_in.Goals.{in-Some+in_ok-put_number, in_default}

pub loop-place-preserved : goal.loop-place-preserved
loop-place-preserved g c =
    let values = (g.K.Look.sight c.args.look.now).values in
    let inside = c.cells.inside.items.items in
    let at = c.loop-place.place in
    elim c.match-get.branch [
      | in-Some+in_ok-put_number w ↦ (
          let there =
          subst (λ (l : List Place). (at < length l) × (slice_get l at ≡ Some w.in-Some.cell.now))
          (sym c.cells.view_is) w.in-Some.ensures.some in
          gathered c.loop-place.numbers.items c.match-get.numbers.items values inside at w.in-Some.cell.now
          (seen_value w.value.result) c.loop-place.invariant
          (ap (λ v. v.items) w.numbers-is ∙ w.in_ok-put_number.ensures) w.value.ensures there)
      | in_default w ↦
          absurd (omega (arith, c.loop-place-test.true, c.len-place-end.ensures, w.in_default.ensures.none))
    ]
