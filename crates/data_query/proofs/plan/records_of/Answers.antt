use Rattle.std.proofs.Common.{ℕ, ◌≡◌, ◌<◌, ◌+◌, ◌-◌, ◌++◌, List, map, sym, ap, ◌∙◌, arith}
use Rattle.std.specs.List.{filter}
use Rattle.grid_address.specs.Place.{Place}
use Rattle.formula_parts.specs.Scenes.{outlook_of}
use Rattle.block_writes.specs.Writing.{at}
use Rattle.record_match.specs.Criteria.{record_matches}
use Rattle.data_query.specs.inner.Plans.{is_wanted, records}
use Rattle.grid_address.proofs.Scans.{left_first, passed, put_all, put_none, put_one}
use Rattle.data_query.proofs.plan.records_of.Goals as goal
use Rattle.data_query.proofs.plan.records_of.Goals.{then-is_wanted+in_ok-push, else-is_wanted}

pub loop-place-init : goal.loop-place-init
loop-place-init g c =
    let outlook = outlook_of (g.K.Look.sight c.args.look.now) c.args.scene.now in
    let input = c.args.query.now.input in
    let criterion = c.args.query.now.criterion in
    let make = λ (row : ℕ). at row input.first.col in
    let test = λ (row : ℕ). is_wanted c.args.wanted (record_matches outlook input criterion row) in
    let n = input.first.row + 1 in
    let count = input.last.row - input.first.row in
    ap (λ (l : List Place). l ++ passed make test n count 0) c.new-cells.ensures
    ∙ ap (λ (l : List ℕ). map make (filter test l)) (left_first n count)

pub loop-place-preserved : goal.loop-place-preserved
loop-place-preserved g c =
    let outlook = outlook_of (g.K.Look.sight c.args.look.now) c.args.scene.now in
    let input = c.args.query.now.input in
    let criterion = c.args.query.now.criterion in
    let make = λ (row : ℕ). at row input.first.col in
    let test = λ (row : ℕ). is_wanted c.args.wanted (record_matches outlook input criterion row) in
    let all = map make (records outlook input criterion c.args.wanted) in
    let n = input.first.row + 1 in
    let count = input.last.row - input.first.row in
    let place = c.loop-place.place in
    let inside : place < count = omega (arith, c.loop-place-test.true, c.count_below-place-end.ensures.count) in
    let is : test (n + place) ≡ c.is_wanted.result =
    sym (c.is_wanted.ensures
    ∙ ap (is_wanted c.args.wanted)
    (c.in_ok-matches.ensures ∙ ap (record_matches outlook input criterion) c.row_below-row.ensures.row)) in
    elim c.if-is_wanted.branch [
      | then-is_wanted+in_ok-push w ↦
          put_one make test n count place c.loop-place.cells c.if-is_wanted.cells all w.cell_below.result inside
          (is ∙ w.if-is_wanted.true) w.cell_below.ensures (w.cells-is ∙ w.in_ok-push.ensures.ok) c.loop-place.invariant
      | else-is_wanted w ↦
          ap (λ (l : List Place). l ++ passed make test n count (place + 1)) w.cells-is
          ∙ put_none make test n count place c.loop-place.cells all inside (is ∙ w.if-is_wanted.false)
          c.loop-place.invariant
    ]

pub returns : goal.returns
returns g c =
    let outlook = outlook_of (g.K.Look.sight c.args.look.now) c.args.scene.now in
    let input = c.args.query.now.input in
    let criterion = c.args.query.now.criterion in
    let make = λ (row : ℕ). at row input.first.col in
    let test = λ (row : ℕ). is_wanted c.args.wanted (record_matches outlook input criterion row) in
    let all = map make (records outlook input criterion c.args.wanted) in
    let n = input.first.row + 1 in
    let count = input.last.row - input.first.row in
    put_all make test n count c.loop-place.place c.loop-place.cells all
    (omega (arith, c.loop-place-test.false, c.count_below-place-end.ensures.count)) c.loop-place.invariant
