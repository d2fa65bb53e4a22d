use Rattle.std.proofs.Common.{◌≡◌, ◌+◌, ◌++◌, ◌∷◌, List, drop, map, sym, ap, ◌∙◌, arith}
use Rattle.std.specs.Global.{Vec}
use Rattle.std.proofs.lemmas.List.{drop_all, drop_more}
use Rattle.grid_address.specs.Place.{Place}
use Rattle.data_query.specs.Extraction.{same_record, without_repeats}
use Rattle.data_query.specs.inner.Keys.{all_keyed, record_values}
use Rattle.data_query.specs.declared.repeats.ValueKey.{ValueKey}
use Rattle.data_query.proofs.Records.{row_of}
use Rattle.data_query.proofs.Distinct.{alike, at_end, at_start, looked_at, to_come}
use Rattle.data_query.proofs.repeats.without_repeats.Goals as goal

pub loop-cell-init : goal.loop-cell-init
loop-cell-init g c =
    let sight = g.K.Look.sight c.args.look.now in
    let fields = c.args.fields.now in
    let same = same_record sight fields in
    record {
      keys =
          ap (map (λ (k : Vec ValueKey). all_keyed k.items)) c.new-keys.ensures.empty
          ∙ sym (ap (map (λ (p : Place). record_values sight fields p.row)) c.new-kept.ensures);
      told =
          ap (λ (l : List Place). map row_of l ++ to_come same (map row_of l) (map row_of c.args.cells.now))
          c.new-kept.ensures ∙ at_start same (map row_of c.args.cells.now);
    }

pub keep-requires : goal.keep-requires
keep-requires g c = c.loop-cell.invariant.keys

pub loop-cell-preserved : goal.loop-cell-preserved
loop-cell-preserved g c =
    let sight = g.K.Look.sight c.args.look.now in
    let fields = c.args.fields.now in
    let same = same_record sight fields in
    let cells = c.args.cells.now in
    let i = c.loop-cell.cell-index in
    let cell = c.cell-item.result in
    let kept = map row_of c.loop-cell.kept in
    let next : drop i cells ≡ cell ∷ drop (i + 1) cells =
    drop_more cells i cell c.loop-cell-test.true ∙ ap (λ (p : Place). p ∷ drop (i + 1) cells) (sym c.cell-item.is) in
    record {
      keys = c.in_ok-keep.ensures.keys;
      told =
          looked_at same (alike sight fields) c.loop-cell.kept c.keep.new.kept cell (map row_of (drop (i + 1) cells))
          (without_repeats same (map row_of cells))
          c.in_ok-keep.ensures.records
          (ap (λ (l : List Place). kept ++ to_come same kept (map row_of l)) (sym next) ∙ c.loop-cell.invariant.told);
    }

pub returns : goal.returns
returns g c =
    let same = same_record (g.K.Look.sight c.args.look.now) c.args.fields.now in
    let cells = c.args.cells.now in
    let kept = map row_of c.loop-cell.kept in
    at_end same kept (without_repeats same (map row_of cells))
    (ap (λ (l : List Place). kept ++ to_come same kept (map row_of l))
    (sym (drop_all c.loop-cell.cell-index cells (omega (arith, c.loop-cell-test.false)))) ∙ c.loop-cell.invariant.told)
