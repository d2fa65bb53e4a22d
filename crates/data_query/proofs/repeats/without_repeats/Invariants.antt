use Rattle.std.proofs.Common.{◌≡◌, ◌++◌, drop, map}
use Rattle.std.specs.Global.{Vec}
use Rattle.grid_address.specs.Place.{Place}
use Rattle.data_query.specs.Extraction.{same_record, without_repeats}
use Rattle.data_query.specs.inner.Keys.{all_keyed, record_values}
use Rattle.data_query.specs.declared.repeats.ValueKey.{ValueKey}
use Rattle.data_query.proofs.Records.{row_of}
use Rattle.data_query.proofs.Distinct.{to_come}
use Rattle.data_query.proofs.repeats.without_repeats.Given as goal

-- the keys are those of the records that are kept, and with them and what is to come all are there
abbrev pub invariant-loop-cell : goal.invariant-loop-cell
invariant-loop-cell g l =
    let sight = g.K.Look.sight l.look in
    record {
      keys : map (λ (k : Vec ValueKey). all_keyed k.items) l.keys.keys
          ≡ map (λ (p : Place). record_values sight l.fields p.row) l.kept;
      told : map row_of l.kept
          ++ to_come (same_record sight l.fields) (map row_of l.kept) (map row_of (drop l.cell-index l.cells))
          ≡ without_repeats (same_record sight l.fields) (map row_of l.cells);
    }
