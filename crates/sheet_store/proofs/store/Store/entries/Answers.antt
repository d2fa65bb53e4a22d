use Rattle.std.proofs.Common.{Some}
use Rattle.std.specs.FinMap.{entries}
use Rattle.sheet_store.specs.inner.Scan.{left_from}
use Rattle.sheet_store.proofs.Behind.{all_from_first}
use Rattle.sheet_store.proofs.HeldOrder.{either_way}
use Rattle.sheet_store.proofs.store.Store.entries.Goals as goal

pub returns : goal.returns
returns c =
    let m = c.args.self.now.cells in
    either_way c.is_in_order-is_run.result c.held-held.result.now m
    (left_from (Some (record { row = 0; col = 0 })) (entries m)) c.held-held.ensures c.is_in_order-is_run.ensures
    (all_from_first m c.are_held.ensures)
