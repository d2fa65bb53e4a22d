use Rattle.std.proofs.Common.{length, map, sym, inr, arith}
use Rattle.std.proofs.lemmas.List.{length-map}
use Rattle.data_query.proofs.Extracted.{enough, too_many}
use Rattle.data_query.proofs.Records.{row_of}
use Rattle.data_query.proofs.extracting.rows_extracted.Goals as goal

pub returns-then-count-room-clause-fault : goal.returns-then-count-room-clause-fault
returns-then-count-room-clause-fault g c =
    let cells = c.args.cells.now in
    inr (too_many (g.K.Look.sight c.args.look.now) c.args.output c.args.fields.now (map row_of cells) (length cells)
    (omega (arith, c.if-count-room.true, c.from-room.ensures, c.room_of.ensures.room, length-map cells row_of))
    (sym (length-map cells row_of)))

pub returns-in-Ok-clause-found : goal.returns-in-Ok-clause-found
returns-in-Ok-clause-found g c =
    let cells = c.args.cells.now in
    enough (g.K.Look.sight c.args.look.now) c.args.output c.args.fields.now (map row_of cells) c.in-Ok.writes
    (omega (arith, c.if-count-room.false, c.from-room.ensures, c.room_of.ensures.room, length-map cells row_of))
    c.in-Ok.ensures
