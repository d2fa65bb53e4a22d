use Rattle.sheet_edits.proofs.Overlaid.{put_whole}
use Rattle.sheet_edits.proofs.many.change_cells.Goals as goal

pub put_all-requires-clause-sound : goal.put_all-requires-clause-sound
put_all-requires-clause-sound c = λ x s e. c.requires.sound x s (c.in_ok-grow.ensures.put.among x s e)

pub returns-clause-ok : goal.returns-clause-ok
returns-clause-ok c = put_whole c.args.cells.now c.args.changes c.grow.new.changes c.args.store.now c.grow.new.store
    c.put_all.new.store c.requires.given c.in_ok-grow.ensures.put
    (record { cells = c.put_all.ensures.cells; widths = c.put_all.ensures.widths; hidden = c.put_all.ensures.hidden })
