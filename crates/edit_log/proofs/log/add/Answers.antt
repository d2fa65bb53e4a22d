use Rattle.std.specs.Prelude.{refl, take, List}
use Rattle.std.proofs.Common.{ap, subst, sym, ◌∙◌}
use Rattle.grid_address.specs.Place.{same_place, Place}
use Rattle.cell_maps.specs.Sets.{insert_key}
use Rattle.edit_log.proofs.Changed.{added}
use Rattle.edit_log.proofs.AtOnce.{all_listed, key_back}
use Rattle.edit_log.specs.Changes.{cells_of}
use Rattle.edit_log.specs.inner.Runs.{AreListed}
use Rattle.edit_log.proofs.log.add.Goals as goal
use Rattle.edit_log.proofs.log.add.Goals.{in-Ok, in-Err}

pub returns-in_err-insert-clause-listed : goal.returns-in_err-insert-clause-listed
returns-in_err-insert-clause-listed c = subst (λ (ks : List Place). AreListed ks c.args.changes.now.items)
    (sym c.in_err-insert.ensures.err) (all_listed c.args.cells.now.keys c.args.changes.now.items c.requires.listed
    c.len-count.ensures.unique)

pub returns-clause-listed : goal.returns-clause-listed
returns-clause-listed c = elim c.match-push.branch [
  | in-Ok w ↦ subst (λ (ks : List Place). AreListed ks c.push.new.self.items) (sym (ap (λ s. s.keys) w.cells-is))
      (all_listed c.insert.new.self.keys c.push.new.self.items
      (c.in_ok-insert.ensures.ok ∙ added c.args.cells.now.keys c.args.changes.now.items c.args.changes.now.items
      c.cell.result c.args.change c.requires.listed refl c.requires.fresh c.cell.ensures
      ∙ ap cells_of (sym w.in-Ok.ensures.items)) w.len.ensures.unique)
  | in-Err w ↦ subst (λ (ks : List Place). AreListed ks c.push.new.self.items) (sym (ap (λ s. s.keys) w.cells-is
      ∙ w.truncate.ensures ∙ ap (λ n. take n c.insert.new.self.keys) c.len-count.ensures.len
      ∙ ap (take _) c.in_ok-insert.ensures.ok ∙ key_back c.args.cells.now.keys c.cell.result))
      (all_listed c.args.cells.now.keys c.push.new.self.items
      (c.requires.listed ∙ ap cells_of (sym w.in-Err.ensures.items)) c.len-count.ensures.unique)
]
