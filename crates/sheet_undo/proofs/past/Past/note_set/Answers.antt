use Rattle.std.proofs.Common.{rules, ap, ◌∙◌}
use Rattle.cell_maps.specs.Sets.{has}
use Rattle.edit_log.specs.Changes.{all_changed}
use Rattle.grid_address.specs.Place.{same_place}
use Rattle.sheet_undo.proofs.Pasts.{noted_free, noted_same}
use Rattle.sheet_undo.specs.inner.Keeping.{history_of, Past}
use Rattle.sheet_undo.proofs.past.Past.note_set.Goals as goal

pub returns-clause-free : goal.returns-clause-free
returns-clause-free c = λ g n same.
    ap (λ (p : Past). history_of (record p { log = c.note_set.new.self }) g n) c.self.view_is
    ∙ noted_free c.args.self.now c.note_set.new.self (has same_place c.args.set.now.keys) c.args.store.now g n
    (search rules)
    (c.note_set.ensures.before ∙ ap (λ (p : Past). all_changed c.args.store.now.cells p.log) c.self.view_is)
    c.in_ok-note_set.ensures.noted same

pub returns-clause-same : goal.returns-clause-same
returns-clause-same c = λ n.
    ap (λ (p : Past). history_of (record p { log = c.note_set.new.self }) c.args.store.now n) c.self.view_is
    ∙ noted_same c.args.self.now c.note_set.new.self c.args.store.now n (search rules)
    (c.note_set.ensures.before ∙ ap (λ (p : Past). all_changed c.args.store.now.cells p.log) c.self.view_is)
