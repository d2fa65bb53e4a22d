use Rattle.std.proofs.Common.{◌≡◌, ℕ, List, subst, sym, ◌∙◌}
use Rattle.sheet_run.specs.Notes.{file_note, file_status, Tells}
use Rattle.sheet_run.specs.declared.options.Start.{Start}
use Rattle.sheet_run.specs.declared.options.Start.TheVariants.{File}
use Rattle.sheet_run.proofs.runs.tell_start.Goals as goal

-- a file has one name
one_name : (a b : List ℕ) → ◌≡◌ {A = Start} (File a) (File b) → a ≡ b
one_name a b is = cc

pub returns : goal.returns
returns g c = λ name is.
    subst (λ (n : List ℕ). Tells (file_note n c.args.why) (file_status c.args.why) (g.N.Notes.written c.args.notes.now)
    (g.N.Notes.written c.tell_unread.new.notes)
    (g.N.Notes.faults c.args.notes.now) (g.N.Notes.faults c.tell_unread.new.notes) c.tell_unread.result)
    (one_name c.in-File.name name (sym c.in-File.is ∙ is)) c.tell_unread.ensures
