-- What makes no call of the shelf, and what a look for a file comes to.
use Rattle.std.proofs.Common.{◌≡◌, Bool, true, false, List, [], refl, sym, subst}
use Rattle.std.specs.Prelude.{if◌then◌else◌}
use Rattle.cell_pointer.specs.declared.way.Way.{Way}
use Rattle.commands_file.specs.Calls.{failed, Asked, HaveAnswered, Reply, ShelfView}
use Rattle.commands_file.specs.Commands.{looked}
use Rattle.commands_file.specs.declared.looking.Looked.{Looked}
use Rattle.entry_line.specs.Line.{Entry}
use Rattle.formula_parts.specs.declared.look.Scene.{Scene}
use Rattle.serial_date.specs.declared.moment.Moment.{Moment}
use Rattle.session_core.specs.Carrying.{behind_calls, finished, finished_as, looked_as, looking}
use Rattle.session_core.specs.Entering.{meaning_of}
use Rattle.session_core.specs.Machine.{pointer_of, scene_at, sheet_of, Outcome, Replies, State}
use Rattle.session_core.specs.inner.Leading.{Leads, LeadsOver, Worked}
use Rattle.session_core.specs.declared.entering.Meant.{Meant}
use Rattle.session_core.specs.declared.entering.Meant.TheVariants.{Means, Faulty}
use Rattle.session_rooms.specs.declared.answers.AnsweredCommand.{AnsweredCommand}
use Rattle.commands_file.proofs.Answered.{answered_then}
use Rattle.session_core.proofs.Failing.{failed_calls}

-- where no call is made any answer serves
abbrev pub no_replies : Replies
no_replies = record { look = failed; act = failed }

-- what makes no call leaves the shelf
pub alone : (act : Replies → Scene → State → Outcome) (now : Moment) (told : Bool) (a b : Worked) (v : ShelfView) →
    Leads (act no_replies (scene_at a.state now) a.state) told a b
    → (act no_replies (scene_at a.state now) a.state).calls ≡ [] →
    LeadsOver act now told a b v v
alone act now told a b v leads none = record {
  replies = no_replies;
  leads = leads;
  answered = subst (λ (cs : List Asked). HaveAnswered cs v v) (sym none) refl;
}

-- of two outcomes that make no call, either one makes none
pub either_calls : (b : Bool) (o p : Outcome) → o.calls ≡ [] → p.calls ≡ [] → (if b then o else p).calls ≡ []
either_calls true o p one other = one
either_calls false o p one other = other

meant_calls : (m : Meant) (way : Way) (line : Entry) (scene : Scene) (s : State)
    → (finished_as m way line scene s).calls ≡ []
meant_calls (Means x) way line scene s = either_calls _ _ _ (failed_calls _ scene s) refl
meant_calls (Faulty at) way line scene s = refl

-- a line that is entered makes no call
pub finish_calls : (way : Way) (line : Entry) (scene : Scene) (s : State) → (finished way line scene s).calls ≡ []
finish_calls way line scene s = meant_calls (meaning_of line.text (sheet_of s) (pointer_of s)) way line scene s

-- what a look came to, and what followed it
pub looked_over : (command : AnsweredCommand) (now : Moment) (told : Bool) (a b : Worked) (x y z : ShelfView)
    (reply act : Reply) (came : Looked) → came ≡ (looked command.action command.answers reply).came
    → HaveAnswered (looked command.action command.answers reply).calls x y
    → Leads (looked_as came command act (scene_at a.state now) a.state) told a b
    → HaveAnswered (looked_as came command act (scene_at a.state now) a.state).calls y z
    → LeadsOver (looking command) now told a b x z
looked_over command now told a b x y z reply act came is had leads more =
    let o : Looked → Outcome = λ (k : Looked). looked_as k command act (scene_at a.state now) a.state in
    record {
      replies = record { look = reply; act = act };
      leads = subst
          (λ (k : Looked). Leads (behind_calls (looked command.action command.answers reply).calls (o k)) told a b) is
          (record { state = leads.state; work = leads.work; ends = leads.ends });
      answered = answered_then (looked command.action command.answers reply).calls
          (o (looked command.action command.answers reply).came).calls x y z had
          (subst (λ (k : Looked). HaveAnswered (o k).calls y z) is more);
    }
