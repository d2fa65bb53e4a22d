use Rattle.std.proofs.Common.{ap, ◌∙◌, sym}
use Rattle.sheet_run.specs.Notes.{ending_note, ending_status}
use Rattle.sheet_run.proofs.Telling.{told_as, stopped_line}
use Rattle.sheet_run.proofs.notes.tell_ending.Goals as goal

pub returns-in-BadWord : goal.returns-in-BadWord
returns-in-BadWord g c =
    told_as _ _ _ _ _ _ _ _ _ (ap (ending_note c.args.limit c.args.session.now.state c.args.moved) c.in-BadWord.is
    ∙ sym (c.bytes.ensures.bytes ∙ c.number_line-line.ensures)) (ap (ending_status c.args.moved) c.in-BadWord.is)
    c.tell_line.ensures

pub returns-in-KeysFailed : goal.returns-in-KeysFailed
returns-in-KeysFailed g c =
    told_as _ _ _ _ _ _ _ _ _ (ap (ending_note c.args.limit c.args.session.now.state c.args.moved) c.in-KeysFailed.is)
    (ap (ending_status c.args.moved) c.in-KeysFailed.is) c.tell_line-in-KeysFailed.ensures

pub returns-in-Stopped : goal.returns-in-Stopped
returns-in-Stopped g c =
    told_as _ _ _ _ _ _ _ _ _ (ap (ending_note c.args.limit c.args.session.now.state c.args.moved) c.in-Stopped.is
    ∙ stopped_line c.args.limit ∙ sym (c.bytes-in-Stopped.ensures.bytes ∙ c.number_line-line-in-Stopped.ensures))
    (ap (ending_status c.args.moved) c.in-Stopped.is) c.tell_line-in-Stopped.ensures

pub returns-in-Undone : goal.returns-in-Undone
returns-in-Undone g c =
    told_as _ _ _ _ _ _ _ _ _ (ap (ending_note c.args.limit c.args.session.now.state c.args.moved) c.in-Undone.is)
    (ap (ending_status c.args.moved) c.in-Undone.is) c.tell_undone.ensures

pub returns-in-Refused : goal.returns-in-Refused
returns-in-Refused g c =
    told_as _ _ _ _ _ _ _ _ _ (ap (ending_note c.args.limit c.args.session.now.state c.args.moved) c.in-Refused.is)
    (ap (ending_status c.args.moved) c.in-Refused.is) c.tell_refusal.ensures
