use Rattle.std.proofs.Common.{◌≡◌, ap, false, map, sym, ◌∙◌, Err}
use Rattle.std.specs.Result.{is_err}
use Rattle.std.proofs.lemmas.Result.{err_from_is_err_and}
use Rattle.sheet_run.specs.inner.Opened.{without_room, without_session}
use Rattle.sheet_run.proofs.Opened.{loaded_so, not_begun, opened_is, same_displays, when_err, when_ok}
use Rattle.sheet_run.proofs.opening.open_session.Goals as goal

pub returns-then-is_err-clause-opened : goal.returns-then-is_err-clause-opened
returns-then-is_err-clause-opened g c bytes faults =
    let failed = sym c.is_err.ensures.value ∙ c.if-is_err.true in
    let same = when_err c.prepare-prepared.result _ failed c.prepare-prepared.ensures.same in
    without_room (same_displays _ _ _ _ _ _ _ _ (ap (map _) same) (ap (map _) c.prepare-prepared.ensures.failed))

pub returns-in_err-desk-clause-opened : goal.returns-in_err-desk-clause-opened
returns-in_err-desk-clause-opened g c bytes faults =
    let fine : is_err c.prepare-prepared.result ≡ false = sym c.is_err.ensures.value ∙ c.if-is_err.false in
    let left = err_from_is_err_and c.from_residual.result c.from_residual.ensures.1 in
    rw (left.1 ∙ ap Err left.2) (not_begun c.args.options.now c.kind.result c.in_err-desk.field-0.0 bytes faults
    _ _ _ _ _ _ _ c.kind.ensures (when_ok c.prepare-prepared.result _ fine c.prepare-prepared.ensures.kept)
    (ap (map _) c.prepare-prepared.ensures.failed) c.in_err-desk.ensures)

-- the desk's sheet keeps no states
pub load-requires : goal.load-requires
load-requires g c = c.in_ok-desk.ensures.none_kept

pub returns-in-Ok-clause-opened : goal.returns-in-Ok-clause-opened
returns-in-Ok-clause-opened g c bytes faults =
    let fine : is_err c.prepare-prepared.result ≡ false = sym c.is_err.ensures.value ∙ c.if-is_err.false in
    let begun = c.in_ok-desk.ensures in
    let read = c.in-Ok.ensures in
    record {
      start = begun.start;
      first = read.0;
      opened = opened_is c.args.options.now c.kind.result begun.start read.0 bytes faults _ _ _ _ _ _ _ _
          c.kind.ensures (when_ok c.prepare-prepared.result _ fine c.prepare-prepared.ensures.kept)
          (ap (map _) c.prepare-prepared.ensures.failed) begun.named begun.answered read.1;
      begins = loaded_so _ c.in_ok-desk.desk _ _ begun c.in-Ok.session read.0 read.2;
      fresh = read.2.follows.spent;
    }

pub returns-in-Ok-clause-room : goal.returns-in-Ok-clause-room
returns-in-Ok-clause-room g c =
    when_ok c.prepare-prepared.result _ (sym c.is_err.ensures.value ∙ c.if-is_err.false)
    c.prepare-prepared.ensures.room

pub returns-in-Err-clause-opened : goal.returns-in-Err-clause-opened
returns-in-Err-clause-opened g c bytes faults =
    let fine : is_err c.prepare-prepared.result ≡ false = sym c.is_err.ensures.value ∙ c.if-is_err.false in
    let begun = c.in_ok-desk.ensures in
    let read = c.in-Err.ensures in
    without_session begun.start read.0 (opened_is c.args.options.now c.kind.result begun.start read.0 bytes faults
    _ _ _ _ _ _ _ _ c.kind.ensures (when_ok c.prepare-prepared.result _ fine c.prepare-prepared.ensures.kept)
    (ap (map _) c.prepare-prepared.ensures.failed) begun.named begun.answered read.1)
