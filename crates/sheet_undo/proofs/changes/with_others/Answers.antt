use Rattle.std.specs.FinMap.{insert}
use Rattle.std.specs.Prelude.{Some, ◌∷◌}
use Rattle.std.proofs.Common.{◌≡◌, ◌∙◌, ap, subst, sym}
use Rattle.sheet_undo.proofs.Between.{all_given, given_other, giving_begun, IsGiving}
use Rattle.sheet_undo.proofs.Going.{all_joined}
use Rattle.sheet_undo.specs.inner.Changes.{gone_of, AreTaken}
use Rattle.edit_log.specs.Changes.{all_changed, changed_at}
use Rattle.edit_log.proofs.Changed.{all_and}
use Rattle.sheet_undo.proofs.changes.with_others.Goals as goal

pub loop-entry-init : goal.loop-entry-init
loop-entry-init c =
    let kept = c.args.kept.now.cells in
    let next = c.args.next.now.cells in
    let taken = all_changed next (gone_of c.args.gone.items) in
    giving_begun kept next (all_changed taken c.new-others.result.items) c.entries-left.result
    (subst (AreTaken kept next) (sym (ap (all_changed taken) c.new-others.ensures.items)) c.requires)
    c.entries-left.ensures

pub of-requires : goal.of-requires
of-requires c =
    let kept = c.args.kept.now.cells in
    let next = c.args.next.now.cells in
    let now = all_changed (all_changed next (gone_of c.args.gone.items)) c.loop-entry.others.items in
    let giving : IsGiving kept next now ((c.in-Some.entry.0, c.in-Some.entry.1.now) ∷ c.next.new.self) =
    subst (IsGiving kept next now) c.in-Some.ensures.some c.loop-entry.invariant in
    c.are_held.ensures c.in-Some.entry.0 c.in_ok-copy.field-0
    (giving.told.0 ∙ ap (λ s. Some s) (sym c.in_ok-copy.ensures))

pub loop-entry-preserved-in_ok-push : goal.loop-entry-preserved-in_ok-push
loop-entry-preserved-in_ok-push c =
    let kept = c.args.kept.now.cells in
    let next = c.args.next.now.cells in
    let taken = all_changed next (gone_of c.args.gone.items) in
    let now = all_changed taken c.loop-entry.others.items in
    let is : all_changed taken c.push.new.self.items ≡ insert now c.in-Some.entry.0 c.in-Some.entry.1.now =
    ap (all_changed taken) c.in_ok-push.ensures.items ∙ all_and taken c.loop-entry.others.items c.of.result
    ∙ ap (λ e. changed_at now e.0 e.1) c.of.ensures ∙ ap (insert now c.in-Some.entry.0) c.in_ok-copy.ensures in
    given_other kept next now (all_changed taken c.push.new.self.items)
    (c.in-Some.entry.0, c.in-Some.entry.1.now) c.next.new.self is
    (subst (IsGiving kept next now) c.in-Some.ensures.some c.loop-entry.invariant)

pub returns : goal.returns
returns c =
    let kept = c.args.kept.now.cells in
    let next = c.args.next.now.cells in
    let gone = gone_of c.args.gone.items in
    let others = c.shrink_to_fit.new.self.items in
    sym (all_joined next gone others) ∙ ap (all_changed (all_changed next gone)) c.shrink_to_fit.ensures.items
    ∙ all_given kept next (all_changed (all_changed next gone) c.loop-entry.others.items) c.loop-entry.left
    c.in_default.ensures.none c.loop-entry.invariant
