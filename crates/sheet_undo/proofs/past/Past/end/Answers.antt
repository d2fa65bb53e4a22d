use Rattle.std.specs.Prelude.{◌≡◌, true, false}
use Rattle.std.proofs.Common.{ap, refl, slice_set, sym, subst, ◌∙◌}
use Rattle.std.proofs.lemmas.Bool.{true≢false}
use Rattle.sheet_undo.proofs.Pasts.{alike_ended, ended_kept}
use Rattle.sheet_undo.proofs.States.{put_first}
use Rattle.sheet_undo.specs.Histories.{ended, History, Tells}
use Rattle.sheet_undo.specs.inner.Keeping.{base, begun_if, earlier, history_of, sheet_with, Past}
use Rattle.sheet_undo.specs.contracts.past.Past.{the_view}
use Rattle.sheet_undo.proofs.past.Past.end.Goals as goal

pub returns-then-branch-clause-answer : goal.returns-then-branch-clause-answer
returns-then-branch-clause-answer c = λ circular stale.
    let store = c.args.store.now in
    let names = c.args.names.now in
    let settled : Past = c.settle.new.self in
    let now = sheet_with store names c.args.settings.now circular stale in
    subst (λ (h : History). Tells false h.begun now) (c.settle.ensures.history store names)
    (subst (λ b. Tells false (begun_if b (base settled store names)) now) (sym (c.settle.ensures.begun ∙ c.requires))
    ((c.in_ok-is_alike.ensures circular stale).0 c.if-branch.true))

pub returns-then-branch-clause-ok : goal.returns-then-branch-clause-ok
returns-then-branch-clause-ok c =
    let store = c.args.store.now in
    let names = c.args.names.now in
    let settled : Past = c.settle.new.self in
    let alike = (c.in_ok-is_alike.ensures false false).0 c.if-branch.true in
    ap (λ (p : Past). history_of (record p { is_begun = false }) store names)
    (c.self-then-branch.view_is ∙ c.forget.ensures)
    ∙ alike_ended settled store names (c.settle.ensures.begun ∙ c.requires) alike.grid alike.names
    ∙ ap (λ (h : History). ended false h.begun h.kept) (c.settle.ensures.history store names)

pub returns-clause-answer : goal.returns-clause-answer
returns-clause-answer c = λ circular stale.
    let store = c.args.store.now in
    let names = c.args.names.now in
    let settled : Past = c.settle.new.self in
    let now = sheet_with store names c.args.settings.now circular stale in
    subst (λ (h : History). Tells true h.begun now) (c.settle.ensures.history store names)
    (subst (λ b. Tells true (begun_if b (base settled store names)) now) (sym (c.settle.ensures.begun ∙ c.requires))
    (λ alike. true≢false (sym ((c.in_ok-is_alike.ensures circular stale).1 alike) ∙ c.if-branch.false)))

pub returns-clause-ok : goal.returns-clause-ok
returns-clause-ok c =
    let store = c.args.store.now in
    let names = c.args.names.now in
    let settled : Past = the_view c.self.inside in
    let difference = c.take_difference-difference.result in
    ap (λ (p : Past). history_of (record p { kept = slice_set p.kept 0 difference; is_begun = false }) store names)
    (c.self-2.view_is ∙ c.take_difference-difference.ensures.past)
    ∙ ended_kept settled _ store names difference _ refl
    (put_first c.beside.result difference settled.kept _ c.truncate.new.self.items _ c.in_ok-insert.ensures.items
    c.truncate.ensures.items refl)
    (c.take_difference-difference.ensures.difference store names settled.settings settled.circular settled.stale
    (λ whole is. c.in_ok-changes.ensures whole (sym (ap (λ (p : Past). p.whole) c.self.view_is) ∙ is)))
    (ap (λ (p : Past). p.is_begun) c.self.view_is ∙ c.settle.ensures.begun ∙ c.requires)
    ∙ ap (λ (p : Past). ended true (begun_if p.is_begun (base p store names)) (earlier (base p store names) p.kept))
    c.self.view_is
    ∙ ap (λ (h : History). ended true h.begun h.kept) (c.settle.ensures.history store names)
