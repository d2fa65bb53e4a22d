use Rattle.std.proofs.Common.{◌∷◌, sym, ap, ◌∙◌, None, Some, inl, inr}
use Rattle.std.specs.VecDeque.Iter.{deque_iter_rest}
use Rattle.outside_world.specs.Journal.{files_of}
use Rattle.outside_world.specs.Shelf.{file_in}
use Rattle.outside_world.specs.declared.map_shelf.Entry.{Entry}
use Rattle.outside_world.proofs.Found.{found, passed, none_left}
use Rattle.outside_world.proofs.map_shelf.held.Goals as goal

pub returns-then-is_same : goal.returns-then-is_same
returns-then-is_same c =
    sym (c.loop-entry.invariant
    ∙ ap (λ l. file_in c.args.name.now (files_of l))
    (c.in-Some.ensures.steps ∙ ap (λ (e : Entry). e ∷ deque_iter_rest c.next.new.self) c.in-Removed.is)
    ∙ found None c.in-Removed.other c.args.name.now (files_of (deque_iter_rest c.next.new.self))
    (sym c.is_same.ensures ∙ c.if-is_same.true))

pub loop-entry-preserved-in-Removed-1 : goal.loop-entry-preserved-in-Removed-1
loop-entry-preserved-in-Removed-1 c =
    c.loop-entry.invariant ∙ ap (λ l. file_in c.args.name.now (files_of l))
    (c.in-Some.ensures.steps ∙ ap (λ (e : Entry). e ∷ deque_iter_rest c.next.new.self) c.in-Removed.is)
    ∙ passed None c.in-Removed.other c.args.name.now (files_of (deque_iter_rest c.next.new.self))
    (sym c.is_same.ensures ∙ c.if-is_same.false)

pub returns-then-is_same-2 : goal.returns-then-is_same-2
returns-then-is_same-2 c =
    let same =
    found (Some c.in-Added.bytes) c.in-Added.other c.args.name.now (files_of (deque_iter_rest c.next.new.self))
    (sym c.is_same-in-Added.ensures ∙ c.if-is_same-2.true) in
    elim c.in-Added.is [
      | inl e ↦
          sym (c.loop-entry.invariant
          ∙ ap (λ l. file_in c.args.name.now (files_of l))
          (c.in-Some.ensures.steps ∙ ap (λ (e : Entry). e ∷ deque_iter_rest c.next.new.self) e) ∙ same)
      | inr e ↦
          sym (c.loop-entry.invariant
          ∙ ap (λ l. file_in c.args.name.now (files_of l))
          (c.in-Some.ensures.steps ∙ ap (λ (e : Entry). e ∷ deque_iter_rest c.next.new.self) e) ∙ same)
    ]

pub loop-entry-preserved : goal.loop-entry-preserved
loop-entry-preserved c =
    let same =
    passed (Some c.in-Added.bytes) c.in-Added.other c.args.name.now (files_of (deque_iter_rest c.next.new.self))
    (sym c.is_same-in-Added.ensures ∙ c.if-is_same-2.false) in
    elim c.in-Added.is [
      | inl e ↦
          c.loop-entry.invariant ∙ ap (λ l. file_in c.args.name.now (files_of l))
          (c.in-Some.ensures.steps ∙ ap (λ (e : Entry). e ∷ deque_iter_rest c.next.new.self) e) ∙ same
      | inr e ↦
          c.loop-entry.invariant ∙ ap (λ l. file_in c.args.name.now (files_of l))
          (c.in-Some.ensures.steps ∙ ap (λ (e : Entry). e ∷ deque_iter_rest c.next.new.self) e) ∙ same
    ]

pub returns : goal.returns
returns c =
    sym (c.loop-entry.invariant
    ∙ none_left (deque_iter_rest c.loop-entry.entry-iterator) c.args.name.now c.in-None.ensures.steps.0)
