use Rattle.std.proofs.Common.{refl, sym, subst, ◌∙◌, arith, inr, rules, List}
use Rattle.screen_show.specs.Display.{View}
use Rattle.screen_show.specs.Screen.{empty_screen}
use Rattle.sheet_run.specs.inner.Sending.{AreUntold}
use Rattle.sheet_run.proofs.Going.{event_fits, going_starts, going_on, ran_to_end, ran_to_bad, ran_to_fault}
use Rattle.sheet_run.proofs.Going.{ran_to_limit, ran_out, step_made, quit_made, refusal_made, leaves, shown_now}
use Rattle.sheet_run.proofs.drive.make_steps.Goals as goal

pub loop-event-init : goal.loop-event-init
loop-event-init g c = record {
  going = (
    empty_screen,
    going_starts c.args.bounds _ _ _ _ _ _ c.args.session.now _ empty_screen c.requires.fresh c.new-feed.ensures refl,
    λ each. c.none-frames.ensures.0,
  );
  frames = c.none-frames.ensures.1 ∙ sym c.none-frames.ensures.0;
  unsent = λ last. (refl, refl);
  same = search rules;
  room = c.requires.room;
  within = omega arith;
}

pub loop-event-preserved-in-More : goal.loop-event-preserved-in-More
loop-event-preserved-in-More g c =
    let was = c.loop-event.invariant.going in
    record {
      going = (
        was.0,
        going_on _ _ _ _ _ _ _ _ _ _ _ _ _ was.1 _ _ _ c.in-More.ensures.next c.in-More.ensures.few
            (c.in-More.ensures.fine (λ e. cc)),
        was.2,
      );
      frames = c.loop-event.invariant.frames;
      unsent = c.loop-event.invariant.unsent;
      same = search rules;
      room = c.loop-event.invariant.room;
      within = c.loop-event.invariant.within;
    }

pub loop-event-preserved : goal.loop-event-preserved
loop-event-preserved g c =
    let was = c.loop-event.invariant.going in
    record {
      going = (
        _,
        step_made _ _ _ _ _ _ _ _ _ _ _ _ _ was.1 _ _ _ c.in-Event.event c.in-Event.ensures.next
            c.in-Event.ensures.few (c.in-Event.ensures.fine (λ e. cc)) _ _ (omega arith)
            (c.in-Done.ensures.stepped _ _ was.0 (λ each. sym (was.2 each)))
            (sym c.is_refused.ensures ∙ c.if-is_refused.false),
        λ each. c.in-Done.ensures.shows each (λ e. cc),
      );
      frames = c.in-Done.ensures.frames;
      unsent = λ last.
          let now = c.in-Done.ensures.unsent last in
          let before = c.loop-event.invariant.unsent last in (now.0 ∙ before.0, now.1 ∙ before.1);
      same = search rules;
      room = c.in-Done.ensures.room;
      within = omega arith;
    }

pub returns-in-End-clause-made : goal.returns-in-End-clause-made
returns-in-End-clause-made g c =
    let was = c.loop-event.invariant.going.1 in
    record {
      driven = record {
        steps = was.steps;
        left = was.left;
        out = was.out;
        ended = ran_to_end _ _ _ _ _ _ _ _ _ _ _ _ _ was _ _ _ c.leaves_undone.result c.ended.result
            c.in-End.ensures.next (c.in-End.ensures.fine (λ e. cc)) c.leaves_undone.ensures c.ended.ensures;
        state = leaves c.args.session.now c.loop-event.session was.steps _ _ _ c.ended.result c.ended.ensures
            was.session;
      };
      made = was.made;
      unsent = c.loop-event.invariant.unsent;
    }

pub returns-in-Bad-clause-made : goal.returns-in-Bad-clause-made
returns-in-Bad-clause-made g c =
    let was = c.loop-event.invariant.going.1 in
    record {
      driven = record {
        steps = was.steps;
        left = was.left;
        out = was.out;
        ended = inr (ran_to_bad _ _ _ _ _ _ _ _ _ _ _ _ _ was _ _ c.next_event.new.feed c.in-Bad.at
            c.in-Bad.ensures.next (c.in-Bad.ensures.fine (λ e. cc)));
        state = was.session;
      };
      made = was.made;
      unsent = c.loop-event.invariant.unsent;
    }

pub returns-in-Failed-clause-made : goal.returns-in-Failed-clause-made
returns-in-Failed-clause-made g c =
    let was = c.loop-event.invariant.going.1 in
    record {
      driven = record {
        steps = was.steps;
        left = was.left;
        out = was.out;
        ended = ran_to_fault _ _ _ _ _ _ _ _ _ _ _ _ _ was _ _ c.next_event.new.feed c.in-Failed.ensures.next
            (c.in-Failed.ensures.fault refl);
        state = was.session;
      };
      made = was.made;
      unsent = c.loop-event.invariant.unsent;
    }

pub returns-then-steps-bounds-clause-made : goal.returns-then-steps-bounds-clause-made
returns-then-steps-bounds-clause-made g c =
    let was = c.loop-event.invariant.going.1 in
    record {
      driven = record {
        steps = was.steps;
        left = was.left;
        out = was.out;
        ended = ran_to_limit _ _ _ _ _ _ _ _ _ _ _ _ _ was _ _ _ c.in-Event.event c.in-Event.ensures.next
            c.in-Event.ensures.few (c.in-Event.ensures.fine (λ e. cc)) (omega arith);
        state = was.session;
      };
      made = was.made;
      unsent = c.loop-event.invariant.unsent;
    }

pub returns-in-Quit-clause-made : goal.returns-in-Quit-clause-made
returns-in-Quit-clause-made g c =
    let was = c.loop-event.invariant.going in
    let quit = quit_made _ _ _ _ _ _ _ _ _ _ _ _ _ was.1 _ _ _ c.in-Event.event c.in-Event.ensures.next
    c.in-Event.ensures.few (c.in-Event.ensures.fine (λ e. cc)) _ _ (omega arith)
    (c.in-Quit.ensures.stepped _ _ was.0 (λ each. sym (was.2 each))) in
    record {
      driven = quit.0;
      made = quit.1;
      unsent = λ last.
          let now = c.in-Quit.ensures.unsent last in
          let before = c.loop-event.invariant.unsent last in (now.0 ∙ before.0, now.1 ∙ before.1);
    }

pub returns-then-is_refused-clause-made : goal.returns-then-is_refused-clause-made
returns-then-is_refused-clause-made g c =
    let was = c.loop-event.invariant.going in
    let refused = refusal_made _ _ _ _ _ _ _ _ _ _ _ _ _ was.1 _ _ _ c.in-Event.event c.in-Event.ensures.next
    c.in-Event.ensures.few (c.in-Event.ensures.fine (λ e. cc)) _ _ (omega arith)
    (c.in-Done.ensures.stepped _ _ was.0 (λ each. sym (was.2 each)))
    (sym c.is_refused.ensures ∙ c.if-is_refused.true) in
    rw c.taken.ensures
    (record {
      driven = refused.0;
      made = refused.1;
      unsent = λ last.
          let now = c.in-Done.ensures.unsent last in
          let before = c.loop-event.invariant.unsent last in (now.0 ∙ before.0, now.1 ∙ before.1);
    })

pub returns-in-NoMemory-clause-made : goal.returns-in-NoMemory-clause-made
returns-in-NoMemory-clause-made g c =
    let was = c.loop-event.invariant.going in
    record {
      driven = record {
        steps = was.1.steps;
        left = was.1.left;
        out = was.1.out;
        ended = ran_out _ _ _ _ _ _ _ _ _ _ _ _ _ was.1 _ _ _ c.in-Event.event c.in-Event.ensures.next
            c.in-Event.ensures.few (c.in-Event.ensures.fine (λ e. cc)) _ (omega arith)
            (c.in-NoMemory.ensures.stepped _ _ was.0 (λ each. sym (was.2 each)));
        state = tt;
      };
      made = was.1.made;
      unsent = λ last.
          let now = c.in-NoMemory.ensures.unsent last in
          let before = c.loop-event.invariant.unsent last in (now.0 ∙ before.0, now.1 ∙ before.1);
    }

pub make_step-requires-clause-wanted : goal.make_step-requires-clause-wanted
make_step-requires-clause-wanted g c =
    event_fits _ _ _ _ _ _ _ _ _ _ _ _ _ c.loop-event.invariant.going.1 _ _ _ c.in-Event.event
    c.in-Event.ensures.next c.in-Event.ensures.few (c.in-Event.ensures.fine (λ e. cc))

pub make_step-requires-clause-shows : goal.make_step-requires-clause-shows
make_step-requires-clause-shows g c each some =
    c.loop-event.invariant.going.2 each ∙ shown_now _ _ _ _ _ _ _ _ c.loop-event.invariant.going.1 some

-- the displays are those from before
pub make_step-requires-clause-untold : goal.make_step-requires-clause-untold
make_step-requires-clause-untold g c last =
    subst (λ (ds : List View). AreUntold ds) (sym (c.loop-event.invariant.unsent last).0) (c.requires.untold last)
