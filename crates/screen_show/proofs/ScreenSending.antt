-- A screen that is sent line by line.
use Rattle.std.proofs.Common.{◌≡◌, ℕ, suc, zero, ◌+◌, ◌<◌, ◌≤◌, List, [], ◌∷◌, ◌++◌, length, take, drop, get_or, Option}
use Rattle.std.proofs.Common.{Some, None, Result, Ok, Err, refl, ap, sym, ◌∙◌, subst, arith, inl, inr, append_assoc}
use Rattle.std.specs.Prelude.{Bool, false, slice_get, ◌-◌, ◌==◌}
use Rattle.std.specs.List.{All}
use Rattle.std.proofs.lemmas.List.{append-nil, drop_all, drop_more, drop-set-lt, take_all, take_more_set, length-set}
use Rattle.std.proofs.lemmas.List.Elements.{All-set, All-head, All-tail}
use Rattle.std.proofs.lemmas.Bool.{cases_Bool, eqb-true}
use Rattle.std.proofs.lemmas.Option.{slice_get-get_or}
use Rattle.outside_world.specs.declared.faults.Failed.{Failed}
use Rattle.screen_show.specs.Changes.{Agrees, AgreesInLine, Unchanged, changed_runs, differences}
use Rattle.screen_show.specs.inner.Patches.{patched, patched_line}
use Rattle.screen_show.specs.Changes.{line_runs, line_differences}
use Rattle.screen_show.specs.Display.{Shown, Finishes, HasSent, IsSound, Sends, TellsSoundly, raised, with_frame}
use Rattle.screen_show.specs.Screen.{IsScreen}
use Rattle.screen_show.specs.inner.Lines.{SendsLine, HasSentLine}
use Rattle.screen_show.proofs.Fronts.{length-patched_line}
use Rattle.screen_show.proofs.LineSending.{line_unchanged}

-- the changes above a row were put, and the rest of the screen gives those that are left
pub record OnScreen (row : ℕ) (before after : List (List ℕ)) (s t : Shown) : Type 0 where
  pub screen : take row t.screen ++ patched (drop row before) (drop row after) (drop row t.screen)
      ≡ patched before after s.screen
  pub frames : t.frames ≡ s.frames
  pub puts : raised t.puts (changed_runs (drop row before) (drop row after)) ≡ raised s.puts (changed_runs before after)
  pub bytes_put : raised t.bytes_put (differences (drop row before) (drop row after))
      ≡ raised s.bytes_put (differences before after)
  pub closes : t.closes ≡ s.closes
  pub sound : IsSound t

-- a screen is sent up to a line
abbrev pub SendingScreen : ℕ → List (List ℕ) → List (List ℕ) → Option Shown → Option Shown → Type 0
SendingScreen row before after None now = now ≡ None
SendingScreen row before after (Some s) None = ⊥
SendingScreen row before after (Some s) (Some t) = OnScreen row before after s t

-- nothing of it is sent yet
pub screen_starts : (before after : List (List ℕ)) (was : Option Shown) → TellsSoundly was
    → SendingScreen 0 before after was was
screen_starts before after None sound = refl
screen_starts before after (Some s) sound =
    record { screen = refl; frames = refl; puts = refl; bytes_put = refl; closes = refl; sound = sound }

-- a display that is sent to still tells what it shows
pub screen_sound : (row : ℕ) (before after : List (List ℕ)) (was now : Option Shown)
    → SendingScreen row before after was now → TellsSoundly now
screen_sound row before after None None on = tt
screen_sound row before after None (Some t) on = absurd cc
screen_sound row before after (Some s) None on = absurd on
screen_sound row before after (Some s) (Some t) on = on.sound

-- a display that told nothing tells nothing
pub screen_untold : (row : ℕ) (before after : List (List ℕ)) (was now : Option Shown)
    → SendingScreen row before after was now → was ≡ None → now ≡ None
screen_untold row before after None now on none = on
screen_untold row before after (Some s) now on none = absurd cc

module _ (row : ℕ) (before after : List (List ℕ)) (b a : List ℕ) (below : row < 25) (before_shape : IsScreen before)
    (after_shape : IsScreen after)
    (b_is : slice_get before row ≡ Some b) (a_is : slice_get after row ≡ Some a) (b_wide : length b ≡ 80)
    (a_wide : length a ≡ 80) where
  before_splits : drop row before ≡ b ∷ drop (row + 1) before
  before_splits =
      let here : slice_get before row ≡ Some (get_or before row []) =
      slice_get-get_or before row [] (omega (arith, before_shape.lines)) in
      let same : get_or before row [] ≡ b = cc in
      drop_more before row [] (omega (arith, before_shape.lines)) ∙ ap (λ (l : List ℕ). l ∷ drop (row + 1) before) same

  after_splits : drop row after ≡ a ∷ drop (row + 1) after
  after_splits =
      let here : slice_get after row ≡ Some (get_or after row []) =
      slice_get-get_or after row [] (omega (arith, after_shape.lines)) in
      let same : get_or after row [] ≡ a = cc in
      drop_more after row [] (omega (arith, after_shape.lines)) ∙ ap (λ (l : List ℕ). l ∷ drop (row + 1) after) same

  -- one more line is sent
  line_more : (s t u : Shown) → OnScreen row before after s t → HasSentLine row b a t u
      → OnScreen (row + 1) before after s u
  line_more s t u on sent =
      let inside : row < length t.screen = omega (arith, on.sound.screen.lines) in
      let line : List ℕ = get_or t.screen row [] in
      let new : List ℕ = patched_line b a line in
      let line_wide : length line ≡ 80 = on.sound.screen.columns row [] inside in
      let new_wide : length new ≡ 80 = length-patched_line b a line (omega arith) (omega arith) ∙ a_wide in
      let front : take (row + 1) u.screen ≡ take row t.screen ++ new ∷ [] =
      ap (take (row + 1)) sent.screen ∙ take_more_set t.screen row new inside in
      let back : drop (row + 1) u.screen ≡ drop (row + 1) t.screen =
      ap (drop (row + 1)) sent.screen ∙ drop-set-lt (row + 1) t.screen row new (omega arith) in
      let screen_splits : drop row t.screen ≡ line ∷ drop (row + 1) t.screen = drop_more t.screen row [] inside in
      let was : take row t.screen
      ++ (new ∷ patched (drop (row + 1) before) (drop (row + 1) after) (drop (row + 1) t.screen))
      ≡ patched before after s.screen = rw (before_splits, after_splits, screen_splits) at on.screen in
      let runs : raised t.puts (line_runs b a + changed_runs (drop (row + 1) before) (drop (row + 1) after))
      ≡ raised s.puts (changed_runs before after) = rw (before_splits, after_splits) at on.puts in
      let bytes : raised t.bytes_put
      (line_differences b a + differences (drop (row + 1) before) (drop (row + 1) after))
      ≡ raised s.bytes_put (differences before after) = rw (before_splits, after_splits) at on.bytes_put in
      record {
        screen =
            rw (
              front,
              back,
              append_assoc (take row t.screen) (new ∷ [])
                  (patched (drop (row + 1) before) (drop (row + 1) after) (drop (row + 1) t.screen)),
            ) was;
        frames = sent.frames ∙ on.frames;
        puts = omega (arith, sent.puts, runs);
        bytes_put = omega (arith, sent.bytes_put, bytes);
        closes = sent.closes ∙ on.closes;
        sound = record {
          screen =
              subst IsScreen (sym sent.screen)
              (record {
                lines = length-set t.screen row new
                    ∙ on.sound.screen.lines;
                columns = All-set (λ l. length l ≡ 80) t.screen row new new_wide on.sound.screen.columns;
              });
          puts = omega (arith, sent.puts);
          bytes_put = omega (arith, sent.bytes_put);
        };
      }

  -- one more line is sent
  pub screen_more : (was then now : Option Shown) (u : Unit {0}) → SendsLine row b a then now (Ok u)
      → SendingScreen row before after was then → SendingScreen (row + 1) before after was now
  screen_more None None now u sent on = sent
  screen_more None (Some t) now u sent on = absurd cc
  screen_more (Some s) None now u sent on = absurd on
  screen_more (Some s) (Some t) None u sent on = absurd sent
  screen_more (Some s) (Some t) (Some v) u sent on = line_more s t v on sent

module _ (lines : List Bool) (before after : List (List ℕ)) (before_shape : IsScreen before)
    (after_shape : IsScreen after)
    (unchanged : Unchanged lines before after) where
  -- so many lines are passed over, none of which is in the set
  lines_passed : (n row : ℕ) (was now : Option Shown) → row + n ≤ 25 →
      ((k : ℕ) → row ≤ k → k < row + n → slice_get lines k ≡ Some false) →
      SendingScreen row before after was now → SendingScreen (row + n) before after was now
  lines_passed zero row was now within passed on =
      let there : row ≡ row + 0 = omega arith in
      subst (λ (m : ℕ). SendingScreen m before after was now) there on
  lines_passed (suc n) row was now within passed on =
      let line : List ℕ = get_or before row [] in
      let inside : row < length before = omega (arith, before_shape.lines) in
      let before_is : slice_get before row ≡ Some line = slice_get-get_or before row [] inside in
      let same : slice_get before row ≡ slice_get after row = unchanged row (passed row (omega arith) (omega arith)) in
      let wide : length line ≡ 80 = before_shape.columns row [] inside in
      let none =
      line_unchanged row line line now tt (omega arith) wide refl (screen_sound row before after was now on) in
      let one : SendingScreen (row + 1) before after was now =
      screen_more row before after line line (omega arith) before_shape after_shape before_is (sym same ∙ before_is)
      wide wide was now now tt none on in
      let there : row + 1 + n ≡ row + suc n = omega arith in
      subst (λ (m : ℕ). SendingScreen m before after was now) there
      (lines_passed n (row + 1) was now (omega arith) (λ k h g. passed k (omega arith) (omega arith)) one)

  -- the lines up to the next one of the set are passed over
  pub screen_passes : (row next : ℕ) (was now : Option Shown) → row ≤ next → next ≤ 25 →
      ((k : ℕ) → row ≤ k → k < next → slice_get lines k ≡ Some false) →
      SendingScreen row before after was now → SendingScreen next before after was now
  screen_passes row next was now later within passed on =
      let there : row + (next - row) ≡ next = omega arith in
      subst (λ (m : ℕ). SendingScreen m before after was now) there
      (lines_passed (next - row) row was now (omega arith) (λ k h g. passed k h (omega arith)) on)

line_agrees : (before after line : List ℕ) → length before ≡ length after → length line ≡ length after
    → AgreesInLine before after line → patched_line before after line ≡ after
line_agrees [] [] line h k agrees = refl
line_agrees [] (a ∷ xs) line h k agrees = absurd (omega arith)
line_agrees (b ∷ bs) [] line h k agrees = refl
line_agrees (b ∷ bs) (a ∷ xs) [] h k agrees = absurd (omega arith)
line_agrees (b ∷ bs) (a ∷ xs) (y ∷ ys) h k agrees =
    let rest : patched_line bs xs ys ≡ xs = line_agrees bs xs ys (omega arith) (omega arith) agrees.1 in
    elim (cases_Bool (b == a)) [
      | inl same ↦
          rw same (let equal : b ≡ a = eqb-true b a same in
          ap (λ (z : ℕ). z ∷ patched_line bs xs ys) (agrees.0 equal ∙ equal) ∙ ap (λ (l : List ℕ). a ∷ l) rest)
      | inr apart ↦ rw apart (ap (λ (l : List ℕ). a ∷ l) rest)
    ]

screen_agrees : (before after screen : List (List ℕ)) → length before ≡ length after → length screen ≡ length after →
    All (λ l. length l ≡ 80) before → All (λ l. length l ≡ 80) after → All (λ l. length l ≡ 80) screen
    → Agrees before after screen → patched before after screen ≡ after
screen_agrees [] [] screen h k p q r agrees = refl
screen_agrees [] (a ∷ xs) screen h k p q r agrees = absurd (omega arith)
screen_agrees (b ∷ bs) [] screen h k p q r agrees = refl
screen_agrees (b ∷ bs) (a ∷ xs) [] h k p q r agrees = absurd (omega arith)
screen_agrees (b ∷ bs) (a ∷ xs) (y ∷ ys) h k p q r agrees =
    let wide : List ℕ → Type 0 = λ l. length l ≡ 80 in
    let b_wide : length b ≡ 80 = All-head wide b bs p in
    let a_wide : length a ≡ 80 = All-head wide a xs q in
    let y_wide : length y ≡ 80 = All-head wide y ys r in
    ap (λ (l : List ℕ). l ∷ patched bs xs ys) (line_agrees b a y (omega arith) (omega arith) agrees.0)
    ∙ ap (λ (g : List (List ℕ)). a ∷ g)
    (screen_agrees bs xs ys (omega arith) (omega arith) (All-tail wide b bs p) (All-tail wide a xs q)
    (All-tail wide y ys r) agrees.1)

module _ (row : ℕ) (before after : List (List ℕ)) (before_shape : IsScreen before) (after_shape : IsScreen after)
    (s t : Shown) (was_shape : IsScreen s.screen) where
  all_put : 25 ≤ row → OnScreen row before after s t → HasSent before after s (with_frame t)
  all_put low on =
      let none : drop row before ≡ [] = drop_all row before (omega (arith, before_shape.lines)) in
      let whole : t.screen ≡ patched before after s.screen =
      sym (append-nil t.screen)
      ∙ ap (λ (l : List (List ℕ)). l ++ []) (sym (take_all row t.screen (omega (arith, on.sound.screen.lines))))
      ∙ (rw none at on.screen) in
      record {
        screen =
            λ agrees. whole ∙ screen_agrees before after s.screen (before_shape.lines ∙ sym after_shape.lines)
            (was_shape.lines ∙ sym after_shape.lines) before_shape.columns after_shape.columns was_shape.columns agrees;
        frames = ap (λ (fs : List (List (List ℕ))). fs ++ t.screen ∷ []) on.frames;
        puts =
            (let all : raised t.puts 0 ≡ raised s.puts (changed_runs before after) = rw none at on.puts in
            omega (arith, on.sound.puts, all));
        bytes_put =
            (let all : raised t.bytes_put 0 ≡ raised s.bytes_put (differences before after) =
            rw none at on.bytes_put in omega (arith, on.sound.bytes_put, all));
        closed = refl;
        closes = on.closes;
      }

-- past the last line the screen is sent, and finished
pub screen_ends : (row : ℕ) (before after : List (List ℕ)) (was then now : Option Shown) (result : Result Unit Failed)
    → IsScreen before → IsScreen after → TellsSoundly was → 25 ≤ row →
    SendingScreen row before after was then → Finishes then now result → Sends before after was now result
screen_ends row before after None None now result before_shape after_shape sound low on done = done
screen_ends row before after None (Some t) now result before_shape after_shape sound low on done = absurd cc
screen_ends row before after (Some s) None now result before_shape after_shape sound low on done = absurd on
screen_ends row before after (Some s) (Some t) now (Ok u) before_shape after_shape sound low on done =
    subst (λ (shown : Option Shown). Sends before after (Some s) shown (Ok u)) (sym done)
    (all_put row before after before_shape after_shape s t sound.screen low on)
screen_ends row before after (Some s) (Some t) now (Err f) before_shape after_shape sound low on done =
    rw (done.1) (on.frames, on.closes)
