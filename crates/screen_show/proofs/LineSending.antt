-- One line that is sent, run by run.
use Rattle.std.proofs.Common.{◌≡◌, ℕ, suc, zero, ◌+◌, ◌-◌, ◌^◌, ◌<◌, ◌≤◌, true, List, [], ◌∷◌, ◌++◌, length, take, drop}
use Rattle.std.proofs.Common.{get_or, set, Option, Some, None, Result, Ok, refl, ap, sym, ◌∙◌, subst, arith}
use Rattle.std.proofs.Common.{append_assoc, length-append}
use Rattle.std.specs.Prelude.{◌==◌}
use Rattle.std.proofs.lemmas.Bool.{eq-eqb}
use Rattle.std.proofs.lemmas.List.{drop_more, take_more, length-take-le, length-drop}
use Rattle.std.proofs.lemmas.List.{set-get_or, get_or-set_same, set-set, take_at, drop_at, drop-drop}
use Rattle.outside_world.specs.declared.faults.Failed.{Failed}
use Rattle.screen_show.specs.Changes.{line_differences, line_runs}
use Rattle.screen_show.specs.inner.Patches.{patched_line, differing_front}
use Rattle.screen_show.specs.Display.{Shown, Puts, TellsSoundly, raised, with_bytes}
use Rattle.screen_show.specs.Screen.{put_in_line}
use Rattle.screen_show.specs.inner.Lines.{SendsLine}
use Rattle.screen_show.proofs.Fronts.{front_stops, run_line, run_count, run_differences, same_first}

-- the changes before a column were put, and the rest of the line gives those that are left
pub record OnLine (row col : ℕ) (before after : List ℕ) (s t : Shown) : Type 0 where
  pub now : List ℕ
  pub wide : length now ≡ 80
  pub screen : t.screen ≡ set s.screen row now
  pub line : take col now ++ patched_line (drop col before) (drop col after) (drop col now)
      ≡ patched_line before after (get_or s.screen row [])
  pub frames : t.frames ≡ s.frames
  pub puts : raised t.puts (line_runs (drop col before) (drop col after)) ≡ raised s.puts (line_runs before after)
  pub bytes_put : raised t.bytes_put (line_differences (drop col before) (drop col after))
      ≡ raised s.bytes_put (line_differences before after)
  pub closes : t.closes ≡ s.closes
  pub puts_in : t.puts ≤ 2 ^ 64 - 1
  pub bytes_in : t.bytes_put ≤ 2 ^ 64 - 1

-- a line is sent up to a column
abbrev pub SendingLine : ℕ → ℕ → List ℕ → List ℕ → Option Shown → Option Shown → Type 0
SendingLine row col before after None now = now ≡ None
SendingLine row col before after (Some s) None = ⊥
SendingLine row col before after (Some s) (Some t) = OnLine row col before after s t

-- nothing of a line is sent yet
pub line_starts : (row : ℕ) (before after : List ℕ) (was : Option Shown) → row < 25 → TellsSoundly was
    → SendingLine row 0 before after was was
line_starts row before after None h sound = refl
line_starts row before after (Some s) h sound = record {
  now = get_or s.screen row [];
  wide = sound.screen.columns row [] (omega (arith, sound.screen.lines));
  screen = sym (set-get_or s.screen row []);
  line = refl;
  frames = refl;
  closes = refl;
  puts = refl;
  bytes_put = refl;
  puts_in = sound.puts;
  bytes_in = sound.bytes_put;
}

module _ (row col : ℕ) (before after : List ℕ) (wide_before : length before ≡ 80) (wide_after : length after ≡ 80) where
  same_lengths : length (drop col before) ≡ length (drop col after)
  same_lengths = omega (arith, length-drop col before, length-drop col after)

  -- one more place at which the lines are equal
  same_place : (s t : Shown) → col < 80 → differing_front (drop col before) (drop col after) ≡ 0
      → OnLine row col before after s t → OnLine row (col + 1) before after s t
  same_place s t below none on =
      let b : drop col before ≡ get_or before col 0 ∷ drop (col + 1) before = drop_more before col 0 (omega arith) in
      let a : drop col after ≡ get_or after col 0 ∷ drop (col + 1) after = drop_more after col 0 (omega arith) in
      let x : drop col on.now ≡ get_or on.now col 0 ∷ drop (col + 1) on.now =
      drop_more on.now col 0 (omega (arith, on.wide)) in
      let none' : differing_front (get_or before col 0 ∷ drop (col + 1) before)
      (get_or after col 0 ∷ drop (col + 1) after) ≡ 0 = rw (b, a) at none in
      let test : (get_or before col 0 == get_or after col 0) ≡ true =
      same_first (get_or before col 0) (get_or after col 0) (drop (col + 1) before) (drop (col + 1) after) none' in
      let line' : take col on.now
      ++ (get_or on.now col 0 ∷ patched_line (drop (col + 1) before) (drop (col + 1) after) (drop (col + 1) on.now))
      ≡ patched_line before after (get_or s.screen row []) = rw (b, a, x, test) at on.line in
      record {
        now = on.now;
        wide = on.wide;
        screen = on.screen;
        line =
            rw (
              take_more on.now col 0 (omega (arith, on.wide)),
              append_assoc (take col on.now) (get_or on.now col 0 ∷ [])
                  (patched_line (drop (col + 1) before) (drop (col + 1) after) (drop (col + 1) on.now)),
            ) line';
        frames = on.frames;
        closes = on.closes;
        puts = rw (b, a, test) at on.puts;
        bytes_put =
            (let bytes' : raised t.bytes_put (0 + line_differences (drop (col + 1) before) (drop (col + 1) after))
            ≡ raised s.bytes_put (line_differences before after) = rw (b, a, test) at on.bytes_put in omega arith);
        puts_in = on.puts_in;
        bytes_in = on.bytes_in;
      }

  -- a run is put
  run_put : (s t : Shown) (n : ℕ) → n ≡ differing_front (drop col before) (drop col after) → 0 < n → col + n ≤ 80
      → row < length s.screen →
      OnLine row col before after s t
      → OnLine row (col + n) before after s (with_bytes row col (take n (drop col after)) t)
  run_put s t n is more below inside on =
      let there : get_or t.screen row [] ≡ on.now =
      ap (λ (g : List (List ℕ)). get_or g row []) on.screen ∙ get_or-set_same s.screen row on.now [] inside in
      let piece : List ℕ = take n (drop col after) in
      let long : length piece ≡ n = length-take-le n (drop col after) (omega (arith, length-drop col after)) in
      let front : List ℕ = take col on.now ++ piece in
      let front_long : length front ≡ col + n =
      omega (arith, length-append (take col on.now) piece, length-take-le col on.now (omega (arith, on.wide))) in
      let back : List ℕ = drop (col + length piece) on.now in
      let back_is : back ≡ drop n (drop col on.now) =
      ap (λ m. drop (col + m) on.now) long ∙ sym (drop-drop n col on.now) in
      let run : patched_line (drop col before) (drop col after) (drop col on.now)
      ≡ piece ++ patched_line (drop n (drop col before)) (drop n (drop col after)) (drop n (drop col on.now)) =
      rw is (run_line (drop col before) (drop col after) (drop col on.now) same_lengths
      (omega (arith, length-drop col after, length-drop col on.now, on.wide))) in
      let count : line_runs (drop col before) (drop col after)
      ≡ 1 + line_runs (drop n (drop col before)) (drop n (drop col after)) =
      rw is (run_count (drop col before) (drop col after) same_lengths (omega arith)) in
      let differ : line_differences (drop col before) (drop col after)
      ≡ n + line_differences (drop n (drop col before)) (drop n (drop col after)) =
      rw is (run_differences (drop col before) (drop col after) same_lengths) in
      let before_later : drop (col + n) before ≡ drop n (drop col before) = sym (drop-drop n col before) in
      let after_later : drop (col + n) after ≡ drop n (drop col after) = sym (drop-drop n col after) in
      record {
        now = front ++ back;
        wide = omega (arith, length-append front back, front_long, length-drop (col + length piece) on.now, on.wide);
        screen =
            ap (λ (line : List ℕ). set t.screen row (put_in_line col piece line)) there
            ∙ ap (λ (g : List (List ℕ)). set g row (front ++ back)) on.screen
            ∙ set-set s.screen row on.now (front ++ back);
        line =
            rw (
              take_at front back (col + n) front_long,
              drop_at front back (col + n) front_long,
              back_is,
              before_later,
              after_later,
            )
            (append_assoc (take col on.now) piece
            (patched_line (drop n (drop col before)) (drop n (drop col after)) (drop n (drop col on.now)))
            ∙ ap (λ (l : List ℕ). take col on.now ++ l) (sym run) ∙ on.line);
        frames = on.frames;
        closes = on.closes;
        puts = rw (before_later, after_later) (omega (arith, on.puts, count));
        bytes_put = rw (before_later, after_later) (omega (arith, on.bytes_put, differ, long));
        puts_in = omega arith;
        bytes_in = omega arith;
      }

  -- a byte that agrees is sent as it is
  pub line_same : (was now : Option Shown) → col < 80 → differing_front (drop col before) (drop col after) ≡ 0
      → SendingLine row col before after was now → SendingLine row (col + 1) before after was now
  line_same None now below none on = on
  line_same (Some s) None below none on = on
  line_same (Some s) (Some t) below none on = same_place s t below none on

  -- a run of bytes that differ is put
  pub line_put : (was then now : Option Shown) (n : ℕ) (bytes : List ℕ) (u : Unit {0})
      → n ≡ differing_front (drop col before) (drop col after) → 0 < n → col + n ≤ 80 → row < 25 → TellsSoundly was →
      bytes ≡ take n (drop col after) → Puts row col bytes then now (Ok u) → SendingLine row col before after was then
      → SendingLine row (col + n) before after was now
  line_put None None now n bytes u is more below inside sound piece put on = put
  line_put None (Some t) now n bytes u is more below inside sound piece put on = absurd cc
  line_put (Some s) None now n bytes u is more below inside sound piece put on = absurd on
  line_put (Some s) (Some t) now n bytes u is more below inside sound piece put on =
      subst (λ (shown : Option Shown). SendingLine row (col + n) before after (Some s) shown)
      (sym (put ∙ ap (λ (b : List ℕ). Some (with_bytes row col b t)) piece))
      (run_put s t n is more below (omega (arith, sound.screen.lines)) on)

-- so is a stretch in which the lines agree, without a call
pub line_stretch : (n row col : ℕ) (before after : List ℕ) (was now : Option Shown) → length before ≡ 80
    → length after ≡ 80 → col + n ≤ 80 →
    take n (drop col before) ≡ take n (drop col after) → SendingLine row col before after was now
    → SendingLine row (col + n) before after was now
line_stretch zero row col before after was now before_wide after_wide within same on =
    let there : col ≡ col + 0 = omega arith in
    subst (λ (m : ℕ). SendingLine row m before after was now) there on
line_stretch (suc n) row col before after was now before_wide after_wide within same on =
    let b : drop col before ≡ get_or before col 0 ∷ drop (col + 1) before = drop_more before col 0 (omega arith) in
    let a : drop col after ≡ get_or after col 0 ∷ drop (col + 1) after = drop_more after col 0 (omega arith) in
    let both : get_or before col 0 ∷ take n (drop (col + 1) before)
    ≡ get_or after col 0 ∷ take n (drop (col + 1) after) = rw (b, a) at same in
    let first : get_or before col 0 ≡ get_or after col 0 = cc in
    let more : take n (drop (col + 1) before) ≡ take n (drop (col + 1) after) = cc in
    let none : differing_front (drop col before) (drop col after) ≡ 0 =
    front_stops before after col (omega arith) (omega arith) first in
    let there : col + 1 + n ≡ col + suc n = omega arith in
    subst (λ (m : ℕ). SendingLine row m before after was now) there
    (line_stretch n row (col + 1) before after was now before_wide after_wide (omega arith) more
    (line_same row col before after before_wide after_wide was now (omega arith) none on))

-- a line begins with such a stretch
pub line_begins : (n row : ℕ) (before after : List ℕ) (was : Option Shown) → row < 25 → length before ≡ 80
    → length after ≡ 80 → n ≤ 80 →
    take n before ≡ take n after → TellsSoundly was → SendingLine row n before after was was
line_begins n row before after was inside before_wide after_wide within same sound =
    let there : 0 + n ≡ n = omega arith in
    subst (λ (m : ℕ). SendingLine row m before after was was) there
    (line_stretch n row 0 before after was was before_wide after_wide (omega arith) same
    (line_starts row before after was inside sound))

-- the rests of two lines from a place on
module _ (at k : ℕ) (before after before_rest after_rest : List ℕ) (b : before_rest ≡ drop at before)
    (a : after_rest ≡ drop at after) where
  -- what agrees in the rests agrees in the lines
  pub rests_equal : take k before_rest ≡ take k after_rest → take k (drop at before) ≡ take k (drop at after)
  rests_equal same = sym (ap (take k) b) ∙ same ∙ ap (take k) a

  -- what differs in the rests differs in the lines
  pub rests_differ : (k < length before_rest → 0 < differing_front (drop k before_rest) (drop k after_rest))
      → at + k < length before →
      0 < differing_front (drop (at + k) before) (drop (at + k) after)
  rests_differ differ below =
      let inside : k < length before_rest = omega (arith, ap length b, length-drop at before) in
      let before_is : drop k before_rest ≡ drop (at + k) before = ap (drop k) b ∙ drop-drop k at before in
      let after_is : drop k after_rest ≡ drop (at + k) after = ap (drop k) a ∙ drop-drop k at after in
      subst (λ (xs : List ℕ). 0 < differing_front xs (drop (at + k) after)) before_is
      (subst (λ (ys : List ℕ). 0 < differing_front (drop k before_rest) ys) after_is (differ inside))

-- a line is put whole, where nothing is told of it
pub line_whole : (row : ℕ) (before after : List ℕ) (was now : Option Shown) (result : Result Unit Failed) → was ≡ None
    → Puts row 0 after was now result → SendsLine row before after was now result
line_whole row before after None now result none put = put
line_whole row before after (Some s) now result none put = absurd cc

-- a line that did not change
same_line_patched : (xs line : List ℕ) → length line ≡ length xs → patched_line xs xs line ≡ line
same_line_patched [] [] h = refl
same_line_patched [] (y ∷ ys) h = absurd (omega arith)
same_line_patched (x ∷ xs) [] h = absurd (omega arith)
same_line_patched (x ∷ xs) (y ∷ ys) h =
    let test : (x == x) ≡ true = eq-eqb x x refl in
    rw test (ap (λ (l : List ℕ). y ∷ l) (same_line_patched xs ys (omega arith)))

same_line_runs : (xs : List ℕ) → line_runs xs xs ≡ 0
same_line_runs [] = refl
same_line_runs (x ∷ xs) =
    let test : (x == x) ≡ true = eq-eqb x x refl in
    rw test (same_line_runs xs)

same_line_differences : (xs : List ℕ) → line_differences xs xs ≡ 0
same_line_differences [] = refl
same_line_differences (x ∷ xs) =
    let test : (x == x) ≡ true = eq-eqb x x refl in
    rw test (omega (arith, same_line_differences xs))

-- a line that didn't change needs no call
pub line_unchanged : (row : ℕ) (before after : List ℕ) (was : Option Shown) (u : Unit {0}) → row < 25
    → length before ≡ 80 → before ≡ after → TellsSoundly was → SendsLine row before after was was (Ok u)
line_unchanged row before after None u h wide same sound = refl
line_unchanged row before after (Some s) u h wide same sound =
    let line : List ℕ = get_or s.screen row [] in
    let long : length line ≡ 80 = sound.screen.columns row [] (omega (arith, sound.screen.lines)) in
    rw (← same) (record {
      screen =
          sym (ap (λ (l : List ℕ). set s.screen row l) (same_line_patched before line (omega arith))
          ∙ set-get_or s.screen row []);
      frames = refl;
      closes = refl;
      puts = (let none : line_runs before before ≡ 0 = same_line_runs before in omega (arith, none, sound.puts));
      bytes_put =
          (let none : line_differences before before ≡ 0 = same_line_differences before in
          omega (arith, none, sound.bytes_put));
    })
