-- Lines that stand still, among those that are painted.
use Rattle.std.proofs.Common.{◌≡◌, ℕ, suc, ◌+◌, ◌≤◌, ◌<◌, Bool, true, false, zero, List, [], ◌∷◌, ◌++◌, length, get_or}
use Rattle.std.proofs.Common.{set, Option, Some, None, refl, sym, ap, subst, ◌∙◌, arith, inl, inr}
use Rattle.std.specs.Prelude.{if◌then◌else◌, is_some, nat_lt, slice_get, slice_index_or, drop}
use Rattle.std.specs.List.{All, range_with_len}
use Rattle.std.proofs.lemmas.Bool.{cases_lt, false≢true, true≢false}
use Rattle.std.proofs.lemmas.List.{append-nil, drop_all}
use Rattle.std.proofs.lemmas.List.Elements.{All-map}
use Rattle.std.proofs.lemmas.List.FromFn.{get_or-map-range_with_len, length-map-range_with_len}
use Rattle.std.proofs.lemmas.Option.{slice_get-get_or}
use Rattle.screen_show.specs.Screen.{put_in_line, put_in_screen, IsPrinted, IsScreen}
use Rattle.session_core.specs.Frozen.{frozen_by, held_at, lacks_area, line_over, with_frozen}
use Rattle.session_core.specs.inner.Still.{ArePrinted}
use Rattle.session_core.specs.inner.Glances.{Stays}
use Rattle.session_core.specs.Machine.{FrozenAreas}

-- a whole line takes the place of another
pub put_whole : (screen : List (List ℕ)) (row : ℕ) (bytes : List ℕ) → IsScreen screen → row < 25 → length bytes ≡ 80
    → put_in_screen row 0 bytes screen ≡ set screen row bytes
put_whole screen row bytes whole inside long =
    let old : List ℕ = slice_index_or screen row [] in
    let width : length old ≡ 80 = whole.columns row [] (omega (arith, whole.lines, inside)) in
    let rest : drop (0 + length bytes) old ≡ [] = drop_all (0 + length bytes) old (omega (arith, width, long)) in
    let line : put_in_line 0 bytes old ≡ bytes = ap (λ (l : List ℕ). bytes ++ l) rest ∙ append-nil bytes in
    ap (set screen row) line

module _ (f : FrozenAreas) (lines : List (List ℕ)) where
  -- a line by its number
  pub shown_at : (n : ℕ) → n < 25 → get_or (with_frozen f lines) n [] ≡ line_over (held_at f n) lines n
  unfolding with_frozen
  shown_at n inside =
      get_or-map-range_with_len (λ (k : ℕ). line_over (held_at f k) lines k) 0 25 n n [] inside (omega arith)

  -- a screen with frozen areas has 25 lines
  pub long : length (with_frozen f lines) ≡ 25
  unfolding with_frozen
  long = length-map-range_with_len (λ (k : ℕ). line_over (held_at f k) lines k) 0 25

  -- each of the 25 numbers finds its line
  pub shown_in : (n : ℕ) → n < 25 → slice_get (with_frozen f lines) n ≡ Some (get_or (with_frozen f lines) n [])
  shown_in n inside = slice_get-get_or (with_frozen f lines) n [] (omega (arith, long, inside))

past_or : (screen : List (List ℕ)) (n : ℕ) → length screen ≤ n → get_or screen n [] ≡ []
past_or [] n h = refl
past_or (l ∷ ls) zero h = absurd (omega (arith, h))
past_or (l ∷ ls) (suc n) h = past_or ls n (omega (arith, h))

-- a line of a screen without bytes below a space is such a line
printed_line : (screen : List (List ℕ)) (n : ℕ) → IsPrinted screen → All (λ b. 32 ≤ b) (get_or screen n [])
printed_line screen n printed = elim (cases_lt n (length screen)) [
  | inl inside ↦ printed n [] inside
  | inr past ↦ subst (λ (line : List ℕ). All (λ b. 32 ≤ b) line) (sym (past_or screen n past))
      (λ k d h. absurd (omega (arith, h)))
]

over_printed : (held : Option (List (List ℕ))) (lines : List (List ℕ)) (n : ℕ) → ArePrinted held → IsPrinted lines
    → All (λ b. 32 ≤ b) (line_over held lines n)
over_printed None lines n held printed = printed_line lines n printed
over_printed (Some screen) lines n held printed = printed_line screen n held

-- such lines are shown over such a screen
pub frozen_printed : (f : FrozenAreas) (lines : List (List ℕ)) → ArePrinted f.panel → ArePrinted f.windows
    → IsPrinted lines → IsPrinted (with_frozen f lines)
unfolding with_frozen
frozen_printed f lines panel windows printed =
    All-map (λ line. All (λ b. 32 ≤ b) line) (λ (k : ℕ). line_over (held_at f k) lines k) (range_with_len 0 25)
    (λ k d h. by (get_or (range_with_len 0 25) k d))
  where
    held : (a b : Bool) → ArePrinted (if a then f.panel else if b then f.windows else None)
    held true b = panel
    held false true = windows
    held false false = tt

    by : (n : ℕ) → All (λ b. 32 ≤ b) (line_over (held_at f n) lines n)
    by n = over_printed (held_at f n) lines n (held (nat_lt n 3) (nat_lt n 24)) printed

-- a line stands still as it did before a step, or is painted the same
pub area_kept : (on : Bool) (held : Option (List (List ℕ))) (before old new : List (List ℕ)) (n : ℕ) (P : Type 0)
    → lacks_area on held ≡ false →
    (P → get_or old n [] ≡ get_or new n []) → Stays (is_some held) (is_some (frozen_by on before held)) P
    → line_over held old n ≡ line_over (frozen_by on before held) new n
area_kept true None before old new n P has same stays = same stays
area_kept true (Some screen) before old new n P has same stays = absurd stays
area_kept false None before old new n P has same stays = absurd (true≢false has)
area_kept false (Some screen) before old new n P has same stays = refl

-- one that is off stays held, where it is
pub let_stay : (on : Bool) (before : List (List ℕ)) (held : Option (List (List ℕ))) → on ≡ false
    → lacks_area on held ≡ false → held ≡ frozen_by on before held
let_stay true before held h has = absurd (true≢false h)
let_stay false before None h has = absurd (true≢false has)
let_stay false before (Some screen) h has = refl

-- an area that is on isn't held
pub hold_gone : (on : Bool) (before : List (List ℕ)) (held : Option (List (List ℕ))) → on ≡ true
    → None ≡ frozen_by on before held
hold_gone true before held h = refl
hold_gone false before held h = absurd (false≢true h)

-- an area that is on, and wasn't held, stays so
pub hold_none : (on : Bool) (before : List (List ℕ)) (held : Option (List (List ℕ))) → on ≡ true → is_some held ≡ false
    → held ≡ frozen_by on before held
hold_none true before None h none = refl
hold_none true before (Some screen) h none = absurd (true≢false none)
hold_none false before held h none = absurd (false≢true h)

-- one that is off is held as it was, or else as it stands
pub hold_taken : (on : Bool) (before : List (List ℕ)) (held : Option (List (List ℕ))) → on ≡ false
    → is_some held ≡ false → Some before ≡ frozen_by on before held
hold_taken true before held h none = absurd (true≢false h)
hold_taken false before None h none = refl
hold_taken false before (Some screen) h none = absurd (true≢false none)

-- an area that is off is held as it was
pub hold_kept : (on : Bool) (before : List (List ℕ)) (held : Option (List (List ℕ))) → on ≡ false → is_some held ≡ true
    → held ≡ frozen_by on before held
hold_kept true before held h some = absurd (true≢false h)
hold_kept false before None h some = absurd (false≢true some)
hold_kept false before (Some screen) h some = refl
