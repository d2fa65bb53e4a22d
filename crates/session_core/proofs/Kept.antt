-- The lines that are the same from step to step.
use Rattle.std.proofs.Common.{◌≡◌, ℕ, zero, suc, ◌+◌, ◌-◌, ◌/◌, ◌%◌, ◌≤◌, ◌<◌, Bool, true, false, List, [], ◌++◌}
use Rattle.std.proofs.Common.{Option, Some, None, refl, ap, sym, subst, ◌∙◌, arith, inl, inr}
use Rattle.std.specs.Prelude.{codes, get_or, if◌then◌else◌, is_some, length, nat_eq, nat_lt, not, slice_get, take}
use Rattle.std.proofs.lemmas.Bool.{and_parts, cases_lt, eqb-true, false_from_ne_true, false≢true, lt-ltb, ltb-true}
use Rattle.std.proofs.lemmas.Bool.{not-true, or_parts, true≢false}
use Rattle.std.proofs.lemmas.List.{nil_from_length}
use Rattle.std.proofs.lemmas.Option.{slice_get_past}
use Rattle.session_rooms.specs.declared.panel.Mode.{Mode}
use Rattle.session_rooms.specs.declared.panel.Mode.TheVariants as mode
use Rattle.session_rooms.specs.declared.panel.Panel.{Panel}
use Rattle.grid_address.specs.Place.{Place}
use Rattle.macro_words.specs.declared.running.Running.{Running}
use Rattle.macro_words.specs.declared.waiting.Switches.{Switches}
use Rattle.macro_words.specs.declared.waiting.Waiting.{Waiting}
use Rattle.macro_words.specs.declared.waiting.Waiting.TheVariants as waiting
use Rattle.screen_layout.proofs.Painted.{line_at}
use Rattle.screen_layout.proofs.Window.{letters_same, row_same}
use Rattle.screen_layout.specs.inner.Alike.{AreAlike}
use Rattle.screen_layout.specs.Control.{below_line, entry_line, mode_name, mode_text, pointer_line, pointer_text}
use Rattle.screen_layout.specs.Foot.{first_part, foot_line, marked, moment_text}
use Rattle.screen_layout.specs.Lines.{filled, shown_line}
use Rattle.screen_layout.specs.Screen.{screen_line}
use Rattle.screen_show.specs.Changes.{Unchanged}
use Rattle.session_rooms.specs.declared.rooms.Room.{Room}
use Rattle.session_rooms.specs.declared.rooms.Room.TheVariants as room
use Rattle.session_rooms.specs.declared.rooms.TypingMode.{TypingMode}
use Rattle.session_rooms.specs.declared.rooms.TypingMode.TheVariants.{Label, Value, Edit}
use Rattle.room_keys.specs.typing.Room.{told_mode}
use Rattle.work_sheet.specs.Seen.{Sheet}
use Rattle.session_core.specs.Frozen.{frozen_after, frozen_by, held_at, lacks, lacks_area, line_over, switches_of}
use Rattle.session_core.specs.inner.Glances.{glance_of, is_plain, lacks_menu, marks_of, plain_mode, told_plainly}
use Rattle.session_core.specs.inner.Glances.{IsKept, KeepsBelow, KeepsLetters, KeepsPointer, KeepsRow, KeepsTyped}
use Rattle.session_core.specs.inner.Glances.{Stays}
use Rattle.session_core.specs.Machine.{is_running, sheet_of, FrozenAreas, State}
use Rattle.session_core.specs.Pressing.{room_panel}
use Rattle.session_core.specs.Screen.{painted_screen, panel_of, screen}
use Rattle.session_core.specs.inner.Touches.{touches_row, Touches}
use Rattle.session_core.specs.Waiting.{panel_by, waiting_panel}
use Rattle.session_core.specs.inner.Showing.{is_shown, shows_waiting}
use Rattle.session_core.specs.declared.glance.Glance.{Glance}
use Rattle.session_core.specs.declared.glance.Marks.{Marks}
use Rattle.session_core.specs.declared.touched.Touched.{Touched}
use Rattle.session_core.specs.declared.touched.Touched.TheVariants as touched
use Rattle.session_core.proofs.Still.{area_kept, long, shown_at, shown_in}
use Rattle.session_core.proofs.Touching.{touched_alike}

-- whether a room is READY, or a line is typed or a menu is shown there
abbrev IsPlainRoom : Room → Type 0
IsPlainRoom r = is_some (plain_mode r) ≡ true

-- the same of a state, where neither a macro's own line or menu is shown nor a text in the mode's place
abbrev IsPlain : State → Type 0
IsPlain s = is_some (told_plainly s) ≡ true

no_room : {P : Type 0} → false ≡ true → P
no_room h = absurd (false≢true h)

-- a mode that is told is told plainly
plain_is : (b : Bool) (m : Option Mode) → is_some (if b then m else None) ≡ true → b ≡ true
plain_is true m h = refl
plain_is false m h = no_room h

nothing_waiting : (sheet : Sheet) (x : Waiting) (p : Panel) → is_shown x ≡ false → panel_by sheet x p ≡ p
nothing_waiting sheet waiting.Nothing p h = refl
nothing_waiting sheet (waiting.Time n) p h = refl
nothing_waiting sheet (waiting.OneKey c) p h = refl
nothing_waiting sheet (waiting.Line q) p h = absurd (true≢false h)
nothing_waiting sheet (waiting.Item m) p h = absurd (true≢false h)
nothing_waiting sheet waiting.Enter p h = refl

-- where a macro shows nothing, what the session shows stays
pub nothing_shown : (sheet : Sheet) (r : Option Running) (p : Panel) → shows_waiting r ≡ false
    → waiting_panel sheet r p ≡ p
nothing_shown sheet None p h = refl
nothing_shown sheet (Some r) p h = nothing_waiting sheet r.waiting p h

no_bytes : (text : List ℕ) → nat_eq (length text) 0 ≡ true → text ≡ []
no_bytes text h = nil_from_length text (eqb-true (length text) 0 h)

-- what is shown of a room, with END's mark and whether a macro runs
abbrev plainly_shown : Room → Bool → Bool → Panel
plainly_shown r end running = record (room_panel r) { end = end; running = running; indicate = [] }

module _ (s : State) (plain : IsPlain s) where
  is_plain_is : is_plain s ≡ true
  is_plain_is = plain_is (is_plain s) (plain_mode s.room) plain

  -- the mode is the room's
  told_is : told_plainly s ≡ plain_mode s.room
  told_is = ap (λ (b : Bool). if b then plain_mode s.room else None) is_plain_is

  room_plain : IsPlainRoom s.room
  room_plain = ap (λ (m : Option Mode). is_some m) (sym told_is) ∙ plain

  -- the panel is the room's
  panel_is : panel_of s ≡ plainly_shown s.room s.end (is_running s)
  panel_is =
      let parts = and_parts (not (shows_waiting s.running)) (nat_eq (length s.indicate) 0) is_plain_is in
      ap (λ (p : Panel). record p { end = s.end; running = is_running s; indicate = s.indicate })
      (nothing_shown (sheet_of s) s.running (room_panel s.room) (not-true (shows_waiting s.running) parts.0))
      ∙ ap (λ (text : List ℕ). record (room_panel s.room) { end = s.end; running = is_running s; indicate = text })
      (no_bytes s.indicate parts.1)

-- the mode of a room, where it is told
abbrev told_in : Option Mode → List ℕ
told_in None = []
told_in (Some m) = mode_name m

mode_told : (r : Room) → IsPlainRoom r → mode_text [] (room_panel r).mode ≡ told_in (plain_mode r)
mode_told room.Ready plain = refl
mode_told (room.Typing r) plain = refl
mode_told (room.Pointing r) plain = no_room plain
mode_told (room.Menu r) plain = refl
mode_told (room.Asking r) plain = no_room plain
mode_told (room.Failed message) plain = no_room plain

-- the pointer's line, by the sheet and the mode
abbrev pointer_by : Sheet → Option Mode → List ℕ
pointer_by s m = filled 73 (take 72 (pointer_text s)) ++ told_in m

pointer_is : (s : State) → IsPlain s → pointer_line (sheet_of s) (panel_of s) ≡ pointer_by (sheet_of s) (told_plainly s)
pointer_is s plain =
    ap (pointer_line (sheet_of s)) (panel_is s plain)
    ∙ ap (λ (told : List ℕ). filled 73 (take 72 (pointer_text (sheet_of s))) ++ told)
    (mode_told s.room (room_plain s plain))
    ∙ ap (pointer_by (sheet_of s)) (sym (told_is s plain))

typed_ready : (m : TypingMode) → Some (told_mode m) ≡ Some mode.Ready → ⊥
typed_ready Label h = let no : mode.Label ≡ mode.Ready = cc in absurd cc
typed_ready Value h = let no : mode.Value ≡ mode.Ready = cc in absurd cc
typed_ready Edit h = let no : mode.Edit ≡ mode.Ready = cc in absurd cc

menu_ready : Some mode.Menu ≡ Some mode.Ready → ⊥
menu_ready h = let no : mode.Menu ≡ mode.Ready = cc in absurd cc

-- in READY no line is typed
typed_none : (r : Room) (end running : Bool) → plain_mode r ≡ Some mode.Ready
    → entry_line (plainly_shown r end running) ≡ []
typed_none room.Ready end running ready = refl
typed_none (room.Typing r) end running ready = absurd (typed_ready r.mode ready)
typed_none (room.Pointing r) end running ready = absurd (let no : None ≡ Some mode.Ready = ready in cc)
typed_none (room.Menu r) end running ready = absurd (menu_ready ready)
typed_none (room.Asking r) end running ready = absurd (let no : None ≡ Some mode.Ready = ready in cc)
typed_none (room.Failed message) end running ready = absurd (let no : None ≡ Some mode.Ready = ready in cc)

below_typed : (m : TypingMode) (p : Panel) → below_line (record p { mode = told_mode m }) ≡ []
below_typed Label p = refl
below_typed Value p = refl
below_typed Edit p = refl

-- no menu stands there
below_none : (r : Room) (end running : Bool) → lacks_menu (plain_mode r) ≡ true
    → below_line (plainly_shown r end running) ≡ []
below_none room.Ready end running plain = refl
below_none (room.Typing r) end running plain = below_typed r.mode (plainly_shown (room.Typing r) end running)
below_none (room.Pointing r) end running plain = no_room plain
below_none (room.Menu r) end running plain = no_room plain
below_none (room.Asking r) end running plain = no_room plain
below_none (room.Failed message) end running plain = no_room plain

first_typed : (m : TypingMode) (message : List ℕ) (day : Option ℕ) (second : ℕ)
    → first_part (told_mode m) message day second ≡ moment_text day second
first_typed Label message day second = refl
first_typed Value message day second = refl
first_typed Edit message day second = refl

-- no message is told
first_moment : (r : Room) (day : Option ℕ) (second : ℕ) → IsPlainRoom r
    → first_part (room_panel r).mode (room_panel r).message day second ≡ moment_text day second
first_moment room.Ready day second plain = refl
first_moment (room.Typing r) day second plain = first_typed r.mode [] day second
first_moment (room.Pointing r) day second plain = no_room plain
first_moment (room.Menu r) day second plain = refl
first_moment (room.Asking r) day second plain = no_room plain
first_moment (room.Failed message) day second plain = no_room plain

-- the moment hangs on the day, the hour and the minute
moment_same : (day : Option ℕ) (x y : ℕ) → x / 3600 ≡ y / 3600 → x / 60 % 60 ≡ y / 60 % 60
    → moment_text day x ≡ moment_text day y
moment_same None x y hours minutes = refl
moment_same (Some day) x y hours minutes = rw (hours, minutes) refl

-- the last line by what it marks and its beginning
abbrev foot_by : Marks → List ℕ → List ℕ
foot_by k first = marked k.running 67 (codes "CMD")
    (marked k.end 62 (codes "END") (marked k.circ 56 (codes "CIRC") (marked k.calc 50 (codes "CALC") (take 50 first))))

foot_is : (s : State) → IsPlain s
    → foot_line (sheet_of s) (panel_of s) s.day s.second ≡ foot_by (marks_of s) (moment_text s.day s.second)
foot_is s plain =
    ap (λ (p : Panel). foot_line (sheet_of s) p s.day s.second) (panel_is s plain)
    ∙ ap (foot_by (marks_of s)) (first_moment s.room s.day s.second (room_plain s plain))

-- in READY no line is shown
typed_is : (s : State) → told_plainly s ≡ Some mode.Ready → entry_line (panel_of s) ≡ []
typed_is s ready =
    let plain : IsPlain s = ap (λ (m : Option Mode). is_some m) ready in
    ap entry_line (panel_is s plain) ∙ typed_none s.room s.end (is_running s) (sym (told_is s plain) ∙ ready)

-- a mode without a menu is told
mode_is_told : (m : Option Mode) → lacks_menu m ≡ true → is_some m ≡ true
mode_is_told None h = h
mode_is_told (Some m) h = refl

-- and nothing below it, nor where a line is typed
below_is : (s : State) → lacks_menu (told_plainly s) ≡ true → below_line (panel_of s) ≡ []
below_is s lacks =
    let plain : IsPlain s = mode_is_told (told_plainly s) lacks in
    ap below_line (panel_is s plain)
    ∙ below_none s.room s.end (is_running s) (ap lacks_menu (sym (told_is s plain)) ∙ lacks)

-- a line of the screen, as it is painted
abbrev line_of : State → ℕ → List ℕ
line_of s n = screen_line (sheet_of s) (panel_of s) s.corner s.day s.second n

painted_at : (s : State) (n : ℕ) → n < 25 → get_or (painted_screen s) n [] ≡ line_of s n
painted_at s n inside = line_at (sheet_of s) (panel_of s) s.corner s.day s.second n inside

sure_of : (x : Touched) (first row : ℕ) → touches_row x first row ≡ false → x ≡ touched.Anything → ⊥
sure_of x first row apart is = true≢false (sym (ap (λ (y : Touched). touches_row y first row) is) ∙ apart)

module _ (s t : State) (x : Touched) (touch : Touches x s.corner.row (sheet_of s) (sheet_of t)) where
  pointer_kept : KeepsPointer x (glance_of s) (glance_of t) → line_of s 0 ≡ line_of t 0
  pointer_kept is =
      let sheets : sheet_of t ≡ sheet_of s =
      subst (λ (y : Touched). Touches y s.corner.row (sheet_of s) (sheet_of t)) is.0 touch in
      let plain : IsPlain t = ap (λ (m : Option Mode). is_some m) is.1.1 ∙ is.1.0 in
      ap shown_line (pointer_is s is.1.0 ∙ ap (λ (u : Sheet). pointer_by u (told_plainly s)) (sym sheets)
      ∙ ap (pointer_by (sheet_of t)) (sym is.1.1) ∙ sym (pointer_is t plain))

  typed_kept : KeepsTyped (glance_of s) (glance_of t) → line_of s 1 ≡ line_of t 1
  typed_kept is = ap shown_line (typed_is s is.0 ∙ sym (typed_is t is.1))

  below_kept : KeepsBelow (glance_of s) (glance_of t) → line_of s 2 ≡ line_of t 2
  below_kept is = ap shown_line (below_is s is.0 ∙ sym (below_is t is.1))

  letters_kept : KeepsLetters x (glance_of s) (glance_of t) → line_of s 3 ≡ line_of t 3
  letters_kept is =
      letters_same (touches_row x s.corner.row) (sheet_of s) (sheet_of t) (touched_alike x s.corner.row (sheet_of s)
      (sheet_of t) is.0 touch) (panel_of s) (panel_of t) s.corner t.corner s.day t.day s.second t.second
      (sym is.1)

  row_kept : (n : ℕ) → 4 ≤ n → n < 24 → KeepsRow x (glance_of s) (glance_of t) n → line_of s n ≡ line_of t n
  row_kept n least most is =
      let alike : AreAlike (touches_row x s.corner.row) (sheet_of s) (sheet_of t) = touched_alike x s.corner.row
      (sheet_of s) (sheet_of t) (sure_of x s.corner.row (s.corner.row + (n - 4)) is.0) touch in
      row_same (touches_row x s.corner.row) (sheet_of s) (sheet_of t) alike (panel_of s)
      (panel_of t) s.corner s.day t.day s.second t.second n least most is.0
      ∙ ap (λ (c : Place). screen_line (sheet_of t) (panel_of t) c t.day t.second n) (sym is.1)

  foot_kept : IsKept x (glance_of s) (glance_of t) 24 → line_of s 24 ≡ line_of t 24
  foot_kept kept =
      let is = kept.foot refl in
      let same = is.1.1 in
      ap shown_line (foot_is s is.0 ∙ ap (λ (k : Marks). foot_by k (moment_text s.day s.second)) (sym same.1.1)
      ∙ ap (foot_by (marks_of t))
      (ap (λ (day : Option ℕ). moment_text day s.second) (sym same.0)
      ∙ moment_same t.day s.second t.second (sym same.1.0.0) (sym same.1.0.1))
      ∙ sym (foot_is t is.1.0))

  -- a line that is painted the same is shown the same, where none is held
  module _ (x_on : Switches) (before : List (List ℕ)) (after : t.frozen ≡ frozen_after before x_on s.frozen)
      (has : lacks x_on s.frozen ≡ false) where
    -- a line of an area, by what is held of it
    area_line : (on : Bool) (held : Option (List (List ℕ))) (n : ℕ) (P : Type 0) → n < 25 → held_at s.frozen n ≡ held
        → held_at t.frozen n ≡ frozen_by on before held → lacks_area on held ≡ false →
        (P → line_of s n ≡ line_of t n) → Stays (is_some held) (is_some (frozen_by on before held)) P
        → get_or (screen s) n [] ≡ get_or (screen t) n []
    area_line on held n P inside is next none same stays =
        shown_at s.frozen (painted_screen s) n inside
        ∙ ap (λ (h : Option (List (List ℕ))). line_over h (painted_screen s) n) is
        ∙ area_kept on held before (painted_screen s) (painted_screen t) n P none
        (λ p. painted_at s n inside ∙ same p ∙ sym (painted_at t n inside)) stays
        ∙ ap (λ (h : Option (List (List ℕ))). line_over h (painted_screen t) n) (sym next)
        ∙ sym (shown_at t.frozen (painted_screen t) n inside)

    panel_line : (n : ℕ) (P : Type 0) → n < 25 → held_at s.frozen n ≡ s.frozen.panel
        → held_at t.frozen n ≡ t.frozen.panel →
        (P → line_of s n ≡ line_of t n) → Stays (is_some s.frozen.panel) (is_some t.frozen.panel) P
        → get_or (screen s) n [] ≡ get_or (screen t) n []
    panel_line n P inside is next same stays =
        area_line x_on.panel s.frozen.panel n P inside is (next ∙ ap (λ (f : FrozenAreas). f.panel) after)
        (or_parts (lacks_area x_on.panel s.frozen.panel) (lacks_area x_on.windows s.frozen.windows) has).0 same
        (subst (λ (f : FrozenAreas). Stays (is_some s.frozen.panel) (is_some f.panel) P) after stays)

    windows_line : (n : ℕ) (P : Type 0) → n < 25 → held_at s.frozen n ≡ s.frozen.windows
        → held_at t.frozen n ≡ t.frozen.windows →
        (P → line_of s n ≡ line_of t n) → Stays (is_some s.frozen.windows) (is_some t.frozen.windows) P
        → get_or (screen s) n [] ≡ get_or (screen t) n []
    windows_line n P inside is next same stays =
        area_line x_on.windows s.frozen.windows n P inside is (next ∙ ap (λ (f : FrozenAreas). f.windows) after)
        (or_parts (lacks_area x_on.panel s.frozen.panel) (lacks_area x_on.windows s.frozen.windows) has).1 same
        (subst (λ (f : FrozenAreas). Stays (is_some s.frozen.windows) (is_some f.windows) P) after stays)

    -- the last line never stands still
    last_line : IsKept x (glance_of s) (glance_of t) 24 → get_or (screen s) 24 [] ≡ get_or (screen t) 24 []
    last_line kept =
        shown_at s.frozen (painted_screen s) 24 (omega arith) ∙ painted_at s 24 (omega arith) ∙ foot_kept kept
        ∙ sym (painted_at t 24 (omega arith))
        ∙ sym (shown_at t.frozen (painted_screen t) 24 (omega arith))

    row_held : (f : FrozenAreas) (k : ℕ) → suc (suc (suc (suc k))) < 24
        → held_at f (suc (suc (suc (suc k)))) ≡ f.windows
    row_held f k below =
        let n : ℕ = suc (suc (suc (suc k))) in
        let past : nat_lt n 3 ≡ false =
        false_from_ne_true (nat_lt n 3) (λ h. let low : n < 3 = ltb-true n 3 h in omega (arith, low)) in
        ap (λ (b : Bool). if b then f.panel else if nat_lt n 24 then f.windows else None) past
        ∙ ap (λ (b : Bool). if b then f.windows else None) (lt-ltb n 24 below)

    line_kept : (n : ℕ) → n < 25 → IsKept x (glance_of s) (glance_of t) n
        → get_or (screen s) n [] ≡ get_or (screen t) n []
    line_kept zero inside kept =
        panel_line 0 (KeepsPointer x (glance_of s) (glance_of t)) inside refl refl pointer_kept (kept.pointer refl)
    line_kept (suc zero) inside kept =
        panel_line 1 (KeepsTyped (glance_of s) (glance_of t)) inside refl refl typed_kept (kept.typed refl)
    line_kept (suc (suc zero)) inside kept =
        panel_line 2 (KeepsBelow (glance_of s) (glance_of t)) inside refl refl below_kept (kept.below refl)
    line_kept (suc (suc (suc zero))) inside kept =
        windows_line 3 (KeepsLetters x (glance_of s) (glance_of t)) inside refl refl letters_kept (kept.letters refl)
    line_kept (suc (suc (suc (suc k)))) inside kept = elim (cases_lt (suc (suc (suc (suc k)))) 24) [
      | inl below ↦
          windows_line (suc (suc (suc (suc k)))) (KeepsRow x (glance_of s) (glance_of t) (suc (suc (suc (suc k)))))
          inside (row_held s.frozen k below) (row_held t.frozen k below)
          (row_kept (suc (suc (suc (suc k)))) (omega arith) below) (kept.rows (omega arith) below)
      | inr past ↦
          let last : suc (suc (suc (suc k))) ≡ 24 = omega (arith, past, inside) in
          subst (λ (n : ℕ). get_or (screen s) n [] ≡ get_or (screen t) n []) (sym last)
          (last_line (subst (λ (n : ℕ). IsKept x (glance_of s) (glance_of t) n) last kept))
    ]

    -- the lines that aren't told are the same
    pub lines_kept : (lines : List Bool) → ((n : ℕ) → slice_get lines n ≡ Some false
        → IsKept x (glance_of s) (glance_of t) n) → Unchanged lines (screen s) (screen t)
    lines_kept lines told n out = elim (cases_lt n 25) [
      | inl inside ↦ shown_in s.frozen (painted_screen s) n inside ∙ ap Some (line_kept n inside (told n out))
          ∙ sym (shown_in t.frozen (painted_screen t) n inside)
      | inr past ↦ slice_get_past (screen s) n (omega (arith, long s.frozen (painted_screen s), past))
          ∙ sym (slice_get_past (screen t) n (omega (arith, long t.frozen (painted_screen t), past)))
    ]

-- The same, by what a step touched before the screen followed it.
lines_told : (s mid t : State) (x : Touched) (a b : Glance) (lines : List Bool) (x_on : Switches)
    (shown : List (List ℕ)) → Touches x s.corner.row (sheet_of s) (sheet_of mid) → sheet_of t ≡ sheet_of mid →
    t.frozen ≡ frozen_after shown x_on s.frozen → lacks x_on s.frozen ≡ false → a ≡ glance_of s → b ≡ glance_of t →
    ((n : ℕ) → slice_get lines n ≡ Some false → IsKept x a b n) → Unchanged lines (screen s) (screen t)
lines_told s mid t x a b lines x_on shown touch followed frozen has before after told =
    lines_kept s t x (subst (λ (u : Sheet). Touches x s.corner.row (sheet_of s) u) (sym followed) touch) x_on
    shown frozen has lines
    (λ n out. subst (λ (g : Glance). IsKept x (glance_of s) g n) after
    (subst (λ (g : Glance). IsKept x g b n) before (told n out)))

-- The same, where the step left what stood still before the screen followed it, and no area stands still newly.
pub lines_followed : (s mid t : State) (x : Touched) (a b : Glance) (lines : List Bool) → mid.frozen ≡ s.frozen
    → Touches x s.corner.row (sheet_of s) (sheet_of mid) → sheet_of t ≡ sheet_of mid →
    t.frozen ≡ frozen_after (screen mid) (switches_of mid.running) mid.frozen →
    lacks (switches_of mid.running) mid.frozen ≡ false → a ≡ glance_of s → b ≡ glance_of t →
    ((n : ℕ) → slice_get lines n ≡ Some false → IsKept x a b n) → Unchanged lines (screen s) (screen t)
lines_followed s mid t x a b lines held touch followed frozen has before after told =
    let x_on : Switches = switches_of mid.running in
    lines_told s mid t x a b lines x_on (screen mid) touch followed
    (frozen ∙ ap (λ (f : FrozenAreas). frozen_after (screen mid) x_on f) held)
    (ap (lacks x_on) (sym held) ∙ has) before after told
