-- The lines of a screen, one after another.
use Rattle.std.proofs.Common.{◌≡◌, ℕ, ◌≤◌, ◌<◌, [], length, get_or, Option, ◌∙◌, arith}
use Rattle.std.proofs.lemmas.List.{length-map}
use Rattle.std.proofs.lemmas.List.Elements.{All-map}
use Rattle.std.proofs.lemmas.List.FromFn.{get_or-map-range_with_len, length-map-range_with_len}
use Rattle.std.specs.List.{All, range_with_len}
use Rattle.grid_address.specs.Place.{Place}
use Rattle.shown_cells.specs.Cells.{padded, shown_byte}
use Rattle.shown_cells.proofs.Bytes.{shown_least}
use Rattle.screen_layout.specs.Screen.{line_text, screen, screen_line}
use Rattle.work_sheet.specs.Seen.{Sheet}
use Rattle.session_rooms.specs.declared.panel.Panel.{Panel}
use Rattle.screen_show.specs.Screen.{IsScreen, IsPrinted}
use Rattle.screen_layout.proofs.Cuts.{padded_length}

-- a line of a screen by its number
pub line_at : (s : Sheet) (p : Panel) (corner : Place) (day : Option ℕ) (second n : ℕ) → n < 25 →
    get_or (screen s p corner day second) n [] ≡ screen_line s p corner day second n
unfolding screen
line_at s p corner day second n inside =
    get_or-map-range_with_len (screen_line s p corner day second) 0 25 n n [] inside (omega arith)

-- no byte of a screen is below 32
pub printed : (s : Sheet) (p : Panel) (corner : Place) (day : Option ℕ) (second : ℕ)
    → IsPrinted (screen s p corner day second)
unfolding screen
printed s p corner day second =
    All-map (λ line. All (λ b. 32 ≤ b) line) (screen_line s p corner day second) (range_with_len 0 25)
    (λ k d h. All-map (λ b. 32 ≤ b) shown_byte
    (padded 80 (line_text s p corner day second (get_or (range_with_len 0 25) k d)))
    (λ j e i. shown_least (get_or (padded 80 (line_text s p corner day second (get_or (range_with_len 0 25) k d))) j
    e)))

-- a screen has 25 lines of 80 bytes
pub shaped : (s : Sheet) (p : Panel) (corner : Place) (day : Option ℕ) (second : ℕ)
    → IsScreen (screen s p corner day second)
unfolding screen
shaped s p corner day second = record {
  lines = length-map-range_with_len (screen_line s p corner day second) 0 25;
  columns = All-map (λ line. length line ≡ 80) (screen_line s p corner day second) (range_with_len 0 25)
      (λ k d h. length-map (padded 80 (line_text s p corner day second (get_or (range_with_len 0 25) k d))) shown_byte
      ∙ padded_length 80 (line_text s p corner day second (get_or (range_with_len 0 25) k d)));
}
