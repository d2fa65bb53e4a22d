-- The last line: the moment or a message, and the indicators.
use Rattle.std.specs.Prelude.{ℕ, ◌*◌, ◌/◌, ◌%◌, pos, Bool, true, false, not, ◌&&◌, List, [], ◌++◌, take, Option, Some, None, codes}
use Rattle.cell_format.specs.Numbers.{shown_number, two_digits}
use Rattle.grid_address.specs.Formats.{date_format}
use Rattle.screen_layout.specs.Lines.{filled}
use Rattle.work_sheet.specs.Seen.{Sheet}
use Rattle.session_rooms.specs.declared.panel.Mode.{Mode}
use Rattle.session_rooms.specs.declared.panel.Mode.TheVariants.{Error}
use Rattle.session_rooms.specs.declared.panel.Panel.{Panel}

-- the day, the hour and the minute, as 01-Jun-87 14:05; nothing where the clock has no day
abbrev pub moment_text : Option ℕ → ℕ → List ℕ
moment_text None second = []
moment_text (Some day) second =
    shown_number (pos (day * 1000000)) date_format 10
    ++ two_digits (second / 3600) ++ codes ":" ++ two_digits (second / 60 % 60)

-- in ERROR the message
abbrev pub first_part : Mode → List ℕ → Option ℕ → ℕ → List ℕ
first_part Error message day second = message
first_part _ message day second = moment_text day second

-- a word from a column on, where it is to be told
abbrev pub marked : Bool → ℕ → List ℕ → List ℕ → List ℕ
marked true column word line = filled column line ++ word
marked false column word line = line

-- a change was made since the last recalculation, and none follows by itself
abbrev pub wants_recalculation : Sheet → Bool
wants_recalculation s = s.stale && not s.settings.automatic

-- the column from which on CALC stands; the moment or the message ends before it
abbrev pub CALC_COLUMN : ℕ
CALC_COLUMN = 50

-- the column from which on CIRC stands
abbrev pub CIRC_COLUMN : ℕ
CIRC_COLUMN = 56

-- the column from which on END stands
abbrev pub END_COLUMN : ℕ
END_COLUMN = 62

-- the column from which on CMD stands
abbrev pub CMD_COLUMN : ℕ
CMD_COLUMN = 67

-- the moment or the message, and the indicators
abbrev pub foot_line : Sheet → Panel → Option ℕ → ℕ → List ℕ
foot_line s p day second =
    marked p.running CMD_COLUMN (codes "CMD")
    (marked p.end END_COLUMN (codes "END")
    (marked s.circular CIRC_COLUMN (codes "CIRC")
    (marked (wants_recalculation s) CALC_COLUMN (codes "CALC")
    (take CALC_COLUMN (first_part p.mode p.message day second)))))
