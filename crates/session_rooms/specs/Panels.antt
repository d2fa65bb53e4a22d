-- What the parts of a panel are.
use Rattle.std.specs.Prelude.{ℕ, false, List, []}
use Rattle.session_rooms.specs.declared.panel.Mode.{Mode}
use Rattle.session_rooms.specs.declared.panel.Panel.{Panel}

-- it tells a mode and nothing else
abbrev pub plain_panel : Mode → Panel
plain_panel mode = record {
  mode = mode;
  prompt = [];
  typed = [];
  cursor = 0;
  menu = [];
  below = [];
  message = [];
  end = false;
  running = false;
  indicate = [];
}

-- a line behind its prompt, with its cursor
abbrev pub line_panel : Mode → List ℕ → List ℕ → ℕ → Panel
line_panel mode prompt typed cursor = record (plain_panel mode) { prompt = prompt; typed = typed; cursor = cursor }
