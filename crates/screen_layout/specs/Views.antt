-- Panels whose lines stand elsewhere.
use Rattle.session_rooms.specs.declared.panel.Panel.{Panel}
use Rattle.screen_layout.specs.declared.panel_view.PanelView.{PanelView}

-- the panel that is viewed
abbrev pub viewed : PanelView → Panel
viewed v = record {
  mode = v.mode;
  prompt = v.prompt.now;
  typed = v.typed.now;
  cursor = v.cursor;
  menu = v.menu.now;
  below = v.below.now;
  message = v.message.now;
  end = v.end;
  running = v.running;
  indicate = v.indicate.now;
}
