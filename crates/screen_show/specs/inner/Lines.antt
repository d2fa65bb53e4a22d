-- What sending one line does.
use Rattle.std.specs.Prelude.{◌≡◌, ℕ, List, [], Option, Some, None, Result, Ok, Err, slice_set, slice_index_or}
use Rattle.outside_world.specs.declared.faults.Failed.{Failed}
use Rattle.screen_show.specs.Changes.{line_runs, line_differences}
use Rattle.screen_show.specs.inner.Patches.{patched_line}
use Rattle.screen_show.specs.Display.{Shown, raised}

-- the changes of one line were put
pub record HasSentLine (row : ℕ) (before after : List ℕ) (s t : Shown) : Type 0 where
  pub screen : t.screen ≡ slice_set s.screen row (patched_line before after (slice_index_or s.screen row []))
  pub frames : t.frames ≡ s.frames
  pub puts : t.puts ≡ raised s.puts (line_runs before after)
  pub bytes_put : t.bytes_put ≡ raised s.bytes_put (line_differences before after)
  pub closes : t.closes ≡ s.closes

-- one line is sent to a display; where that fails no frame was added, and no close was finished
abbrev pub SendsLine : ℕ → List ℕ → List ℕ → Option Shown → Option Shown → Result Unit Failed → Type 0
SendsLine row before after None now result = now ≡ None
SendsLine row before after (Some s) None result = ⊥
SendsLine row before after (Some s) (Some t) (Ok _) = HasSentLine row before after s t
SendsLine row before after (Some s) (Some t) (Err f) = (t.frames ≡ s.frames) × (t.closes ≡ s.closes)
