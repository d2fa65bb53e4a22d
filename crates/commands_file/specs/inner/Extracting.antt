-- How the cells of a span are put into a sheet of their own.
use Rattle.std.specs.Prelude.{cond}
use Rattle.commands_file.specs.Combined.{Entry}
use Rattle.commands_file.specs.declared.extracting.Extracting.{Extracting}
use Rattle.grid_address.specs.Place.{is_within, Extent}
use Rattle.sheet_store.specs.Grid.{put_state, Grid}
use Rattle.commands_file.specs.Extracted.{state_of}

-- the grid with what is saved of a cell, where it lies in the span
abbrev pub put_within : Extracting → Extent → Grid → Entry → Grid → Grid
put_within k span g e into = cond (is_within span e.0) (put_state into e.0 (state_of k g e)) into
