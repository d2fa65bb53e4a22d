-- What the machine calls where it settles an edit, or writes.
use Rattle.formula_eval.specs.Mean.{mean}
use Rattle.formula_parts.specs.declared.look.Scene.{Scene}
use Rattle.formula_tree.specs.declared.value.Content.{Content}
use Rattle.work_sheet.specs.Doing as doing
use Rattle.session_core.specs.Machine.{pointer_of, sheet_of, with_done, Outcome, State}

-- in Automatic mode all is recalculated
abbrev pub settling : Scene → State → Outcome
settling scene s = with_done (doing.settled mean scene (sheet_of s)) s

-- a content is written into the pointer's cell
abbrev pub writing : Content → Scene → State → Outcome
writing x scene s = with_done (doing.put mean scene (pointer_of s) x (sheet_of s)) s
