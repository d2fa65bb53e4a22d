-- What words read.
use Rattle.formula_parts.specs.Outlook.{Outlook}
use Rattle.formula_parts.specs.Scenes.{outlook_of}
use Rattle.formula_parts.specs.declared.look.Look
use Rattle.macro_words.specs.declared.source.Source.{Source}

-- what formulas look at from there
abbrev pub outlook_from : {K : Type 0} → Look.Ghosts K → Source K → Outlook
outlook_from look s = outlook_of (look.sight s.look.now) s.scene.now
