-- The outlook of a scene.
use Rattle.formula_parts.specs.Outlook.{Outlook, Sight}
use Rattle.formula_parts.specs.declared.look.Scene.{Scene}

-- what formulas look at, in a scene
abbrev pub outlook_of : Sight → Scene → Outlook
outlook_of sight scene = record { sight = sight; cursor = scene.cursor; day = scene.now.day; second = scene.now.second }
