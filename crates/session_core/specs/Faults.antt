-- What ERROR tells of a macro's fault.
use Rattle.std.specs.Prelude.{ℕ, List, ◌++◌, codes}
use Rattle.grid_address.specs.Address.{address_of}
use Rattle.grid_address.specs.Place.{Place}
use Rattle.macro_text.specs.declared.unit.MacroFault.{MacroFault}
use Rattle.macro_text.specs.declared.unit.MacroFault.TheVariants as fault

-- the words of a fault, with its number
abbrev pub words_of : MacroFault → List ℕ
words_of fault.NoSuchMacro = codes "Macro fault M1 at "
words_of fault.TooDeep = codes "Macro fault M2 at "
words_of fault.UnknownWord = codes "Macro fault M3 at "
words_of fault.BadArgument = codes "Macro fault M4 at "
words_of fault.NotText = codes "Macro fault M5 at "

-- the message of a fault in a cell
abbrev pub fault_message : MacroFault → Place → List ℕ
fault_message f c = words_of f ++ address_of c
