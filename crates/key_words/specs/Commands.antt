-- The commands of macros (Release 2 manual), by their names, and the words of a slash, X and a letter.
use Rattle.std.specs.Prelude.{ℕ, ◌==◌, if◌then◌else◌, Option, Some, None, List, [], ◌∷◌, codes}
use Rattle.lics_text.specs.Ascii as ascii
use Rattle.key_words.specs.declared.command.Command.{Command}
use Rattle.key_words.specs.declared.command.Command.TheVariants as command
use Rattle.key_words.specs.declared.command.SlashWord.{SlashWord}
use Rattle.key_words.specs.declared.command.SlashWord.TheVariants.{Alone, WithOne, WithTwo, Call}
use Rattle.lics_text.specs.Names.{name_in}

-- in capitals
abbrev pub commands : List (List ℕ × Command)
commands =
    (codes "BRANCH", command.Branch) ∷ (codes "DISPATCH", command.Dispatch) ∷ (codes "DEFINE", command.Define)
    ∷ (codes "RETURN", command.Return) ∷ (codes "RESTART", command.Restart) ∷ (codes "QUIT", command.Quit)
    ∷ (codes "IF", command.If) ∷ (codes "FOR", command.For) ∷ (codes "FORBREAK", command.ForBreak)
    ∷ (codes "LET", command.Let) ∷ (codes "PUT", command.Put) ∷ (codes "BLANK", command.Blank)
    ∷ (codes "CONTENTS", command.Contents) ∷ (codes "ONERROR", command.OnError) ∷ (codes "GET", command.Get)
    ∷ (codes "GETLABEL", command.GetLabel) ∷ (codes "GETNUMBER", command.GetNumber)
    ∷ (codes "LOOK", command.Look) ∷ (codes "MENUBRANCH", command.MenuBranch)
    ∷ (codes "MENUCALL", command.MenuCall) ∷ (codes "WAIT", command.Wait) ∷ (codes "?", command.Interact)
    ∷ (codes "BEEP", command.Beep) ∷ (codes "INDICATE", command.Indicate) ∷ (codes "PANELON", command.PanelOn)
    ∷ (codes "PANELOFF", command.PanelOff) ∷ (codes "WINDOWSON", command.WindowsOn)
    ∷ (codes "WINDOWSOFF", command.WindowsOff) ∷ (codes "BREAKON", command.BreakOn)
    ∷ (codes "BREAKOFF", command.BreakOff) ∷ (codes "RECALC", command.Recalc)
    ∷ (codes "RECALCCOL", command.RecalcCol) ∷ (codes "OPEN", command.Open) ∷ (codes "CLOSE", command.Close)
    ∷ (codes "READ", command.Read) ∷ (codes "READLN", command.ReadLn) ∷ (codes "WRITE", command.Write)
    ∷ (codes "WRITELN", command.WriteLn) ∷ (codes "FILESIZE", command.FileSize)
    ∷ (codes "GETPOS", command.GetPos) ∷ (codes "SETPOS", command.SetPos) ∷ []

-- the command of a name in capitals
abbrev pub command_named : List ℕ → Option Command
command_named = name_in commands

-- the word of a letter, which is a capital
abbrev pub slash_word : ℕ → Option SlashWord
slash_word b =
    if b == ascii.capital_i then Some (WithOne command.If)
    else if b == ascii.capital_g then Some (WithOne command.Branch)
    else if b == ascii.capital_c then Some Call
    else if b == ascii.capital_r then Some (Alone command.Return)
    else if b == ascii.capital_q then Some (Alone command.Quit)
    else if b == ascii.capital_m then Some (WithOne command.MenuBranch)
    else if b == ascii.capital_l then Some (WithTwo command.GetLabel)
    else if b == ascii.capital_n then Some (WithTwo command.GetNumber)
    else None
