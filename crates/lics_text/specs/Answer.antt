-- What a call answers, where memory may run out.
use Rattle.std.specs.Prelude.{◌≡◌, Result, Ok, Err}
use Rattle.lics_text.specs.declared.faults.TextFault.{TextFault}
use Rattle.lics_text.specs.declared.faults.TextFault.TheVariants.{TooLong, BadByte, Memory}

-- the fault is the one that is defined; of want of memory nothing is said
abbrev pub Fails : {X : Type 0} → TextFault → Result X TextFault → Type 0
Fails Memory read = Unit {0}
Fails TooLong read = read ≡ Err TooLong
Fails (BadByte at) read = read ≡ Err (BadByte at)

-- the answer, seen by the view, is the one that is defined, unless memory ran out
abbrev pub Gives : {X Y : Type 0} → (X → Y) → Result X TextFault → Result Y TextFault → Type 0
Gives view (Ok x) read = read ≡ Ok (view x)
Gives view (Err e) read = Fails e read
