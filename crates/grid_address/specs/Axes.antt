-- A coordinate of a reference.
use Rattle.std.specs.Prelude.{ℕ, ◌+◌, ◌-◌, ◌%◌, nat_le, Bool, true, false, if◌then◌else◌}
use Rattle.grid_address.specs.declared.reference.Axis.{Axis}
use Rattle.grid_address.specs.declared.reference.Axis.TheVariants.{Fixed, Offset}

-- the number of a coordinate, absolute or an offset
abbrev pub number_of : Axis → ℕ
number_of (Fixed n) = n
number_of (Offset n) = n

-- whether a part of a reference names a row or a column itself, as `$` tells
abbrev pub is_fixed : Axis → Bool
is_fixed (Fixed n) = true
is_fixed (Offset n) = false

-- the number that a coordinate names, from where it stands, among so many
abbrev pub resolved : Axis → ℕ → ℕ → ℕ
resolved (Fixed n) at count = n
resolved (Offset n) at count = (at + n) % count

-- the coordinate that names a number from where it stands, among so many
abbrev pub axis_to : Bool → ℕ → ℕ → ℕ → Axis
axis_to true target at count = Fixed target
axis_to false target at count = if nat_le at target then Offset (target - at) else Offset (target + count - at)

-- a reference: for column and row either the number itself or how far it lies from the formula's cell
pub record Reference : Type 0 where
  pub col : Axis
  pub row : Axis
