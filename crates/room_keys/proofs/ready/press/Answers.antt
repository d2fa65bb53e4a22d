use Rattle.std.proofs.Common.{refl}
use Rattle.room_keys.proofs.ready.press.Goals as goal

-- named, so that a key that starts no macro is refused at once
pub returns-in-Alt : goal.returns-in-Alt
returns-in-Alt c = rw c.in-Alt.is refl
