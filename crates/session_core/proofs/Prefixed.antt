-- Labels and their prefixes.
use Rattle.std.proofs.Common.{ℕ, suc, ◌<◌, List, [], ◌∷◌, length, drop, arith}
use Rattle.lics_text.specs.Bytes.{IsText}

-- what stands behind the first byte of a text is one
pub behind_prefix : (text : List ℕ) → 0 < length text → IsText text → IsText (drop 1 text)
behind_prefix [] some is = absurd (omega (arith, some))
behind_prefix (b ∷ bs) some is = (omega (arith, is.0), λ k d h. is.1 (suc k) d (omega (arith, h)))
