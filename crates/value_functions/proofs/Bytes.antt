-- A pattern and a text, one byte at a time.
use Rattle.std.proofs.Common.{◌≡◌, ℕ, ◌≤◌, List, [], length, drop, ap, ◌∙◌, arith}
use Rattle.std.specs.Prelude.{◌==◌, Bool, true, false}
use Rattle.std.proofs.lemmas.List.{drop_all, drop_more}
use Rattle.std.proofs.lemmas.Bool.Decides.{nat_tests}
use Rattle.value_functions.specs.Patterns.{is_like}

-- where the pattern ends, the text is like it if it ends there too
pub at_both : (pattern text : List ℕ) (i : ℕ) (c : Bool) → length pattern ≤ i → i ≤ length text
    → (i == length text) ≡ c → is_like (drop i pattern) (drop i text) ≡ c
at_both pattern text i true past inside same =
    ap (λ l. is_like l (drop i text)) (drop_all i pattern past)
    ∙ ap (is_like []) (drop_all i text (grind (arith, nat_tests, same)))
at_both pattern text i false past inside same =
    ap (λ l. is_like l (drop i text)) (drop_all i pattern past)
    ∙ ap (is_like []) (drop_more text i 0 (grind (arith, nat_tests, same, inside)))
