-- The kept states, from the latest on.
use Rattle.std.specs.Prelude.{◌≡◌, ℕ, zero, suc, refl, length, set, take, List, [], ◌∷◌}
use Rattle.std.specs.List.{insert}
use Rattle.std.proofs.Common.{ap, ◌∙◌}
use Rattle.sheet_undo.specs.Histories.{with_kept, Sheet}
use Rattle.sheet_undo.specs.inner.Keeping.{before, columns_or, earlier, names_or, Before}
use Rattle.edit_log.specs.Changes.{with_changes}

-- the states before a sheet hang on its cells, columns and names alone
pub earlier_same : (s t : Sheet) (ds : List Before) → s.grid ≡ t.grid → s.names ≡ t.names → earlier s ds ≡ earlier t ds
earlier_same s t [] g n = refl
earlier_same s t (d ∷ ds) g n =
    let same : before d s ≡ before d t = λ i. record {
      grid = columns_or d.columns (with_changes (g i) d.changes);
      circular = d.circular;
      stale = d.stale;
      names = names_or d.names (n i);
      settings = d.settings;
    } in
    λ i. same i ∷ earlier (same i) ds

-- so many of them
pub earlier_taken : (n : ℕ) (s : Sheet) (ds : List Before) → earlier s (take n ds) ≡ take n (earlier s ds)
earlier_taken zero s ds = refl
earlier_taken (suc n) s [] = refl
earlier_taken (suc n) s (d ∷ ds) = ap (λ l. before d s ∷ l) (earlier_taken n (before d s) ds)

put_front : {X : Type 0} (x : X) (xs : List X) → insert xs 0 x ≡ x ∷ xs
put_front x [] = refl
put_front x (y ∷ ys) = refl

-- a difference that was put in front, and the first one then given its parts
pub put_first : {X : Type 0} (x y : X) (old inserted cut new : List X) → inserted ≡ insert old 0 x
    → cut ≡ take 20 inserted → new ≡ set cut 0 y → new ≡ y ∷ take 19 old
put_first x y old inserted cut new i t n = n ∙ ap (λ l. set l 0 y) (t ∙ ap (take 20) (i ∙ put_front x old))

-- the begun state becomes the latest
pub latest_added : (now b : Sheet) (d : Before) (ds : List Before) → before d now ≡ b
    → earlier now (d ∷ take 19 ds) ≡ with_kept b (earlier b ds)
latest_added now b d ds is = ap (λ s. s ∷ earlier s (take 19 ds)) is ∙ ap (λ l. b ∷ l) (earlier_taken 19 b ds)

-- how many they are
pub earlier_long : (s : Sheet) (ds : List Before) → length (earlier s ds) ≡ length ds
earlier_long s [] = refl
earlier_long s (d ∷ ds) = ap suc (earlier_long (before d s) ds)
