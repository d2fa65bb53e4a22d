-- What the scenarios of a table come to.
use Rattle.std.specs.Prelude.{ℕ, ◌≡◌, refl, List, [], ◌∷◌, ◌++◌, map}
use Rattle.std.proofs.Common.{ap, append_assoc, subst, sym, ◌∙◌}
use Rattle.std.proofs.lemmas.List.{append-nil}
use Rattle.commands_data.specs.inner.Held.{shown, HasDone, HasGivenBack, HasTried}
use Rattle.commands_data.specs.Trying.{answers_of, contents_of, entered, tabled, all_tried, tried, value_in}
use Rattle.commands_data.specs.Trying.{values_after, written_out}
use Rattle.commands_data.specs.declared.bench.TableBench.{TableBench}
use Rattle.data_blocks.specs.Benches as bench
use Rattle.data_blocks.specs.Benches.{values_on, IsTable}
use Rattle.data_blocks.specs.Tables.{after_trials, after_scenarios, answer_written, scenarios_written, Trial, Scenario}
use Rattle.formula_parts.specs.declared.look.Scene.{Scene}
use Rattle.formula_eval.specs.declared.meaning.Tally.{Tally}
use Rattle.formula_tree.specs.declared.value.Value.{Value}
use Rattle.grid_address.specs.Place.{Place}
use Rattle.sheet_store.specs.declared.writes.Write.{Write}
use Rattle.work_sheet.proofs.Done.{did_both}
use Rattle.work_sheet.specs.Did.{Did}
use Rattle.work_sheet.specs.Doing.{and_then, quiet, Done}
use Rattle.work_sheet.specs.Seen.{of_worksheet, Sheet}
use Rattle.work_sheet.specs.Sheets.{Worksheet}

-- nothing was done yet
pub none_done : (a : TableBench) → HasDone (quiet (of_worksheet a.sheet.now)) a a
none_done a = record {
  sheet = refl;
  tally = refl;
  scene = refl;
  kept = refl;
  did = record { sheet = refl; work = refl; history = refl };
}

-- one act behind another
pub done_then : (d : Done) (act : Sheet → Done) (a b c : TableBench) → HasDone d a b
    → HasDone (act (of_worksheet b.sheet.now)) b c → HasDone (and_then d act) a c
done_then d act a b c h k = record {
  sheet = k.sheet ∙ h.sheet;
  tally = k.tally ∙ h.tally;
  scene = k.scene ∙ h.scene;
  kept = k.kept ∙ h.kept;
  did =
      did_both d act a.sheet.now b.sheet.now c.sheet.now a.tally.now.count b.tally.now.count c.tally.now.count h.did
      k.did;
}

-- an input was tried behind what was done so far
tried_then : (t : Trial) (d : Done) (a b c : TableBench) → HasDone d a b → HasTried t b c
    → HasDone (tried a.scene t d) a c
tried_then t d a b c h k = done_then d (entered a.scene t) a b c h
    (subst (λ (s : Scene). HasDone (entered s t (of_worksheet b.sheet.now)) b c) h.scene k)

-- so were some inputs
trials_then : (ts : List Trial) (d : Done) (a b c : TableBench) → HasDone d a b → bench.HasTried HasTried ts b c
    → HasDone (after_trials (tried a.scene) ts d) a c
trials_then [] d a b c h e = subst (λ (x : TableBench). HasDone d a x) (sym e) h
trials_then (t ∷ ts) d a b c h k = trials_then ts (tried a.scene t d) a k.0 c (tried_then t d a b k.0 h k.1) k.2

-- the values that are seen are those of what was done
same_values : (d : Done) (a b : TableBench) → HasDone d a b → values_on (shown b) ≡ values_after d
same_values d a b h = ap value_in h.did.sheet

-- scenarios were tried
pub scenarios_then : (ts : List Scenario) (d : Done) (a b c : TableBench) (ws vs : List Write) → HasDone d a b
    → bench.HasTaken shown HasTried ts b ws c vs →
    HasDone (after_scenarios (tried a.scene) ts d) a c
    × (vs ≡ ws ++ scenarios_written (tried a.scene) values_after ts d)
scenarios_then [] d a b c ws vs h k = (subst (λ (x : TableBench). HasDone d a x) (sym k.0) h, k.1 ∙ sym (append-nil ws))
scenarios_then (t ∷ ts) d a b c ws vs h k =
    let next : Done = after_trials (tried a.scene) t.trials d in
    let now : HasDone next a k.0 = trials_then t.trials d a b k.0 h k.1 in
    let rest =
    scenarios_then ts next a k.0 c (ws ++ map (answer_written (values_on (shown k.0))) t.answers) vs now k.2 in
    let more : List Write = scenarios_written (tried a.scene) values_after ts next in (
      rest.0,
      rest.1 ∙ ap (λ (f : Place → Value). (ws ++ map (answer_written f) t.answers) ++ more) (same_values next a k.0 now)
          ∙ append_assoc ws (map (answer_written (values_after next)) t.answers) more,
    )

-- a table's scenarios were tried, and its input cells got back what they held
pub table_taken : (inputs : List Place) (ts : List Scenario) (a c : TableBench) (ws : List Write)
    → IsTable shown HasTried HasGivenBack ts a c ws →
    a.kept.now ≡ contents_of inputs (of_worksheet a.sheet.now) →
    HasDone (all_tried a.scene inputs ts (of_worksheet a.sheet.now)) a c
    × (ws ≡ answers_of a.scene ts (of_worksheet a.sheet.now))
table_taken inputs ts a c ws h kept =
    let s : Sheet = of_worksheet a.sheet.now in
    let turned = scenarios_then ts (quiet s) a a h.0 [] ws (none_done a) h.1 in
    let back : HasDone (written_out a.scene (contents_of inputs s) (of_worksheet h.0.sheet.now)) h.0 c =
    subst (λ (w : List Write). HasDone (written_out a.scene w (of_worksheet h.0.sheet.now)) h.0 c)
    (turned.0.kept ∙ kept)
    (subst (λ (m : Scene). HasDone (written_out m h.0.kept.now (of_worksheet h.0.sheet.now)) h.0 c) turned.0.scene
    h.2) in (
      done_then (after_scenarios (tried a.scene) ts (quiet s)) (written_out a.scene (contents_of inputs s)) a h.0 c
          turned.0 back,
      turned.1,
    )

-- the answers were written behind that, on the sheet that came back from the bench
pub table_written : (inputs : List Place) (ts : List Scenario) (scene : Scene) (a c x d : Worksheet) (ws : List Write)
    (m : ℕ) (t u : Tally) (o : ℕ) →
    Did (all_tried scene inputs ts (of_worksheet a)) a c m t.count → ws ≡ answers_of scene ts (of_worksheet a) → x ≡ c
    → u ≡ t →
    Did (written_out scene ws (of_worksheet x)) x d u.count o → Did (tabled scene inputs ts (of_worksheet a)) a d m o
table_written inputs ts scene a c x d ws m t u o taken_so are sheet tally written_so =
    let s : Sheet = of_worksheet a in
    did_both (all_tried scene inputs ts s) (written_out scene (answers_of scene ts s)) a c d m t.count o taken_so
    (subst (λ (v : List Write). Did (written_out scene v (of_worksheet c)) c d t.count o) are
    (subst (λ (k : Tally). Did (written_out scene ws (of_worksheet c)) c d k.count o) tally
    (subst (λ (y : Worksheet). Did (written_out scene ws (of_worksheet y)) y d u.count o) sheet written_so)))
