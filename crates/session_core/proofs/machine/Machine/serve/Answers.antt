use Rattle.std.proofs.Common.{rules}
use Rattle.list_lemmas.proofs.Results.{on_err_always}
use Rattle.session_core.proofs.Breaking.{served_broken, word_breaks}
use Rattle.session_core.proofs.TextFiles.{on_ok_map, served_over}
use Rattle.session_core.proofs.machine.Machine.serve.Goals as goal

-- what the word came to leads on
pub returns-clause-ok : goal.returns-clause-ok
returns-clause-ok g c =
    on_ok_map c.do_served.result
    (λ l. served_over c.args.deed c.args.now.now c.args.self.now _ c.do_served.new.self c.scene-scene.result _
    c.self.inside.channel _ _ _
    c.scene-scene.ensures (search rules) (search rules) (search rules) c.in_ok-served.ensures.served l)
    c.do_served.ensures

-- memory ran out in the word
pub returns-in_err-served-clause-memory : goal.returns-in_err-served-clause-memory
returns-in_err-served-clause-memory g c =
    on_err_always _
    (word_breaks c.args.deed c.args.now.now c.args.self.now.state c.self.inside.channel _ _ (search rules)
    c.in_err-served.ensures.memory)

-- it ran out behind the word, whose calls were made
pub returns-clause-memory : goal.returns-clause-memory
returns-clause-memory g c =
    on_err_always c.do_served.result
    (word_breaks c.args.deed c.args.now.now c.args.self.now.state c.self.inside.channel _ _ (search rules)
    (served_broken c.args.deed _ c.self.inside.channel _ _ _ c.in_ok-served.ensures.served))
