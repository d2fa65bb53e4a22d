use Rattle.list_lemmas.proofs.Results.{on_err_always}
use Rattle.commands_file.proofs.Broken.{none_over}
use Rattle.commands_file.specs.Calls.{failed}
use Rattle.file_words.proofs.serving.serve.Goals as goal

-- no call was made of the shelf
pub returns-in_err-read-in-Read-clause-memory : goal.returns-in_err-read-in-Read-clause-memory
returns-in_err-read-in-Read-clause-memory g c = on_err_always _ (none_over _ (failed, failed) _)

pub returns-in_err-read_line-in-ReadLine-clause-memory : goal.returns-in_err-read_line-in-ReadLine-clause-memory
returns-in_err-read_line-in-ReadLine-clause-memory g c = on_err_always _ (none_over _ (failed, failed) _)

pub returns-in_err-write-in-Write-clause-memory : goal.returns-in_err-write-in-Write-clause-memory
returns-in_err-write-in-Write-clause-memory g c = on_err_always _ (none_over _ (failed, failed) _)

pub returns-in_err-write_line-in-WriteLine-clause-memory : goal.returns-in_err-write_line-in-WriteLine-clause-memory
returns-in_err-write_line-in-WriteLine-clause-memory g c = on_err_always _ (none_over _ (failed, failed) _)

pub returns-in_err-puts_number-in-Size-clause-memory : goal.returns-in_err-puts_number-in-Size-clause-memory
returns-in_err-puts_number-in-Size-clause-memory g c = on_err_always _ (none_over _ (failed, failed) _)

pub returns-in_err-puts_number-in-Position-clause-memory : goal.returns-in_err-puts_number-in-Position-clause-memory
returns-in_err-puts_number-in-Position-clause-memory g c = on_err_always _ (none_over _ (failed, failed) _)
