use Rattle.session_core.specs.Machine.{afresh, scene_at}
use Rattle.session_core.specs.Step.{event_taken}
use Rattle.session_core.proofs.Remembering.{none_at_rest}
use Rattle.session_core.proofs.laws.no_command_is_begun_in_ready.Goals as goal

pub returns : goal.returns
returns c event now replies changed s rest =
    none_at_rest changed (event_taken event replies (scene_at s now) (afresh s)).state rest
