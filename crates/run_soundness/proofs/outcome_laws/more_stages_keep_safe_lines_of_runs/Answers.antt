use Rattle.run_soundness.proofs.RunStages.{of_words}
use Rattle.run_soundness.proofs.outcome_laws.more_stages_keep_safe_lines_of_runs.Goals as goal

pub returns : goal.returns
returns c = λ words others files w more s t l m differ asks asks_more le outcome other.
    of_words files differ s t l m w more le words others asks asks_more outcome other
