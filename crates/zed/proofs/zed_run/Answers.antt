-- `zed::zed_run` meets its contract: the run's answer, handed over. Assumes nothing.
use Rattle.zed.proofs.Runs.{handed}
use Rattle.zed.proofs.zed_run.Goals as goal

pub returns : goal.returns
returns c =
    let e = handed _ _ _ _ _ _ _ c.run-a.ensures _ c.from-v.ensures in
    record { number = e.0; answer = e.1.0; journal = e.1.1 }
