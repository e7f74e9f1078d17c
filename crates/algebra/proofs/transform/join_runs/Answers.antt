-- `join_runs` meets its contract: after q turns the first q runs are joined.
use Rattle.algebra.proofs.transform.Runs.{run-more}
use Rattle.algebra.proofs.transform.join_runs.Goals as goal

pub loop-q-preserved : goal.loop-q-preserved
loop-q-preserved g c = run-more _ _ _ _ _ _ _ _ c.requires.1.apart c.loop-q-test.true c.loop-q.invariant c.join_run.ensures
