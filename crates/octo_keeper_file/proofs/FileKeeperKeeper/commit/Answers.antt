use Rattle.std.proofs.Common.{refl}
use Rattle.octo_keeper_file.proofs.Unrecorded.{if_ok, if_err}
use Rattle.octo_keeper_file.proofs.FileKeeperKeeper.commit.Goals as goal

pub returns-clause-commits : goal.returns-clause-commits
returns-clause-commits c = record {
  ok = if_ok c.commit.result refl;
  err = if_err c.commit.result refl;
  counts = c.commit.ensures.counts;
  steady = c.commit.ensures.steady;
}
