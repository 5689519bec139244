use Rattle.octo_commands_print.proofs.JobLaw.{only_memory}
use Rattle.octo_commands_print.proofs.job.demo_job.Goals as goal

pub no_memory-requires : goal.no_memory-requires
no_memory-requires c =
    only_memory c.args.seed c.args.commands c.in_ok-file.file c.in-Err.fault c.requires c.in_ok-file.ensures (rw c.in-Err.is at c.take_commands.ensures.exact)
