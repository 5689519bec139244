use Rattle.std.proofs.Common.{inl, inr, subst, refl, Ok, Err}
use Rattle.octo_commands_print.specs.Printing.{HaveJob, no_settings, no_job, both}
use Rattle.octo_commands_print.proofs.print.print_file.Goals as goal

pub returns-in-Err-clause-print : goal.returns-in-Err-clause-print
returns-in-Err-clause-print g c = record {
  found = Err c.in-Err.report;
  reads = no_settings c.in-Err.report (inl (c.in-Err.report, c.in-Err.ensures.exact, refl));
  follows = record { is = refl; unused = refl };
}

pub returns-in-Err-settings_for-clause-print : goal.returns-in-Err-settings_for-clause-print
returns-in-Err-settings_for-clause-print g c =
    let r = c.in-Err-settings_for.report in record {
      found = Err r;
      reads = no_settings r (inr (c.in-Ok.settings, c.in-Ok.ensures.exact, c.in-Err-settings_for.ensures.exact));
      follows = record { is = refl; unused = refl };
    }

pub print_job-requires-clause-suits : goal.print_job-requires-clause-suits
print_job-requires-clause-suits g c =
    c.requires.suits c.in-Ok-settings_for.settings (inr (c.in-Ok.settings, c.in-Ok.ensures.exact, c.in-Ok-settings_for.ensures.exact))

pub returns-in-Ok-read_job-clause-print : goal.returns-in-Ok-read_job-clause-print
returns-in-Ok-read_job-clause-print g c =
    let s = c.in-Ok-settings_for.settings in
    let job = c.in-Ok-read_job.job in record {
      found = Ok (s, job);
      reads =
          both s job (inr (c.in-Ok.settings, c.in-Ok.ensures.exact, c.in-Ok-settings_for.ensures.exact))
          (subst (λ files. HaveJob files c.args.file.now s.limits (Ok job)) c.in-Ok.ensures.files c.in-Ok-read_job.ensures.exact);
      follows = c.print_job.ensures.run;
    }

pub returns-in-Err-read_job-clause-print : goal.returns-in-Err-read_job-clause-print
returns-in-Err-read_job-clause-print g c =
    let s = c.in-Ok-settings_for.settings in
    let r = c.in-Err-read_job.report in record {
      found = Err r;
      reads =
          no_job s r (inr (c.in-Ok.settings, c.in-Ok.ensures.exact, c.in-Ok-settings_for.ensures.exact))
          (subst (λ files. HaveJob files c.args.file.now s.limits (Err r)) c.in-Ok.ensures.files c.in-Err-read_job.ensures.exact);
      follows = record { is = refl; unused = refl };
    }
