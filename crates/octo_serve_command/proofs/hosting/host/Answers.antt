use Rattle.std.proofs.Common.{ap, refl, arith}
use Rattle.octo_serve_command.specs.Hosting.{by_settings}
use Rattle.octo_serve_command.specs.declared.hosting.HostEnd.{HostEnd}
use Rattle.octo_serve_command.proofs.Serving.{without_settings}
use Rattle.octo_serve_command.proofs.hosting.host.Goals as goal

pub returns-in-Ok-clause-hosts : goal.returns-in-Ok-clause-hosts
returns-in-Ok-clause-hosts g c = by_settings c.in-Ok.settings _ _ c.in-Ok.ensures.exact c.serve_by.ensures.serves

pub returns-in-Err-clause-hosts : goal.returns-in-Err-clause-hosts
returns-in-Err-clause-hosts g c =
    without_settings _ _ _ _ c.in-Err.report _ _ (ap (λ (h : HostEnd). h.report) c.unserved.ensures) (ap (λ (h : HostEnd). h.history) c.unserved.ensures) c.in-Err.ensures.exact (record {
      link = refl;
      moment = refl;
      tables = refl;
      files = refl;
      doors = refl;
      later = record { link = omega arith; keeper = omega arith; shelf = omega arith };
    })

pub serve_by-requires-clause-suits : goal.serve_by-requires-clause-suits
serve_by-requires-clause-suits g c κs lives = c.requires.suits c.in-Ok.settings c.in-Ok.ensures.exact
