use Rattle.floor_command_tests.proofs.Suited.{suits_any}
use Rattle.floor_command_tests.proofs.tests.bench.Bench.carry_out.Goals as goal

pub octo-status-requires-clause-suits : goal.octo-status-requires-clause-suits
octo-status-requires-clause-suits g c κs lives past is asked named s made = suits_any s.numbered_oks _ c.requires.plain c.requires.numbered

pub octo-status-requires-clause-links_suit : goal.octo-status-requires-clause-links_suit
octo-status-requires-clause-links_suit g c κs lives asked named s made =
    let p = c.requires.links_plain in
    let n = c.requires.links_numbered in
    record {
      a = λ past is. suits_any s.settings.numbered_oks _ p.a n.a;
      b = λ past is. suits_any s.settings.numbered_oks _ p.b n.b;
      c = λ past is. suits_any s.settings.numbered_oks _ p.c n.c;
      d = λ past is. suits_any s.settings.numbered_oks _ p.d n.d;
      e = λ past is. suits_any s.settings.numbered_oks _ p.e n.e;
      f = λ past is. suits_any s.settings.numbered_oks _ p.f n.f;
      g = λ past is. suits_any s.settings.numbered_oks _ p.g n.g;
      h = λ past is. suits_any s.settings.numbered_oks _ p.h n.h;
    }
