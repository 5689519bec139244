use Rattle.serve_tests.proofs.Suited.{suits_any}
use Rattle.serve_tests.proofs.tests.commands.Bench.carry_out.Goals as goal

pub octo-requires-clause-suits : goal.octo-requires-clause-suits
octo-requires-clause-suits g c κs lives past is asked named s made = suits_any s.numbered_oks _ c.requires.plain c.requires.numbered

pub octo-requires-clause-links_suit : goal.octo-requires-clause-links_suit
octo-requires-clause-links_suit g c κs lives asked named s made =
    let p = c.requires.floor_plain in
    let n = c.requires.floor_numbered in
    record {
      a = λ past is. suits_any s.settings.numbered_oks _ p.a n.a;
      b = λ past is. suits_any s.settings.numbered_oks _ p.b n.b;
      c = λ past is. suits_any s.settings.numbered_oks _ p.c n.c;
      d = λ past is. suits_any s.settings.numbered_oks _ p.d n.d;
      e = λ past is. suits_any s.settings.numbered_oks _ p.e n.e;
      f = λ past is. suits_any s.settings.numbered_oks _ p.f n.f;
      g = λ past is. suits_any s.settings.numbered_oks _ p.g n.g;
      h = λ past is. suits_any s.settings.numbered_oks _ p.h n.h;
    }
