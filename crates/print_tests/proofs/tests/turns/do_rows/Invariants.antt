use Rattle.std.proofs.Common.{◌≡◌}
use Rattle.print_tests.proofs.tests.turns.do_rows.Given as goal

abbrev pub invariant-loop-row : goal.invariant-loop-row
invariant-loop-row g l = l.session.desk.greatest ≡ l.initial.session.desk.greatest
