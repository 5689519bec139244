use Rattle.std.proofs.Common.{◌≡◌, false, None}
use Rattle.octo_serve.specs.Ends.{house_place}
use Rattle.serve_tests.proofs.tests.handing.answer_all.Given as goal

-- every ask that was taken is answered, and the host runs
abbrev pub invariant-loop : goal.invariant-loop
invariant-loop g l = (l.house.view.taken ≡ None) × (l.house.view.closed ≡ false) × (house_place l.house ≡ house_place l.initial.house)
