-- How lines of a log join.
use Rattle.std.proofs.Common.{ℕ, ◌<◌, ◌≤◌, ◌^◌, length, decimal, List, ◌++◌, Option, lit<, arith}
use Rattle.std.proofs.lemmas.Fmt.{length-decimal-le}
use Rattle.octo_outside.proofs.Recorded.{became_then, adds_then, steady_before, steady_after}
use Rattle.octo_log.specs.Logged.{Logs}

-- lines one after the other
pub logs_then : (xs ys : List ℕ) (old mid new : Option (List ℕ)) (faults between faults' : ℕ) → Logs xs old mid faults between
    → Logs ys mid new between faults' → Logs (xs ++ ys) old new faults faults'
logs_then xs ys old mid new faults between faults' first second = record {
  grew = became_then old mid new (λ _ _. Unit {0}) (λ _ _. Unit {0}) (λ _ _. Unit {0}) first.grew second.grew (λ past added more one other. tt);
  whole = λ steady. adds_then old mid new xs ys
      (first.whole (steady_before faults between faults' steady first.counted second.counted))
      (second.whole (steady_after faults between faults' steady first.counted second.counted));
  counted = omega (arith, first.counted, second.counted);
}

-- a number of 64 bits has at most 20 digits
pub decimal_short : (n : ℕ) → n < 2 ^ 64 → length (decimal n) ≤ 20
decimal_short n below = length-decimal-le 20 n (lit< tt) (omega arith) below
