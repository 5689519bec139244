-- What a run counts of its history.
use Rattle.std.specs.Prelude.{◌≡◌, ℕ, ◌+◌, Bool, false, ◌||◌, ◌&&◌, not, nat_lt, min, Option, Some, None}
use Rattle.octo_outside.specs.Recorded.{last_count}
use Rattle.job_desk.specs.Data.{Data}
use Rattle.octo_asks.specs.History.{History}
use Rattle.octo_house_rules.specs.Counted.{calls_made, leaves_made, is_shut}
use Rattle.octo_house_run.specs.declared.tally.Asked.{Asked}
use Rattle.octo_house_run.specs.declared.tally.Tally.{Tally}
use Rattle.octo_house_run_proof.specs.Rounds.{one_if}

-- a number as a run counts it
abbrev pub counted : ℕ → ℕ
counted n = min n last_count

abbrev pub no_tally : Tally
no_tally = record { calls = 0; leaves = 0; is_shut = false }

-- the tally of a history
abbrev pub tally_of : History → Tally
tally_of h = record { calls = counted (calls_made h); leaves = counted (leaves_made h); is_shut = is_shut h }

abbrev pub leaves_by : Option Asked → ℕ
leaves_by None = 0
leaves_by (Some asked) = one_if asked.is_leave

abbrev pub calls_by : Option Asked → ℕ
calls_by None = 0
calls_by (Some asked) = one_if asked.is_counted

abbrev pub shut_by : Option Asked → Bool
shut_by None = false
shut_by (Some asked) = asked.is_shutdown

-- entries of one answered ask, or of none
pub record AreOf (asked : Option Asked) (added : History) : Type 0 where
  pub calls : calls_made added ≡ calls_by asked
  pub leaves : leaves_made added ≡ leaves_by asked
  pub shut : is_shut added ≡ shut_by asked

-- the tally after an answered ask, or after none
abbrev pub tally_after : Option Asked → Tally → Tally
tally_after None t = t
tally_after (Some asked) t = record {
  calls = counted (t.calls + one_if asked.is_counted);
  leaves = counted (t.leaves + one_if asked.is_leave);
  is_shut = t.is_shut || asked.is_shutdown;
}

-- whether a run is over: a shutdown was accepted, or four workers have left and no print is active
abbrev pub is_over : Tally → Data → Bool
is_over t d = t.is_shut || (nat_lt 3 t.leaves && not d.active)
