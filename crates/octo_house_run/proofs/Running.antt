-- How a run begins, goes on and ends.
use Rattle.std.proofs.Common.{◌≡◌, ℕ, ◌≤◌, true, false, List, [], ◌∷◌, Option, Some, None, refl, sym, ap, subst, ◌∙◌, arith}
use Rattle.std.proofs.lemmas.Bool.{false≢true}
use Rattle.octo_outside.specs.Recorded.{Became, Adds}
use Rattle.octo_outside.proofs.Recorded.{became_then, became_same, became_so}
use Rattle.octo_keeper.specs.declared.shelf.ShelfFile.{ShelfFile}
use Rattle.print_queue.specs.declared.ending.Ending.{Ending}
use Rattle.job_desk.specs.Data.{Data}
use Rattle.job_desk.specs.declared.issued.Note.{Note}
use Rattle.octo_asks.specs.History.{History}
use Rattle.octo_asks.specs.declared.entry.Entry.TheVariants as entry
use Rattle.octo_house_rules.specs.Legal.{Standing}
use Rattle.octo_house_rules.specs.Walks.{Walks}
use Rattle.octo_house_run_proof.proofs.Called.{stands_closed}
use Rattle.octo_house_run_proof.proofs.Walking.{walks_none, walks_one, walks_then}
use Rattle.octo_house.specs.declared.house.House.{House}
use Rattle.octo_house.specs.State.{known_of, session_of}
use Rattle.octo_house.specs.Turned.{Turns}
use Rattle.octo_house_run.specs.declared.tally.Asked.{Asked}
use Rattle.octo_house_run.specs.declared.tally.Tally.{Tally}
use Rattle.octo_house_run.specs.Runs.{stands_with, begins, RunIsOver, Leads, IsFresh, IsOver}
use Rattle.octo_house_run.specs.Tallies.{tally_of, AreOf, tally_after, is_over}
use Rattle.octo_house_run.proofs.Noting.{Knows}
use Rattle.octo_house_run.proofs.Tallying.{tally_grows, tally_over}

-- a host that begins
pub begin_walks : (house : House) (past : Option History) (files : Option (List ShelfFile)) → IsFresh (session_of house)
    → Walks past past files files (begins house) (stands_with house 0)
begin_walks house past files fresh =
    walks_none past past files files (begins house) (stands_with house 0) refl refl
    (λ held s is. subst (λ (t : Standing). stands_with house 0 held t) (sym is) (record {
      window = refl;
      limit = refl;
      known_is = refl;
      desk = refl;
      sound = fresh.sound;
      files_are = refl;
      up = sym fresh.down;
      ready = λ up. absurd (false≢true (sym fresh.down ∙ up));
      patient = λ up. absurd (false≢true (sym fresh.down ∙ up));
      raised = omega arith;
      moment_is = omega arith;
      closed_is = refl;
    }))

-- a round: asks are answered, and then a turn is taken
pub walks_round : (first before mid after : Option History) (start was held : Option (List ShelfFile)) (host old asked new : House) (at moment : ℕ)
    → at ≤ moment → Walks first before start was (begins host) (stands_with old at) → Leads before mid was held moment old asked
    → Walks mid after held held (stands_with asked moment) (stands_with new moment) → Walks first after start held (begins host) (stands_with new moment)
walks_round first before mid after start was held host old asked new at moment below led answers turns =
    walks_then first mid after start held held (begins host) (stands_with asked moment) (stands_with new moment)
    (walks_then first before mid start was held (begins host) (stands_with old at) (stands_with asked moment) led (answers at below)) turns

-- the end
pub end_walks : (house : House) (past past' : Option History) (files : Option (List ShelfFile)) (moment : ℕ) → Adds past past' (entry.Close ∷ [])
    → Walks past past' files files (stands_with house moment) (RunIsOver house)
end_walks house past past' files moment adds =
    walks_one past past' files files (stands_with house moment) (RunIsOver house) entry.Close adds
    (λ was was_is. (
      was,
      was_is,
      λ s at. (at.closed_is, (moment, stands_closed s (known_of house) (session_of house) was moment at)),
    ))

-- what the host knows after a turn
pub knows_of : (moment : ℕ) (note : Option Note) (ending : Option Ending) (old new : House) → Turns moment note ending old new
    → Knows moment note ending (session_of old) (session_of new) (known_of old) (known_of new)
knows_of moment None ending old new q = (q.desk, q.known)
knows_of moment (Some note) ending old new is = is

-- what was counted goes on
pub tally_then : (past mid past' : Option History) (asked : Option Asked) (t : Tally) → Became past mid (λ _ added. tally_of added ≡ t)
    → Became mid past' (λ _ added. AreOf asked added) → Became past past' (λ _ added. tally_of added ≡ tally_after asked t)
tally_then past mid past' asked t first second =
    became_then past mid past' (λ _ added. tally_of added ≡ t) (λ _ added. AreOf asked added) (λ _ added. tally_of added ≡ tally_after asked t) first second
    (λ old added more is of. tally_grows asked added more of ∙ ap (λ (u : Tally). tally_after asked u) is)

pub no_entry : (past : Option History) → Became past past (λ _ added. tally_of added ≡ record { calls = 0; leaves = 0; is_shut = false })
no_entry past = became_same past (λ _ added. tally_of added ≡ record { calls = 0; leaves = 0; is_shut = false }) (λ old. refl)

close_counts : AreOf None (entry.Close ∷ [])
close_counts = record { calls = refl; leaves = refl; shut = refl }

-- why a run was over when it ended
pub over_by : (past mid past' : Option History) (t : Tally) (d : Data) → Became past mid (λ _ added. tally_of added ≡ t) → Adds mid past' (entry.Close ∷ [])
    → is_over t d ≡ true → Became past past' (λ _ added. IsOver t.calls d.active added)
over_by past mid past' t d first adds over =
    let closed : Became mid past' (λ _ added. AreOf None added) =
    became_so mid past' _ (λ _ added. AreOf None added) adds (λ old added is. subst (λ (h : History). AreOf None h) (sym is) close_counts) in
    became_so past past' (λ _ added. tally_of added ≡ t) (λ _ added. IsOver t.calls d.active added) (tally_then past mid past' None t first closed)
    (λ old added is. record { calls_are = sym (ap (λ (u : Tally). u.calls) is); why = tally_over added t d is over })
