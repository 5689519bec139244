-- The rounds of a run, and what is done between them.
use Rattle.std.specs.Prelude.{◌≡◌, ◌⊎◌, ℕ, ◌≤◌, Bool, List, [], ◌∷◌, length}
use Rattle.octo_floor_bay.specs.Events.{FloorHistory}
use Rattle.octo_floor_bay.specs.declared.end.Why.{Why}
use Rattle.octo_floor_bay.specs.declared.end.Why.TheVariants as why
use Rattle.octo_floor.specs.Floor.{Setting}
use Rattle.octo_floor.specs.Points.{GoesOn, LeavesIdle}
use Rattle.octo_floor.specs.Round.{IsRound}
use Rattle.octo_floor.specs.Leaving.{AreIdle, AreDisconnected}
use Rattle.octo_floor.specs.Run.{HaveLeft}

-- a round: the settings before and after it, its moment, whether a line was received, and its events
pub record RoundMade : Type 0 where
  pub before : Setting
  pub after : Setting
  pub moment : ℕ
  pub heard : Bool
  pub events : FloorHistory

-- it was made: each printer did its part, and each that is left without a print had nothing to start
pub record IsMade (r : RoundMade) : Type 0 where
  pub round : IsRound r.moment r.before r.after r.heard r.events
  pub goes : GoesOn r.before r.after r.events
  pub idle : LeavesIdle r.before r.after r.events

-- after a round all stays; or, if no printer goes on or has anything to start, each that isn't lost is disconnected
abbrev pub StaysOrLeaves : Setting → Setting → Type 0
StaysOrLeaves x y = (y ≡ x) ⊎ (AreIdle x.floor × AreDisconnected (length x.floor.bays) x.floor y.floor × (y ≡ record x { floor = y.floor }))

-- the rounds that lead from one setting to another, the last round first
abbrev pub AreRounds : List RoundMade → Setting → Setting → Type 0
AreRounds [] x y = y ≡ x
AreRounds (r ∷ earlier) x y = AreRounds earlier x r.before × IsMade r × StaysOrLeaves r.after y

-- the rounds of a run, at most this number; if its turns are used exactly as many, and unless there are none some printer hasn't left
pub record HasRounds (turns : ℕ) (x y : Setting) (end : Why) : Type 0 where
  pub rounds : List RoundMade
  pub made : AreRounds rounds x y
  pub few : length rounds ≤ turns
  pub used : end ≡ why.TurnsUsed → (length rounds ≡ turns) × ((turns ≡ 0) ⊎ (HaveLeft y.floor → ⊥))
