-- The steps of a print on its desk, and what a whole run of them comes to.
use Rattle.std.specs.Prelude.{◌≡◌, ◌⊎◌, ℕ, Bool, false, List, [], ◌∷◌, ◌++◌, Option, None, Some}
use Rattle.temp_rules.specs.declared.limits.Limits.{Limits}
use Rattle.temp_rules.specs.Hot.{first_hot_of}
use Rattle.job_desk.specs.Data.{Data, File, Line, ScriptTexts, new_desk}
use Rattle.job_desk.specs.Table.{connect_at, select_at, start_at, disconnect_at}
use Rattle.job_desk.specs.Pull.{Drawn, pull_step}
use Rattle.job_desk.specs.Note.{note_step}
use Rattle.job_desk.specs.declared.state.State.TheVariants.{Offline, Operational}
use Rattle.job_desk.specs.declared.state.Tag.TheVariants.{Poll}
use Rattle.job_desk.specs.declared.link_fact.LinkFact.{LinkFact}
use Rattle.job_desk.specs.declared.link_fact.LinkFact.TheVariants as fact
use Rattle.octo_session_print.specs.Plan.{PrintData, print_commands}
use Rattle.octo_session.specs.Plan.{plan, WeavesPart}
use Rattle.octo_session_print.specs.Underway.{IsLast, Suits, IsWhole, EndsAs}

-- the texts after a pull that returned this
abbrev pub after_pull : Option Line → List (List ℕ) → List (List ℕ)
after_pull None issued = issued
after_pull (Some line) issued = issued ++ line.text ∷ []

-- the texts after a note of this fact: a connection that is made begins with none
abbrev pub after_fact : LinkFact → List (List ℕ) → List (List ℕ)
after_fact fact.Quiet issued = issued
after_fact fact.Opened issued = []
after_fact fact.Ready issued = issued
after_fact fact.Closed issued = issued
after_fact fact.NoPort issued = issued
after_fact fact.Failed issued = issued
after_fact (fact.Ended end) issued = issued

-- a line that is pulled after the end of the print
abbrev pub IsLate : Drawn → Type 0
IsLate drawn = (line : Line) → drawn.0 ≡ Some line → (line.tag ≡ Poll) ⊎ IsLast line

-- a desk that connects to a port, and on which a file is selected
abbrev pub after_select : List ℕ → File → Data → Data
after_select port file d = let connected = (connect_at d.state port d).1 in (select_at connected.state file connected).1

-- a step of a print on its desk
pub data PrintStep : Type 0 where
  -- a note: how many lines are acknowledged, the fact, and the moment
  Note : ℕ → LinkFact → ℕ → PrintStep
  -- a pull at a moment
  Pull : ℕ → PrintStep
  -- the start of print 1, and the end of its connection
  Start : PrintStep
  Disconnect : PrintStep

-- a print's desk, and the texts that were issued over its connection
pub record Progress : Type 0 where
  pub desk : Data
  pub issued : List (List ℕ)

-- a print after a step
abbrev pub after : PrintStep → Progress → Progress
after (Note acked found moment) x = record { desk = (note_step acked found moment x.desk).1; issued = after_fact found x.issued }
after (Pull moment) x = record { desk = (pull_step moment x.desk).1; issued = after_pull (pull_step moment x.desk).0 x.issued }
after Start x = record { desk = (start_at x.desk.state 1 x.desk).1; issued = x.issued }
after Disconnect x = record { desk = disconnect_at x.desk.state x.desk; issued = x.issued }

-- the print starts as soon as the connection is ready, and disconnects only once it's over
abbrev pub MayTake : PrintStep → Data → Type 0
MayTake (Note acked found moment) d = Suits found acked d
MayTake (Pull moment) d = Unit {0}
MayTake Start d = (d.state ≡ Operational) × (d.greatest ≡ 0)
MayTake Disconnect d = (d.state ≡ Operational) × (d.greatest ≡ 1)

-- these steps, in order
abbrev pub after_all : List PrintStep → Progress → Progress
after_all [] x = x
after_all (step ∷ steps) x = after_all steps (after step x)

-- each of these steps may be taken when its turn comes
abbrev pub MayTakeAll : List PrintStep → Progress → Type 0
MayTakeAll [] x = Unit {0}
MayTakeAll (step ∷ steps) x = MayTake step x.desk × MayTakeAll steps (after step x)

-- what was issued follows the plan, and so does what comes next
pub record FollowsPlan (p : PrintData) (x : Progress) : Type 0 where
  pub part : WeavesPart p.numbered x.issued (plan p.scripts (print_commands p))
  -- the desk is offline again only after the whole plan
  pub whole : x.desk.state ≡ Offline → IsWhole p x.desk x.issued
  -- an ending says what was issued
  pub ends : (acked : ℕ) (found : LinkFact) (moment : ℕ) → Suits found acked x.desk
      → EndsAs p (note_step acked found moment x.desk).0 (note_step acked found moment x.desk).1.state (after_fact found x.issued)
  -- once the print is over, only the Disconnect script and polls are issued
  pub late : x.desk.active ≡ false → x.desk.greatest ≡ 1 → (moment : ℕ) → IsLate (pull_step moment x.desk)

-- the law: whatever the facts and their order
abbrev pub EveryPrintFollowsItsPlan : Type 0
EveryPrintFollowsItsPlan =
    (scripts : ScriptTexts) (limits : Limits) (poll_ms : ℕ) (numbered : Bool) (port : List ℕ) (file : File) (steps : List PrintStep) →
    let start : Progress = record { desk = after_select port file (new_desk scripts limits poll_ms numbered); issued = [] } in
    first_hot_of limits file.job.commands ≡ None → MayTakeAll steps start →
    FollowsPlan (record { numbered = numbered; scripts = scripts; limits = limits; file = file }) (after_all steps start)
