-- What a connection and a sink record of a simulation.
use Rattle.std.specs.Prelude.{◌≡◌, ℕ, ◌+◌, ◌<◌, ◌≤◌, List, [], ◌++◌, length, Option, Some}
use Rattle.octo_outside.specs.Recorded.{Adds, AddsPrefix, last_count}
use Rattle.marlin_sim.specs.declared.end.SimEnd.{SimEnd}
use Rattle.marlin_sim.specs.declared.end.SimEnd.TheVariants as end
use Rattle.marlin_sim.specs.declared.plan.SimPlan.{SimPlan}
use Rattle.marlin_sim.specs.declared.serve.Next.{Next}
use Rattle.marlin_sim.specs.declared.serve.Next.TheVariants as next
use Rattle.marlin_sim.specs.Run.{SimWorld, IsRunOf, IsOver, written_text, printed_text}
use Rattle.marlin_sim.specs.Sim.{SimData, FollowsModel, IsIdle}

-- what is left to read of a connection, what was written to it, and what was printed, if recorded
pub record Outside : Type 0 where
  pub left : Option (List ℕ)
  pub wrote : Option (List ℕ)
  pub printed : Option (List ℕ)

-- the same by its parts
abbrev pub outside : Option (List ℕ) → Option (List ℕ) → Option (List ℕ) → Outside
outside left wrote printed = record { left = left; wrote = wrote; printed = printed }

-- a run over the input, of which all was written and printed
pub record IsServed (plan : SimPlan) (input : List ℕ) (first now : Outside) : Type 0 where
  pub w : SimWorld
  pub run : IsRunOf plan input w
  pub wrote : Adds first.wrote now.wrote (written_text plan w)
  pub printed : Adds first.printed now.printed (printed_text w)

-- a run over the whole input, to its end
pub record IsDone (plan : SimPlan) (input : List ℕ) (first now : Outside) : Type 0 where
  pub w : SimWorld
  pub run : IsRunOf plan input w
  pub over : IsOver w
  pub wrote : Adds first.wrote now.wrote (written_text plan w)
  pub printed : Adds first.printed now.printed (printed_text w)

-- a run over the input, of which the first bytes were written and all was printed
pub record IsCutOff (plan : SimPlan) (input : List ℕ) (first now : Outside) : Type 0 where
  pub w : SimWorld
  pub run : IsRunOf plan input w
  pub wrote : AddsPrefix first.wrote now.wrote (written_text plan w)
  pub printed : Adds first.printed now.printed (printed_text w)

-- a run over the input, of which the first bytes were written and printed
pub record IsLost (plan : SimPlan) (input : List ℕ) (first now : Outside) : Type 0 where
  pub w : SimWorld
  pub run : IsRunOf plan input w
  pub wrote : AddsPrefix first.wrote now.wrote (written_text plan w)
  pub printed : AddsPrefix first.printed now.printed (printed_text w)

-- what an end says of the input that the connection recorded
abbrev pub Outcome : SimEnd → SimPlan → List ℕ → Outside → Outside → Type 0
Outcome end.Done plan input first now = IsDone plan input first now
Outcome end.BadPlan plan input first now = now ≡ first
Outcome end.ConnFailed plan input first now = IsCutOff plan input first now
Outcome end.SinkFailed plan input first now = IsLost plan input first now
Outcome (end.TurnsUsed turns) plan input first now = IsServed plan input first now
Outcome end.NoMemory plan input first now = IsCutOff plan input first now

-- a simulator on its way through the input
pub record Serves (plan : SimPlan) (input : List ℕ) (first now : Outside) (s : SimData) : Type 0 where
  pub rest : List ℕ
  pub left : now.left ≡ Some rest
  pub wrote : List ℕ
  pub wrote_is : Adds first.wrote now.wrote wrote
  pub printed : List ℕ
  pub printed_is : Adds first.printed now.printed printed
  pub follows_model : FollowsModel plan input rest s wrote printed

-- and all replies are written
pub record Going (plan : SimPlan) (input : List ℕ) (first now : Outside) (s : SimData) : Type 0 where
  pub serves : Serves plan input first now s
  pub clean : s.replies.text ≡ []

-- the connection failed, or memory ran out; the text is still to be printed
pub record Breaks (plan : SimPlan) (input : List ℕ) (first now : Outside) (s : SimData) : Type 0 where
  pub w : SimWorld
  pub run : IsRunOf plan input w
  pub wrote : AddsPrefix first.wrote now.wrote (written_text plan w)
  pub printed : List ℕ
  pub printed_is : Adds first.printed now.printed printed
  pub text : printed_text w ≡ printed ++ s.text

-- what a step leaves
abbrev pub After : Next → SimPlan → List ℕ → Outside → Outside → SimData → Type 0
After next.On plan input first now s = Going plan input first now s
After next.Over plan input first now s = Going plan input first now s
After next.ConnFailed plan input first now s = Breaks plan input first now s
After next.SinkFailed plan input first now s = IsLost plan input first now
After next.NoMemory plan input first now s = Breaks plan input first now s

-- all was read and done; the text is still to be printed
pub record Finishes (plan : SimPlan) (input : List ℕ) (first now : Outside) (s : SimData) : Type 0 where
  pub going : Going plan input first now s
  pub idle : IsIdle s
  pub all_read : now.left ≡ Some []

-- an end whose text is still to be printed
abbrev pub Ending : SimEnd → SimPlan → List ℕ → Outside → Outside → SimData → Type 0
Ending end.Done plan input first now s = Finishes plan input first now s
Ending end.BadPlan plan input first now s = ⊥
Ending end.ConnFailed plan input first now s = Breaks plan input first now s
Ending end.SinkFailed plan input first now s = IsLost plan input first now
Ending (end.TurnsUsed turns) plan input first now s = Going plan input first now s
Ending end.NoMemory plan input first now s = Breaks plan input first now s

-- the bytes that were read and the reads that found nothing yet are together at least this number, unless the count of these is at its last value
pub record IsUsed (turns : ℕ) (before : List ℕ) (left : Option (List ℕ)) (quiets quiets' : ℕ) : Type 0 where
  pub after : List ℕ
  pub follows : left ≡ Some after
  pub many : quiets' < last_count → turns + length after + quiets ≤ length before + quiets'

-- the exit status
abbrev pub code_of : SimEnd → ℕ
code_of end.Done = 0
code_of end.BadPlan = 2
code_of end.ConnFailed = 12
code_of end.SinkFailed = 8
code_of (end.TurnsUsed turns) = 10
code_of end.NoMemory = 11
