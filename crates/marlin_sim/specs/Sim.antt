-- The simulator between two steps, and what a step leaves.
use Rattle.std.specs.Prelude.{◌≡◌, ◌⊎◌, ℕ, ◌+◌, ◌*◌, Bool, true, false, List, [], ◌∷◌, ◌++◌, length, take, drop, Some}
use Rattle.std.specs.List.{list_all, flat_map}
use Rattle.printer_model.specs.Printer.{PrinterData, RanLine, Logged, is_full, take_line, run_front, log_line_of}
use Rattle.printer_model.specs.declared.event.WorldEvent.{WorldEvent}
use Rattle.marlin_sim.specs.declared.plan.SimPlan.{SimPlan}
use Rattle.marlin_sim.specs.Lines.{LinesData, to_come}
use Rattle.marlin_sim.specs.Run.{first_world, world_at, sim_from, is_step, start_text, printed_line, unlost, number_after}
use Rattle.marlin_sim.specs.Signed.{given, below_after, signed_replies}
use Rattle.octo_outside.specs.Lists.{with_line_feed}

-- what is still to be written, the replies that are lost, counted from 1, and the number of the next one
pub record RepliesData : Type 0 where
  pub text : List ℕ
  pub lost : List ℕ
  pub next : ℕ

-- after more replies
abbrev pub with_replies : RepliesData → List (List ℕ) → RepliesData
with_replies r replies =
    record {
      text = r.text ++ flat_map with_line_feed (unlost r.lost r.next replies);
      lost = r.lost;
      next = number_after r.next replies;
    }

-- the first of these replies were added
abbrev pub AddsSome : RepliesData → List (List ℕ) → RepliesData → Type 0
AddsSome old replies new = (n : ℕ) × (new ≡ with_replies old (take n replies))

-- the printer, how far below 0 its last number is, the lines on their way to it, its replies, and what is still to be printed
pub record SimData : Type 0 where
  pub printer : PrinterData
  pub below : ℕ
  pub lines : LinesData
  pub replies : RepliesData
  pub text : List ℕ

-- a simulator before anything was received
abbrev pub new_sim : SimPlan → SimData
new_sim plan =
    record {
      printer = record { last = plan.last; slots = plan.slots; oks = record { numbered = plan.numbered; lost = false }; queue = [] };
      below = 0;
      lines = record { waiting = []; begun = []; received = 0 };
      replies = record { text = start_text; lost = plan.lost; next = 1 };
      text = [];
    }

-- the simulator is in a run over an input whose rest is still to be received, with these texts written and printed
pub record FollowsModel (plan : SimPlan) (input rest : List ℕ) (s : SimData) (wrote printed : List ℕ) : Type 0 where
  pub events : List WorldEvent
  pub steps : list_all is_step events ≡ true
  pub log : List Logged
  pub down : List (List ℕ)
  pub is : sim_from (first_world plan input) events ≡ world_at s.printer s.below log (to_come plan s.lines rest) down
  pub lost_is : s.replies.lost ≡ plan.lost
  pub next_is : s.replies.next ≡ number_after 1 down
  pub wrote_is : start_text ++ flat_map with_line_feed (unlost plan.lost 1 down) ≡ wrote ++ s.replies.text
  pub printed_is : flat_map printed_line log ≡ printed ++ s.text

-- what a simulator records of a run it records after this
abbrev pub Keeps : SimData → SimData → Type 0
Keeps old new =
    (plan : SimPlan) (input rest wrote printed : List ℕ)
    → FollowsModel plan input rest old wrote printed → FollowsModel plan input rest new wrote printed

-- the next line arrived
pub record Arrived (old new : SimData) : Type 0 where
  pub line : List ℕ
  pub first : old.lines.waiting ≡ line ∷ drop 1 old.lines.waiting
  pub room : is_full old.printer ≡ false
  pub is : new ≡ record {
    printer = (take_line old.printer (given old.below line)).1;
    below = below_after old.below line (take_line old.printer (given old.below line)).0;
    lines = record old.lines { waiting = drop 1 old.lines.waiting };
    replies = with_replies old.replies (signed_replies old.below (take_line old.printer (given old.below line)).0);
    text = old.text;
  }

-- no line can arrive: none waits, or the queue is full
abbrev pub IsStuck : SimData → Type 0
IsStuck s = (s.lines.waiting ≡ []) ⊎ (is_full s.printer ≡ true)

-- an attempt to let a line arrive, by whether one did
abbrev pub AfterArrival : Bool → SimData → SimData → Type 0
AfterArrival true old new = Arrived old new
AfterArrival false old new = (new ≡ old) × IsStuck old

-- the front of the queue was run
pub record HasRun (old new : SimData) : Type 0 where
  pub ran : RanLine
  pub front : (run_front old.printer).0 ≡ Some ran
  pub is : new ≡ record {
    printer = (run_front old.printer).1;
    below = old.below;
    lines = old.lines;
    replies = with_replies old.replies (ran.reply ∷ []);
    text = old.text ++ printed_line (log_line_of ran);
  }

-- an attempt to run a line, by whether one was
abbrev pub AfterRunning : Bool → SimData → SimData → Type 0
AfterRunning true old new = HasRun old new
AfterRunning false old new = (new ≡ old) × (old.printer.queue ≡ [])

-- lines arrive one after the other
pub data Arrives : SimData → SimData → Type 0 where
  no_line : (s : SimData) → Arrives s s
  one_line : (old mid new : SimData) → Arrives old mid → Arrived mid new → Arrives old new

-- lines arrive until none waits or the queue is full; then the front of the queue is run, if there is one
pub record Steps (ran : Bool) (old new : SimData) : Type 0 where
  pub mid : SimData
  pub arrives : Arrives old mid
  pub stuck : IsStuck mid
  pub runs : AfterRunning ran mid new

-- such a step, whose replies were written
pub record StepsAndReplies (old new : SimData) : Type 0 where
  pub ran : Bool
  pub stepped : SimData
  pub steps : Steps ran old stepped
  pub printer : new.printer ≡ stepped.printer
  pub below : new.below ≡ stepped.below
  pub lines : new.lines ≡ stepped.lines
  pub written : new.replies.text ≡ []

-- a turn that goes on acts on what it received, whose printer is the former one
pub record StepsAndRepliesOn (printer : PrinterData) (new : SimData) : Type 0 where
  pub received : SimData
  pub same : received.printer ≡ printer
  pub acts : StepsAndReplies received new

-- the next line arrived, but its replies may be missing
abbrev pub HasArrivedOnly : SimData → SimData → Type 0
HasArrivedOnly old new = (all : RepliesData) × Arrived old (record new { replies = all })

-- lines arrived, but the replies to the last one may be missing
abbrev pub HaveArrivedOnly : SimData → SimData → Type 0
HaveArrivedOnly old new = (all : RepliesData) × Arrives old (record new { replies = all })

-- the front of the queue was run, but its reply may be missing, and it isn't to be printed
pub record HasRunOnly (old new : SimData) : Type 0 where
  pub replies : RepliesData
  pub text : List ℕ
  pub ran : HasRun old (record new { replies = replies; text = text })
  pub unprinted : new.text ≡ old.text

-- a step without memory: lines arrived, and perhaps one was run; the last replies may be missing, and nothing more is to be printed
pub record StopsShort (old new : SimData) : Type 0 where
  pub replies : RepliesData
  pub text : List ℕ
  pub steps : Arrives old (record new { replies = replies }) ⊎ Steps true old (record new { replies = replies; text = text })
  pub unprinted : new.text ≡ old.text

-- how much there is to do: a line that waits is taken and run
abbrev pub work : SimData → ℕ
work s = 2 * length s.lines.waiting + length s.printer.queue

-- nothing is left to do
pub record IsIdle (s : SimData) : Type 0 where
  pub waiting : s.lines.waiting ≡ []
  pub queue : s.printer.queue ≡ []
