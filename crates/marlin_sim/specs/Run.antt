-- A run of the printer over the lines of an input, and what is written and printed of it.
use Rattle.std.specs.Prelude.{◌≡◌, ℕ, Bool, true, false, List, [], ◌∷◌, ◌++◌, fold, if◌then◌else◌, codes, decimal, Option, Some, None}
use Rattle.std.specs.List.{list_all, flat_map}
use Rattle.printer_model.specs.Printer.{PrinterData, RanLine, Logged, is_full, take_line, run_front, log_line_of}
use Rattle.printer_model.specs.World.{WorldData}
use Rattle.printer_model.specs.declared.printer.Taken.{Taken}
use Rattle.printer_model.specs.declared.event.WorldEvent.{WorldEvent}
use Rattle.printer_model.specs.declared.event.WorldEvent.TheVariants.{Arrive, Run}
use Rattle.marlin_sim.specs.Lines.{whole_lines, planned}
use Rattle.marlin_sim.specs.Signed.{given, below_after, signed_replies}
use Rattle.marlin_sim.specs.declared.plan.SimPlan.{SimPlan}
use Rattle.octo_outside.specs.Lists.{with_line_feed}
use Rattle.octo_outside.specs.Memory.{one_more, is_listed}

-- whether an event is a step of the printer: it takes the next line, or runs the front of its queue
abbrev pub is_step : WorldEvent → Bool
is_step Arrive = true
is_step Run = true
is_step _ = false

-- the printer, how far below 0 its last number is, what it ran, the lines that are to arrive, and its replies
pub record SimWorld : Type 0 where
  pub printer : PrinterData
  pub below : ℕ
  pub log : List Logged
  pub up : List (List ℕ)
  pub down : List (List ℕ)

-- the same by its parts
abbrev pub world_at : PrinterData → ℕ → List Logged → List (List ℕ) → List (List ℕ) → SimWorld
world_at printer below log up down = record { printer = printer; below = below; log = log; up = up; down = down }

-- a new printer, with all lines of the input that are to arrive still before it
abbrev pub first_world : SimPlan → List ℕ → SimWorld
first_world plan input =
    world_at (record { last = plan.last; slots = plan.slots; oks = record { numbered = plan.numbered; lost = false }; queue = [] }) 0 [] (planned plan 1 (whole_lines input)) []

-- the printer took the next line
abbrev pub after_taking : SimWorld → List ℕ → List (List ℕ) → Taken × PrinterData → SimWorld
after_taking w line rest taken =
    world_at taken.1 (below_after w.below line taken.0) w.log rest (w.down ++ signed_replies w.below taken.0)

-- the printer takes the next line, if there is one and it isn't full
abbrev pub take_next : SimWorld → List (List ℕ) → SimWorld
take_next w [] = w
take_next w (line ∷ rest) = if is_full w.printer then w else after_taking w line rest (take_line w.printer (given w.below line))

-- the printer ran a line, if one waited
abbrev pub after_running : SimWorld → Option RanLine × PrinterData → SimWorld
after_running w (None, p) = w
after_running w (Some ran, p) = world_at p w.below (w.log ++ log_line_of ran ∷ []) w.up (w.down ++ ran.reply ∷ [])

-- the world after a step
abbrev pub sim_apply : SimWorld → WorldEvent → SimWorld
sim_apply w Arrive = take_next w w.up
sim_apply w Run = after_running w (run_front w.printer)
sim_apply w _ = w

-- the world after steps, the first of them first
abbrev pub sim_from : SimWorld → List WorldEvent → SimWorld
sim_from w events = fold sim_apply w events

-- the world of the printer of the theorem that is in the same state
abbrev pub model_world : SimWorld → WorldData
model_world w = record { linked = true; printer = w.printer; log = w.log; up = w.up; down = w.down }

-- steps of the printer over the input lead to this world
pub record IsRunOf (plan : SimPlan) (input : List ℕ) (w : SimWorld) : Type 0 where
  pub events : List WorldEvent
  pub steps : list_all is_step events ≡ true
  pub is : sim_from (first_world plan input) events ≡ w

-- every line was taken, and nothing waits
pub record IsOver (w : SimWorld) : Type 0 where
  pub up : w.up ≡ []
  pub queue : w.printer.queue ≡ []

-- the number of an executed line as it is printed before it, if there is one
abbrev pub number_text : Option ℕ → List ℕ
number_text None = []
number_text (Some n) = codes "N" ++ decimal n ++ codes " "

-- an executed line as it is printed
abbrev pub printed_line : Logged → List ℕ
printed_line line = number_text line.number ++ with_line_feed line.text

-- what is written first
abbrev pub start_text : List ℕ
start_text = codes "start\n"

-- what isn't lost of replies, the first of which has this number
abbrev pub unlost : List ℕ → ℕ → List (List ℕ) → List (List ℕ)
unlost lost n [] = []
unlost lost n (reply ∷ replies) = if is_listed lost n then unlost lost (one_more n) replies else reply ∷ unlost lost (one_more n) replies

-- the number after those of replies, the first of which has this number
abbrev pub number_after : ℕ → List (List ℕ) → ℕ
number_after n [] = n
number_after n (reply ∷ replies) = number_after (one_more n) replies

-- what is written in a run: `start`, and then the replies that aren't lost, counted from 1
abbrev pub written_text : SimPlan → SimWorld → List ℕ
written_text plan w = start_text ++ flat_map with_line_feed (unlost plan.lost 1 w.down)

-- what is printed of it: the executed lines
abbrev pub printed_text : SimWorld → List ℕ
printed_text w = flat_map printed_line w.log
