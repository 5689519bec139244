-- What commands measure after one more.
use Rattle.std.proofs.Common.{◌≡◌, ℕ, ◌+◌, ◌<◌, ◌≤◌, Bool, true, false, cond, List, [], ◌∷◌, ◌++◌, length, map, take, drop, get_or, None, Some, Ok, Err, ℤ, pos, refl, sym, ap, ◌∙◌, zero-add, arith}
use Rattle.std.specs.List.{filter}
use Rattle.std.specs.Int.{int_min, int_max, int_gap}
use Rattle.std.specs.Option.{option_or}
use Rattle.std.proofs.lemmas.List.{append-nil, map-append, length-append, length-map, length-take-le, take_more, drop_more, take_all, drop_all}
use Rattle.std.proofs.lemmas.List.Elements.{filter-append}
use Rattle.std.proofs.lemmas.List.Sums.{fold-append, sum_by-append}
use Rattle.std.proofs.Math.ListN.{get_or-map}
use Rattle.gcode_lines.specs.Job.{Command, JobData, texts_of, numbers_of}
use Rattle.gcode_measure.specs.declared.head.Head.{Head}
use Rattle.gcode_measure.specs.declared.fault.MeasureFault.{MeasureFault}
use Rattle.gcode_measure.specs.declared.totals.Measure.{Measure}
use Rattle.gcode_measure.specs.declared.values.Axis.{Axis}
use Rattle.gcode_measure.specs.declared.values.Axis.TheVariants.{X, Y, Z, E}
use Rattle.gcode_measure.specs.Position.{Step, steps_of, is_move}
use Rattle.gcode_measure.specs.Head.{head_of, head_then}
use Rattle.gcode_measure.specs.Measured.{moves_of, start_of, end_of, fed_by, drawn_by, extent_of, extent_by, measured, fault_by, first_fault, unless_fault, measure_of}
use Rattle.gcode_measure.specs.Pass.{widened, with_command, with_move, measure_then}
use Rattle.gcode_measure.proofs.StepLaws.{steps_of-push}
use Rattle.gcode_measure.proofs.PositionLaws.{head_of-push}

extent_of-push : (ats : List ℤ) (at : ℤ) → extent_of (ats ++ at ∷ []) ≡ Some (widened (extent_of ats) at)
extent_of-push [] at = refl
extent_of-push (first ∷ ats) at =
    let low = fold-append int_min first ats (at ∷ []) in
    let high = fold-append int_max first ats (at ∷ []) in
    rw (low, high) refl

-- a measure of a number of commands with these moves
abbrev measure_by : ℕ → List Step → Measure
measure_by commands moves =
    record {
      commands = commands;
      moves = length moves;
      fed = pos (fed_by moves);
      drawn = pos (drawn_by moves);
      x = extent_by X moves;
      y = extent_by Y moves;
      z = extent_by Z moves;
    }

extent_by-push : (axis : Axis) (moves : List Step) (step : Step) → extent_by axis (moves ++ step ∷ []) ≡ Some
    (widened (extent_by axis moves) (end_of axis step))
extent_by-push axis moves step =
    ap extent_of (map-append (end_of axis) moves (step ∷ [])) ∙ extent_of-push (map (end_of axis) moves) (end_of axis step)

measure_by-move : (commands : ℕ) (moves : List Step) (step : Step) → measure_by (commands + 1) (moves ++ step ∷ []) ≡ with_move (measure_by commands moves)
    (head_of step.before) (head_of (step.before ++ step.text ∷ []))
measure_by-move commands moves step =
    let count = length-append moves (step ∷ []) in
    let fed : fed_by (moves ++ step ∷ []) ≡ fed_by moves + int_gap (start_of E step) (end_of E step) =
    sum_by-append (λ s. int_gap (start_of E s) (end_of E s)) moves (step ∷ [])
    ∙ ap (λ n. fed_by moves + n) (zero-add (int_gap (start_of E step) (end_of E step))) in
    let drawn : drawn_by (moves ++ step ∷ []) ≡ drawn_by moves + int_gap (end_of E step) (start_of E step) =
    sum_by-append (λ s. int_gap (end_of E s) (start_of E s)) moves (step ∷ [])
    ∙ ap (λ n. drawn_by moves + n) (zero-add (int_gap (end_of E step) (start_of E step))) in
    let x = extent_by-push X moves step in
    let y = extent_by-push Y moves step in
    let z = extent_by-push Z moves step in
    rw (count, fed, drawn, x, y, z) refl

measure_by-step : (t : Bool) (commands : ℕ) (moves : List Step) (step : Step) →
    measure_by (commands + 1) (moves ++ cond t (step ∷ []) []) ≡ cond t (with_move (measure_by commands moves) (head_of step.before)
    (head_of (step.before ++ step.text ∷ []))) (with_command (measure_by commands moves))
measure_by-step true commands moves step = measure_by-move commands moves step
measure_by-step false commands moves step = ap (measure_by (commands + 1)) (append-nil moves)

-- the measure of commands with one more
pub measured-push : (texts : List (List ℕ)) (text : List ℕ) → measured (texts ++ text ∷ []) ≡ measure_then (measured texts) text (head_of texts)
    (head_of (texts ++ text ∷ []))
measured-push texts text =
    let step : Step = record { before = texts; text = text } in
    let count = length-append texts (text ∷ []) in
    let moves : moves_of (texts ++ text ∷ []) ≡ moves_of texts ++ cond (is_move text) (step ∷ []) [] =
    ap (filter (λ s. is_move s.text)) (steps_of-push texts text) ∙ filter-append (λ s. is_move s.text) (steps_of texts) (step ∷ []) in
    ap (λ n. measure_by n (moves_of (texts ++ text ∷ []))) count
    ∙ ap (measure_by (length texts + 1)) moves
    ∙ measure_by-step (is_move text) (length texts) (moves_of texts) step

abbrev no_command : Command
no_command = record { text = []; line = 0; place = 0; begin = 0 }

-- the first fault from a command on is its own or a later one
pub first_fault-from : (commands : List Command) (i : ℕ) (text : List ℕ) (line : ℕ) → i < length commands → text ≡ get_or (map (λ c. c.text) commands) i [] →
    line ≡ get_or (map (λ c. c.line) commands) i 0 → first_fault (take i (map (λ c. c.text) commands)) (drop i commands) ≡ option_or
    (fault_by text line (head_of (take i (map (λ c. c.text) commands) ++ text ∷ [])))
    (first_fault (take i (map (λ c. c.text) commands) ++ text ∷ []) (drop (i + 1) commands))
first_fault-from commands i text line within is at =
    let command : Command = get_or commands i no_command in
    let texts : List (List ℕ) = map (λ (c : Command). c.text) commands in
    let same : (get_or commands i no_command).text ≡ text = sym (is ∙ get_or-map (λ (c : Command). c.text) commands i no_command) in
    let there : (get_or commands i no_command).line ≡ line = sym (at ∙ get_or-map (λ (c : Command). c.line) commands i no_command) in
    ap (first_fault (take i texts)) (drop_more commands i no_command within)
    ∙ ap (λ t. option_or (fault_by t (get_or commands i no_command).line (head_of (take i texts ++ t ∷ [])))
    (first_fault (take i texts ++ t ∷ []) (drop (i + 1) commands))) same
    ∙ ap (λ n. option_or (fault_by text n (head_of (take i texts ++ text ∷ []))) (first_fault (take i texts ++ text ∷ []) (drop (i + 1) commands))) there

-- the texts up to and with a command
pub texts-more : (commands : List Command) (i : ℕ) (text : List ℕ) → i < length commands → text ≡ get_or (map (λ c. c.text) commands) i [] →
    take (i + 1) (map (λ c. c.text) commands) ≡ take i (map (λ c. c.text) commands) ++ text ∷ []
texts-more commands i text within is =
    let texts : List (List ℕ) = map (λ (c : Command). c.text) commands in
    let short : i < length (map (λ (c : Command). c.text) commands) = omega (arith, length-map commands (λ (c : Command). c.text)) in
    take_more (map (λ (c : Command). c.text) commands) i [] short ∙ ap (λ t. take i (map (λ (c : Command). c.text) commands) ++ t ∷ []) (sym is)

-- what a pass holds after the first commands of a job
pub record HasRun (job : JobData) (i : ℕ) (head : Head) (measure : Measure) : Type 0 where
  pub fault : first_fault [] job.commands ≡ first_fault (take i (texts_of job)) (drop i job.commands)
  pub heads : head ≡ head_of (take i (texts_of job))
  pub measures : measure ≡ measured (take i (texts_of job))

pub HasRun-start : (job : JobData) → HasRun job 0 (head_of []) (measured [])
HasRun-start job = record { fault = refl; heads = refl; measures = refl }

-- after a command that is refused, that is the job's fault
pub HasRun-fault : (job : JobData) (i : ℕ) (head : Head) (measure : Measure) (text : List ℕ) (line : ℕ) (fault : MeasureFault) → HasRun job i head measure →
    i < length job.commands → text ≡ get_or (texts_of job) i [] → line ≡ get_or (numbers_of job) i 0 → fault_by text line (head_then head text) ≡ Some fault →
    measure_of job ≡ Err fault
unfolding measure_of
HasRun-fault job i head measure text line fault run within is at found =
    let next : head_of (take i (texts_of job) ++ text ∷ []) ≡ head_then head text = head_of-push (take i (texts_of job)) text
    ∙ ap (λ h. head_then h text) (sym run.heads) in
    let first : first_fault [] job.commands ≡ Some fault = run.fault ∙ first_fault-from job.commands i text line within is at
    ∙ ap (λ h. option_or (fault_by text line h) (first_fault (take i (texts_of job) ++ text ∷ []) (drop (i + 1) job.commands))) next
    ∙ ap (λ f. option_or f (first_fault (take i (texts_of job) ++ text ∷ []) (drop (i + 1) job.commands))) found in
    ap (λ f. unless_fault f (measured (texts_of job))) first

-- after a command that is not refused
pub HasRun-more : (job : JobData) (i : ℕ) (head : Head) (measure : Measure) (text : List ℕ) (line : ℕ) (next : Head) (grown : Measure) →
    HasRun job i head measure → i < length job.commands → text ≡ get_or (texts_of job) i [] → line ≡ get_or (numbers_of job) i 0 →
    fault_by text line next ≡ None → next ≡ head_then head text → grown ≡ measure_then measure text head next → HasRun job (i + 1) next grown
HasRun-more job i head measure text line next grown run within is at sound after adds =
    let more = texts-more job.commands i text within is in
    let head_is : next ≡ head_of (take i (texts_of job) ++ text ∷ []) = after ∙ ap (λ h. head_then h text) run.heads
    ∙ sym (head_of-push (take i (texts_of job)) text) in
    record {
      fault = run.fault ∙ first_fault-from job.commands i text line within is at
          ∙ ap (λ h. option_or (fault_by text line h) (first_fault (take i (texts_of job) ++ text ∷ []) (drop (i + 1) job.commands))) (sym head_is)
          ∙ ap (λ f. option_or f (first_fault (take i (texts_of job) ++ text ∷ []) (drop (i + 1) job.commands))) sound
          ∙ ap (λ before. first_fault before (drop (i + 1) job.commands)) (sym more);
      heads = head_is ∙ ap head_of (sym more);
      measures = adds ∙ ap (λ m. measure_then m text head next) run.measures ∙ ap (λ h. measure_then (measured (take i (texts_of job))) text h next) run.heads
          ∙ ap (measure_then (measured (take i (texts_of job))) text (head_of (take i (texts_of job)))) head_is
          ∙ sym (measured-push (take i (texts_of job)) text) ∙ ap measured (sym more);
    }

-- after all commands the measure is the job's
pub HasRun-end : (job : JobData) (i : ℕ) (head : Head) (measure : Measure) → HasRun job i head measure → length job.commands ≤ i → measure_of job ≡ Ok measure
unfolding measure_of
HasRun-end job i head measure run past =
    let all : take i (texts_of job) ≡ texts_of job = take_all i (texts_of job) (omega (arith, length-map job.commands (λ (c : Command). c.text))) in
    let none : drop i job.commands ≡ [] = drop_all i job.commands past in
    ap (λ f. unless_fault f (measured (texts_of job))) (run.fault ∙ ap (first_fault (take i (texts_of job))) none)
    ∙ ap Ok (sym (run.measures ∙ ap measured all))

-- a pass has counted the commands
pub HasRun-count : (job : JobData) (i : ℕ) (head : Head) (measure : Measure) → HasRun job i head measure → i ≤ length job.commands → measure.commands ≡ i
HasRun-count job i head measure run within =
    ap (λ m. m.commands) run.measures ∙ length-take-le i (texts_of job) (omega (arith, length-map job.commands (λ (c : Command). c.text)))
