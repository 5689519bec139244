-- Modes and positions before a command, found by one pass, and what the file that goes on there is.
use Rattle.std.proofs.Common.{◌≡◌, ℕ, ◌+◌, ◌<◌, ◌≤◌, false, true, nat_lt, List, [], ◌∷◌, ◌++◌, length, map, take, drop, get_or, None, Some, Ok, Err, refl, sym, ap, ◌∙◌, arith}
use Rattle.std.specs.Option.{option_or}
use Rattle.std.proofs.lemmas.Bool.Decides.{nat_tests}
use Rattle.std.proofs.lemmas.List.{length-map, length-take-le, get_or-take, take-map, drop_all, take_all}
use Rattle.gcode_lines.specs.Job.{Command, JobData, texts_of, numbers_of}
use Rattle.gcode_measure.specs.declared.fault.MeasureFault.{MeasureFault}
use Rattle.gcode_measure.specs.declared.fault.RestFault.TheVariants as fault
use Rattle.gcode_measure.specs.declared.head.Head.{Head}
use Rattle.gcode_measure.specs.Head.{head_of, head_then, has_far}
use Rattle.gcode_measure.specs.Measured.{fault_by, first_fault}
use Rattle.gcode_measure.specs.Rest.{IsHeadBefore, text_of_lines, rest_lines, rest_text, rest_of}
use Rattle.gcode_measure.proofs.MeasureLaws.{first_fault-from, texts-more}
use Rattle.gcode_measure.proofs.PositionLaws.{head_of-push}

-- the texts of commands
abbrev pub texts_in : List Command → List (List ℕ)
texts_in commands = map (λ c. c.text) commands

-- what a pass over commands holds after the first of them
pub record HasHead (commands : List Command) (i : ℕ) (head : Head) : Type 0 where
  pub sound : first_fault [] commands ≡ first_fault (take i (texts_in commands)) (drop i commands)
  pub head_is : head ≡ head_of (take i (texts_in commands))
  pub near : has_far head ≡ false

pub HasHead-start : (commands : List Command) (head : Head) → head ≡ head_of [] → has_far head ≡ false → HasHead commands 0 head
HasHead-start commands head e near = record { sound = refl; head_is = e; near = near }

-- a part of a command of the first ones, read in all
part-of_first : {A : Type 0} (part : Command → A) (commands : List Command) (from i : ℕ) (value d : A) → i < from → value ≡ get_or (map part commands) i d →
    value ≡ get_or (map part (take from commands)) i d
part-of_first part commands from i value d within is =
    is ∙ sym (ap (λ parts. get_or parts i d) (sym (take-map part from commands)) ∙ get_or-take from (map part commands) i d within)

abbrev after_text : List Command → ℕ → List ℕ → List (List ℕ)
after_text commands i text = take i (texts_in commands) ++ text ∷ []

-- after a command that is refused, that is the first fault
HasHead-refused : (commands : List Command) (i : ℕ) (head : Head) (text : List ℕ) (line : ℕ) (refused : MeasureFault) → HasHead commands i head →
    i < length commands → text ≡ get_or (texts_in commands) i [] → line ≡ get_or (map (λ c. c.line) commands) i 0 →
    fault_by text line (head_then head text) ≡ Some refused → first_fault [] commands ≡ Some refused
HasHead-refused commands i head text line refused run within is at found =
    let next : head_of (after_text commands i text) ≡ head_then head text = head_of-push (take i (texts_in commands)) text
    ∙ ap (λ h. head_then h text) (sym run.head_is) in
    run.sound ∙ first_fault-from commands i text line within is at
    ∙ ap (λ h. option_or (fault_by text line h) (first_fault (after_text commands i text) (drop (i + 1) commands))) next
    ∙ ap (λ f. option_or f (first_fault (after_text commands i text) (drop (i + 1) commands))) found

-- after a command that is not refused
HasHead-next : (commands : List Command) (i : ℕ) (head : Head) (text : List ℕ) (line : ℕ) (next : Head) → HasHead commands i head → i < length commands →
    text ≡ get_or (texts_in commands) i [] → line ≡ get_or (map (λ c. c.line) commands) i 0 → next ≡ head_then head text → fault_by text line next ≡ None →
    has_far next ≡ false → HasHead commands (i + 1) next
HasHead-next commands i head text line next run within is at after sound near =
    let more = texts-more commands i text within is in
    let head_is : next ≡ head_of (after_text commands i text) = after ∙ ap (λ h. head_then h text) run.head_is
    ∙ sym (head_of-push (take i (texts_in commands)) text) in
    record {
      sound =
          run.sound ∙ first_fault-from commands i text line within is at
          ∙ ap (λ h. option_or (fault_by text line h) (first_fault (after_text commands i text) (drop (i + 1) commands))) (sym head_is)
          ∙ ap (λ f. option_or f (first_fault (after_text commands i text) (drop (i + 1) commands))) sound
          ∙ ap (λ before. first_fault before (drop (i + 1) commands)) (sym more);
      head_is = head_is ∙ ap head_of (sym more);
      near = near;
    }

-- the same over the first commands of a job
pub HasHead-fault : (job : JobData) (from i : ℕ) (head : Head) (text : List ℕ) (line : ℕ) (refused : MeasureFault) → HasHead (take from job.commands) i head →
    from ≤ length job.commands → i < from → text ≡ get_or (texts_of job) i [] → line ≡ get_or (numbers_of job) i 0 →
    fault_by text line (head_then head text) ≡ Some refused → first_fault [] (take from job.commands) ≡ Some refused
HasHead-fault job from i head text line refused run whole within is at found =
    HasHead-refused (take from job.commands) i head text line refused run (omega (arith, length-take-le from job.commands whole))
    (part-of_first (λ c. c.text) job.commands from i text [] within is) (part-of_first (λ c. c.line) job.commands from i line 0 within at) found

pub HasHead-more : (job : JobData) (from i : ℕ) (head : Head) (text : List ℕ) (line : ℕ) (next : Head) → HasHead (take from job.commands) i head →
    from ≤ length job.commands → i < from → text ≡ get_or (texts_of job) i [] → line ≡ get_or (numbers_of job) i 0 → next ≡ head_then head text →
    fault_by text line next ≡ None → has_far next ≡ false → HasHead (take from job.commands) (i + 1) next
HasHead-more job from i head text line next run whole within is at after sound near =
    HasHead-next (take from job.commands) i head text line next run (omega (arith, length-take-le from job.commands whole))
    (part-of_first (λ c. c.text) job.commands from i text [] within is) (part-of_first (λ c. c.line) job.commands from i line 0 within at) after sound near

-- after all of them the head is that before the command
pub HasHead-end : (job : JobData) (from i : ℕ) (head : Head) → HasHead (take from job.commands) i head → from ≤ length job.commands → from ≤ i →
    IsHeadBefore job from head
HasHead-end job from i head run whole past =
    let short = length-take-le from job.commands whole in
    let all : take i (texts_in (take from job.commands)) ≡ texts_in (take from job.commands) =
    take_all i (texts_in (take from job.commands)) (omega (arith, length-map (take from job.commands) (λ (c : Command). c.text))) in
    let none : drop i (take from job.commands) ≡ [] = drop_all i (take from job.commands) (omega arith) in
    record {
      sound = run.sound ∙ ap (first_fault (take i (texts_in (take from job.commands)))) none;
      head_is = run.head_is ∙ ap head_of (all ∙ sym (take-map (λ (c : Command). c.text) from job.commands));
      near = run.near;
    }

-- the file has no such command
pub rest_of-past : (job : JobData) (from : ℕ) → length job.commands < from → rest_of job from ≡ Err (fault.Past (length job.commands))
unfolding rest_of
rest_of-past job from past =
    let test : nat_lt (length job.commands) from ≡ true = grind (arith, nat_tests) in
    rw test refl

-- a command before it is refused
pub rest_of-refused : (job : JobData) (from : ℕ) (refused : MeasureFault) → from ≤ length job.commands →
    first_fault [] (take from job.commands) ≡ Some refused → rest_of job from ≡ Err (fault.Measure refused)
unfolding rest_of
rest_of-refused job from refused within found =
    let test : nat_lt (length job.commands) from ≡ false = grind (arith, nat_tests) in
    rw (test, found) refl

-- the file that goes on
pub rest_of-sound : (job : JobData) (from : ℕ) (head : Head) (text : List ℕ) → from ≤ length job.commands → IsHeadBefore job from head →
    text ≡ text_of_lines (rest_lines head (drop from (texts_of job))) → rest_of job from ≡ Ok text
unfolding rest_of rest_text
rest_of-sound job from head text within before is =
    let test : nat_lt (length job.commands) from ≡ false = grind (arith, nat_tests) in
    let sound = before.sound in
    let head_is = before.head_is in
    rw (test, sound) (ap Ok (sym (is ∙ ap (λ h. text_of_lines (rest_lines h (drop from (texts_of job)))) head_is)))
