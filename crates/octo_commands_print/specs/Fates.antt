-- The fates of the lines that are sent in a demo, and the link's schedule.
use Rattle.std.specs.Prelude.{ℕ, ◌+◌, ◌*◌, ◌==◌, ◌%◌, if◌then◌else◌, List, [], ◌∷◌, codes, Option, is_some, unwrap_or}
use Rattle.printer_link.specs.declared.schedule.Fate.{Fate}
use Rattle.printer_link.specs.declared.schedule.Fate.TheVariants.{Whole, Lost, Garbled}
use Rattle.printer_link.specs.declared.schedule.Schedule.{Schedule}
use Rattle.octo_commands_print.specs.Draws.{draws, number_after}

-- the fate that a draw names
abbrev pub fate_of : ℕ → Fate
fate_of draw = if draw % 10 == 0 then Lost else if draw % 10 == 1 then Garbled else Whole

-- the fate of a line by its draw: whole after two in a row that are harmed
abbrev pub fate_after : (harmed draw : ℕ) → Fate
fate_after harmed draw = if harmed == 2 then Whole else fate_of draw

-- how many lines in a row are harmed, up to one of this fate
abbrev pub harmed_after : ℕ → Fate → ℕ
harmed_after harmed Whole = 0
harmed_after harmed Lost = harmed + 1
harmed_after harmed Garbled = harmed + 1

-- the fates by their draws, after this number in a row that are harmed
abbrev pub fates_after : ℕ → List ℕ → List Fate
fates_after harmed [] = []
fates_after harmed (draw ∷ draws) =
    fate_after harmed draw ∷ fates_after (harmed_after harmed (fate_after harmed draw)) draws

-- the fates of a demo: the hello's is whole without a draw; the others' draws follow those of the file
abbrev pub demo_fates : (seed commands : ℕ) → List Fate
demo_fates seed commands =
    Whole ∷ fates_after 0 (draws (number_after seed commands) (4 * commands + 1000))

-- the schedule of a demo's link; if lost replies are listed, the printer's `ok`s have numbers
abbrev pub demo_schedule : (seed commands : ℕ) → Option (List ℕ) → Schedule
demo_schedule seed commands lost = record {
  names = codes "demo" ∷ [];
  last = 4;
  slots = 4;
  numbered = is_some lost;
  fates = demo_fates seed commands;
  slow = 0;
  fail_at = [];
  restart_at = [];
  lost = unwrap_or lost [];
}
