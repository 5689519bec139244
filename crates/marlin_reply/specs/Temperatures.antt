-- The temperatures that a reply line reports.
use Rattle.std.specs.Prelude.{ℕ, ℤ, ◌==◌, if◌then◌else◌, codes, List, [], ◌∷◌, length, drop, Option, None, Some}
use Rattle.std.specs.List.{find}
use Rattle.std.specs.Option.{option_map, option_and_then}
use Rattle.gcode_words.specs.Value.{number_at}
use Rattle.marlin_reply.specs.Pieces.{begins, after_spaces, piece_starts}
use Rattle.marlin_reply.specs.declared.reply.Heat.{Heat}
use Rattle.marlin_reply.specs.declared.reply.Temps.{Temps}

-- the target after a slash at the front, with the temperature that was read before it
unfoldable pub target_at : ℤ → List ℕ → Option Heat
target_at actual [] = None
target_at actual (byte ∷ bytes) =
    if byte == 47
    then option_map (λ target. record { actual = actual; target = target.micro }) (number_at bytes)
    else None

-- a temperature at the front, spaces or none, a slash and the target
unfoldable pub heat_at : List ℕ → Option Heat
heat_at text = option_and_then (λ actual. target_at actual.micro (after_spaces actual.rest)) (number_at text)

-- the temperatures after the first piece that begins with a heater's mark
unfoldable pub heat_of : List ℕ → List ℕ → Option Heat
heat_of mark text = option_and_then (λ start. heat_at (drop (length mark) start)) (find (λ start. begins start mark) (piece_starts text))

-- nothing if neither heater is reported whole
abbrev pub temps_of_heats : Option Heat → Option Heat → Option Temps
temps_of_heats None None = None
temps_of_heats None (Some bed) = Some (record { tool = None; bed = Some bed })
temps_of_heats (Some tool) bed = Some (record { tool = Some tool; bed = bed })

-- the temperatures of a line, `T:` for the tool and `B:` for the bed
unfoldable pub temps_of : List ℕ → Option Temps
temps_of text = temps_of_heats (heat_of (codes "T:") text) (heat_of (codes "B:") text)
