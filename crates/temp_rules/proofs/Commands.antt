-- A step of the search for the first command that is too hot.
use Rattle.std.proofs.Common.{◌≡◌, ℕ, ◌+◌, ◌<◌, List, [], length, drop, map, get_or, sym, ap, ◌∙◌, Option, Some, None}
use Rattle.std.proofs.lemmas.List.{drop_more}
use Rattle.std.proofs.Math.ListN.{get_or-map}
use Rattle.std.specs.Option.{option_map, option_or}
use Rattle.gcode_lines.specs.Job.{Command}
use Rattle.temp_rules.specs.Hot.{hot_of, first_hot_of}
use Rattle.temp_rules.specs.declared.limits.Limits.{Limits}
use Rattle.temp_rules.specs.declared.limits.TooHot.{TooHot}
use Rattle.temp_rules.specs.declared.job.HotLine.{HotLine}

abbrev no_command : Command
no_command = record { text = []; line = 0; place = 0; begin = 0 }

-- what is found too hot, with the line where it is asked for
abbrev pub hot_at : ℕ → Option TooHot → Option HotLine
hot_at line hot = option_map (λ h. record { line = line; asked = h.asked; limit = h.limit }) hot

-- the search from a command on, by what is known of that command
first_hot-from : (limits : Limits) (commands : List Command) (i : ℕ) (text : List ℕ) (hot : Option TooHot) → i < length commands → text ≡ get_or (map (λ c. c.text) commands) i [] → hot_of limits text ≡ hot → first_hot_of limits (drop i commands) ≡ option_or (hot_at (get_or (map (λ c. c.line) commands) i 0) hot) (first_hot_of limits (drop (i + 1) commands))
first_hot-from limits commands i text hot h is found =
    let command : Command = get_or commands i no_command in
    let same : (get_or commands i no_command).text ≡ text = sym (is ∙ get_or-map (λ (c : Command). c.text) commands i no_command) in
    let line : (get_or commands i no_command).line ≡ get_or (map (λ (c : Command). c.line) commands) i 0 = sym (get_or-map (λ (c : Command). c.line) commands i no_command) in
    ap (first_hot_of limits) (drop_more commands i no_command h)
    ∙ ap (λ o. option_or (hot_at (get_or commands i no_command).line o) (first_hot_of limits (drop (i + 1) commands))) (ap (hot_of limits) same ∙ found)
    ∙ ap (λ n. option_or (hot_at n hot) (first_hot_of limits (drop (i + 1) commands))) line

pub first_hot-found : (limits : Limits) (commands : List Command) (i : ℕ) (text : List ℕ) (line : ℕ) (hot : TooHot) → i < length commands → text ≡ get_or (map (λ c. c.text) commands) i [] → line ≡ get_or (map (λ c. c.line) commands) i 0 → hot_of limits text ≡ Some hot → Some (record { line = line; asked = hot.asked; limit = hot.limit }) ≡ first_hot_of limits (drop i commands)
first_hot-found limits commands i text line hot h is at found =
    ap (λ n. hot_at n (Some hot)) at ∙ sym (first_hot-from limits commands i text (Some hot) h is found)

pub first_hot-cool : (limits : Limits) (commands : List Command) (i : ℕ) (text : List ℕ) → i < length commands → text ≡ get_or (map (λ c. c.text) commands) i [] → hot_of limits text ≡ None → first_hot_of limits (drop i commands) ≡ first_hot_of limits (drop (i + 1) commands)
first_hot-cool limits commands i text h is found = first_hot-from limits commands i text None h is found
