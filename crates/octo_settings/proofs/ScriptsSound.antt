-- The scripts of settings that were read are ones that a desk can be made with.
use Rattle.std.proofs.Common.{◌≡◌, ℕ, ◌+◌, ◌==◌, Bool, true, false, nat_le, cond, List, [], ◌∷◌, ◌++◌, length, Option, Some, None, Result, Ok, Err, All, refl, subst, codes}
use Rattle.std.proofs.lemmas.List.Elements.{All-append, All-cons, All-nil}
use Rattle.toml.specs.Data.{Data, Members, get_member}
use Rattle.byte_text.specs.Marks.{has_byte, has_m110}
use Rattle.byte_text.specs.Sendable.{IsSendable}
use Rattle.job_desk.specs.Data.{ScriptTexts, texts_at}
use Rattle.job_desk.specs.declared.state.Point.{Point}
use Rattle.job_desk.specs.declared.state.Point.TheVariants as point
use Rattle.gcode_lines.specs.Single.{single_of}
use Rattle.gcode_lines.specs.Text.{command_text, is_too_long, has_control}
use Rattle.gcode_lines.specs.declared.fault.NotOne.{NotOne}
use Rattle.gcode_lines.specs.declared.fault.NotOne.TheVariants.{LineEnd, Empty, HasM110, TooLong, ControlByte}
use Rattle.gcode_lines.proofs.Sendable.{sendable_one}
use Rattle.job_desk.specs.Scripts.{with_text, no_scripts}
use Rattle.temp_rules.specs.Hot.{hot_of}
use Rattle.temp_rules.specs.declared.limits.Limits.{Limits}
use Rattle.temp_rules.specs.declared.limits.TooHot.{TooHot as HotFault}
use Rattle.octo_settings.specs.Scripts.{script_name, script_key, is_template, cool, command_in, command_of, with_lines, with_texts, with_script, scripts_at, scripts_of, all_points}
use Rattle.octo_settings.specs.Sound.{IsScriptLine, AreScripts}
use Rattle.octo_settings.specs.Values.{and_then, section, text_values}
use Rattle.octo_settings.specs.declared.fault.SettingsFault.{SettingsFault}
use Rattle.octo_settings.specs.declared.fault.SettingsFault.TheVariants.{OutOfRange, Template}

-- a value that a step made was made of a value
pub made : {A B : Type 0} (r : Result A SettingsFault) (next : A → Result B SettingsFault) (y : B) → and_then r next ≡ Ok y →
    (x : A) × (r ≡ Ok x) × (next x ≡ Ok y)
made (Ok x) next y h = (x, refl, h)
made (Err fault) next y h = absurd (cc)

-- the one command of a line may be sent
one-sendable : (line text : List ℕ) (ends empty sets long control : Bool)
    → has_byte 10 line ≡ ends → (length (command_text line) == 0) ≡ empty → has_m110 (command_text line) ≡ sets → is_too_long (command_text line) ≡ long →
    has_control (command_text line) ≡ control
    → ◌≡◌ {A = Result (List ℕ) NotOne} (cond ends (Err LineEnd) (cond empty (Err Empty)
    (cond sets (Err HasM110) (cond long (Err TooLong) (cond control (Err ControlByte) (Ok (command_text line))))))) (Ok text)
    → IsSendable text
one-sendable line text true empty sets long control a b c d e h = absurd (cc)
one-sendable line text false true sets long control a b c d e h = absurd (cc)
one-sendable line text false false true long control a b c d e h = absurd (cc)
one-sendable line text false false false true control a b c d e h = absurd (cc)
one-sendable line text false false false false true a b c d e h = absurd (cc)
one-sendable line text false false false false false a b c d e h = let same : command_text line ≡ text = cc in subst IsSendable same (sendable_one line b c d e)

single-sendable : (line text : List ℕ) → single_of line ≡ Ok text → IsSendable text
unfolding single_of
single-sendable line text h =
    one-sendable line text (has_byte 10 line) (length (command_text line) == 0) (has_m110 (command_text line)) (is_too_long (command_text line)) (has_control (command_text line))
    refl refl refl refl refl h

-- the command of a script's line is a line as scripts have them
cool-line : (limits : Limits) (p : Point) (n : ℕ) (found text : List ℕ) (hot : Option HotFault) → hot_of limits found ≡ hot → IsSendable found →
    cool p n found hot ≡ Ok text → IsScriptLine limits text
cool-line limits p n found text None is may h =
    let same : found ≡ text = cc in
    subst (IsScriptLine limits) same (record { sendable = may; cool = is })
cool-line limits p n found text (Some hot) is may h = absurd (cc)

command-in-line : (limits : Limits) (p : Point) (n : ℕ) (line text : List ℕ) (one : Result (List ℕ) NotOne) → single_of line ≡ one →
    command_in limits p n one ≡ Ok text → IsScriptLine limits text
command-in-line limits p n line text (Ok found) is h = cool-line limits p n found text (hot_of limits found) refl (single-sendable line found is) h
command-in-line limits p n line text (Err fault) is h = absurd (cc)

command-by : (limits : Limits) (p : Point) (n : ℕ) (line text : List ℕ) (b : Bool) →
    cond b (Err (Template p)) (command_in limits p n (single_of line)) ≡ Ok text → IsScriptLine limits text
command-by limits p n line text true h = absurd (cc)
command-by limits p n line text false h = command-in-line limits p n line text (single_of line) refl h

command-line : (limits : Limits) (p : Point) (n : ℕ) (line text : List ℕ) → command_of limits p n line ≡ Ok text → IsScriptLine limits text
command-line limits p n line text h = command-by limits p n line text (is_template line) h

-- the scripts one by one
record AreSound (limits : Limits) (scripts : ScriptTexts) : Type 0 where
  connected : All (IsScriptLine limits) scripts.connected
  disconnect : All (IsScriptLine limits) scripts.disconnect
  started : All (IsScriptLine limits) scripts.started
  paused : All (IsScriptLine limits) scripts.paused
  resumed : All (IsScriptLine limits) scripts.resumed
  cancelled : All (IsScriptLine limits) scripts.cancelled
  done : All (IsScriptLine limits) scripts.done

-- a script with one line more
more : (limits : Limits) (text : List ℕ) (texts : List (List ℕ)) → IsScriptLine limits text → All (IsScriptLine limits) texts →
    All (IsScriptLine limits) (texts ++ text ∷ [])
more limits text texts line all = All-append (IsScriptLine limits) texts (text ∷ []) all
    (All-cons (IsScriptLine limits) text [] line (All-nil (IsScriptLine limits)))

more-sound : (limits : Limits) (p : Point) (text : List ℕ) (s : ScriptTexts) → IsScriptLine limits text → AreSound limits s →
    AreSound limits (with_text p text s)
more-sound limits point.Connected text s line h =
    record {
      connected = more limits text s.connected line h.connected;
      disconnect = h.disconnect;
      started = h.started;
      paused = h.paused;
      resumed = h.resumed;
      cancelled = h.cancelled;
      done = h.done;
    }
more-sound limits point.Disconnect text s line h =
    record {
      connected = h.connected;
      disconnect = more limits text s.disconnect line h.disconnect;
      started = h.started;
      paused = h.paused;
      resumed = h.resumed;
      cancelled = h.cancelled;
      done = h.done;
    }
more-sound limits point.Started text s line h =
    record {
      connected = h.connected;
      disconnect = h.disconnect;
      started = more limits text s.started line h.started;
      paused = h.paused;
      resumed = h.resumed;
      cancelled = h.cancelled;
      done = h.done;
    }
more-sound limits point.Paused text s line h =
    record {
      connected = h.connected;
      disconnect = h.disconnect;
      started = h.started;
      paused = more limits text s.paused line h.paused;
      resumed = h.resumed;
      cancelled = h.cancelled;
      done = h.done;
    }
more-sound limits point.Resumed text s line h =
    record {
      connected = h.connected;
      disconnect = h.disconnect;
      started = h.started;
      paused = h.paused;
      resumed = more limits text s.resumed line h.resumed;
      cancelled = h.cancelled;
      done = h.done;
    }
more-sound limits point.Cancelled text s line h =
    record {
      connected = h.connected;
      disconnect = h.disconnect;
      started = h.started;
      paused = h.paused;
      resumed = h.resumed;
      cancelled = more limits text s.cancelled line h.cancelled;
      done = h.done;
    }
more-sound limits point.Done text s line h =
    record {
      connected = h.connected;
      disconnect = h.disconnect;
      started = h.started;
      paused = h.paused;
      resumed = h.resumed;
      cancelled = h.cancelled;
      done = more limits text s.done line h.done;
    }

none-sound : (limits : Limits) → AreSound limits no_scripts
none-sound limits =
    record {
      connected = All-nil (IsScriptLine limits);
      disconnect = All-nil (IsScriptLine limits);
      started = All-nil (IsScriptLine limits);
      paused = All-nil (IsScriptLine limits);
      resumed = All-nil (IsScriptLine limits);
      cancelled = All-nil (IsScriptLine limits);
      done = All-nil (IsScriptLine limits);
    }

at-each : (limits : Limits) (s : ScriptTexts) → AreSound limits s → AreScripts limits s
at-each limits s h point.Connected = h.connected
at-each limits s h point.Disconnect = h.disconnect
at-each limits s h point.Started = h.started
at-each limits s h point.Paused = h.paused
at-each limits s h point.Resumed = h.resumed
at-each limits s h point.Cancelled = h.cancelled
at-each limits s h point.Done = h.done

lines-sound : (limits : Limits) (p : Point) (n : ℕ) (lines : List (List ℕ)) (s next : ScriptTexts) → with_lines limits p n lines s ≡ Ok next →
    AreSound limits s → AreSound limits next
lines-sound limits p n [] s next h sound = let same : s ≡ next = cc in subst (AreSound limits) same sound
lines-sound limits p n (line ∷ lines) s next h sound =
    let m = made (command_of limits p n line) (λ text. with_lines limits p (n + 1) lines (with_text p text s)) next h in
    lines-sound limits p (n + 1) lines (with_text p m.0 s) next m.2 (more-sound limits p m.0 s (command-line limits p n line m.0 m.1) sound)

texts-by : (limits : Limits) (p : Point) (lines : List (List ℕ)) (s next : ScriptTexts) (b : Bool) →
    cond b (with_lines limits p 1 lines s) (Err (OutOfRange (script_key p))) ≡ Ok next → AreSound limits s → AreSound limits next
texts-by limits p lines s next true h sound = lines-sound limits p 1 lines s next h sound
texts-by limits p lines s next false h sound = absurd (cc)

script-sound : (limits : Limits) (p : Point) (value : Option Data) (s next : ScriptTexts) → with_script limits p value s ≡ Ok next → AreSound limits s →
    AreSound limits next
script-sound limits p None s next h sound = let same : s ≡ next = cc in subst (AreSound limits) same sound
script-sound limits p (Some value) s next h sound =
    let m = made (text_values (script_key p) value) (λ lines. with_texts limits p lines s) next h in
    texts-by limits p m.0 s next (nat_le (length (texts_at p s) + length m.0) 64) m.2 sound

scripts-sound : (limits : Limits) (entries : Members) (points : List Point) (s next : ScriptTexts) → scripts_at limits entries points s ≡ Ok next →
    AreSound limits s → AreSound limits next
scripts-sound limits entries [] s next h sound = let same : s ≡ next = cc in subst (AreSound limits) same sound
scripts-sound limits entries (p ∷ points) s next h sound =
    let m = made (with_script limits p (get_member (script_name p) entries) s) (scripts_at limits entries points) next h in
    scripts-sound limits entries points m.0 next m.2 (script-sound limits p (get_member (script_name p) entries) s m.0 m.1 sound)

pub all-scripts-sound : (limits : Limits) (value : Option Data) (scripts : ScriptTexts) → scripts_of limits value ≡ Ok scripts → AreScripts limits scripts
all-scripts-sound limits value scripts h =
    let m = made (section (codes "scripts") value) (λ members. scripts_at limits members all_points no_scripts) scripts h in
    at-each limits scripts (scripts-sound limits m.0 all_points no_scripts scripts m.2 (none-sound limits))

pub none-at : (limits : Limits) → AreScripts limits no_scripts
none-at limits = at-each limits no_scripts (none-sound limits)
