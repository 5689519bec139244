-- A pull issues one of the remaining lines of the plan, or a poll, or nothing is left to issue in its phase.
use Rattle.std.proofs.Common.{◌≡◌, ℕ, suc, ◌+◌, ◌-◌, ◌≤◌, Bool, true, false, cond, codes, List, [], ◌∷◌, ◌++◌, length, slice_get, Option, None, Some, refl, sym, ◌∙◌, ap, subst, arith, length-append}
use Rattle.std.proofs.lemmas.List.{length-map}
use Rattle.std.proofs.lemmas.Bool.{false≢true}
use Rattle.job_desk.specs.Data.{Data, Line, ScriptTexts, script_lines, commands_of, with_script, moment_after}
use Rattle.job_desk.specs.Course.{job_line}
use Rattle.job_desk.specs.Table.{printing, disconnect_at}
use Rattle.job_desk.specs.Pull.{Drawn, draw_in_order, nothing, issue, from_scripts, from_manual, from_poll, poll_is_due, from_probe, probe_is_due, from_file, draw_last, draw_at, is_issued, settle_at, settled, pull_step}
use Rattle.job_desk.specs.Note.{end_at, is_over, finish, after_open, ready_at, note_step, with_acked}
use Rattle.job_desk.specs.declared.state.State.{State}
use Rattle.job_desk.specs.declared.state.State.TheVariants.{Offline, Connecting, Operational, Printing, Pausing, Paused, Cancelling, Finishing, Closing, Fault}
use Rattle.job_desk.specs.declared.state.Point.TheVariants as point
use Rattle.job_desk.specs.declared.state.Tag.TheVariants.{Poll}
use Rattle.job_desk.specs.declared.link_fact.LinkFact.TheVariants as fact
use Rattle.print_queue.specs.declared.ending.Outcome.TheVariants as outcome
use Rattle.octo_session_print.specs.Plan.{PrintData, print_commands}
use Rattle.octo_session.specs.Plan.{plan}
use Rattle.octo_session_print.specs.Underway.{standing, IsUnderway, Suits}
use Rattle.octo_session_print.specs.Progress.{after_pull}
use Rattle.octo_session_print.specs.Remaining.{remaining_at, remaining, is_giving, planned_tag, planned_in}
use Rattle.octo_session_print.proofs.Weaves.{get_below}
use Rattle.octo_session_print.proofs.Planned.{waiting_planned}
use Rattle.octo_session_print.proofs.Phases.{finishing_of, connecting_of, impossible}
use Rattle.octo_session_print.proofs.Issues.{issue_same_standing}
use Rattle.octo_session_print.proofs.Pulling.{file_commands, issued_all, draws}
use Rattle.octo_session_print.proofs.Noting.{acked_more, ends, opens, hears, ready_from, nothing_sent, not_offline}

-- How the count falls.

abbrev Falls : PrintData → Data → Drawn → Type 0
Falls p d drawn = remaining p (standing drawn.1) + planned_in drawn.0 ≡ remaining p (standing d)

one_less : (p : PrintData) (s : State) (print cursor waits : ℕ) → is_giving s ≡ true
    → remaining_at p s print cursor waits + 1 ≡ remaining_at p s print cursor (suc waits)
one_less p Operational print cursor waits e = omega arith
one_less p Printing print cursor waits e = omega arith
one_less p Finishing print cursor waits e = omega arith
one_less p Closing print cursor waits e = omega arith
one_less p Offline print cursor waits e = absurd (false≢true e)
one_less p Connecting print cursor waits e = absurd (false≢true e)
one_less p Pausing print cursor waits e = absurd (false≢true e)
one_less p Paused print cursor waits e = absurd (false≢true e)
one_less p Cancelling print cursor waits e = absurd (false≢true e)
one_less p Fault print cursor waits e = absurd (false≢true e)

module _ (p : PrintData) where
  scripts_fall : (w : List Line) (d : Data) (issued : List (List ℕ)) (next : Drawn) → d.waiting ≡ w → is_giving d.state ≡ true
      → IsUnderway p d issued → (d.waiting ≡ [] → Falls p d next) → Falls p d (from_scripts w d next)
  scripts_fall [] d issued next e gives h others = others e
  scripts_fall (line ∷ rest) d issued next e gives h others =
      let now : Data = record d { waiting = rest } in
      let same_standing : remaining p (standing (issue line now).1) ≡ remaining p (standing now) = ap (remaining p) (issue_same_standing line now) in
      let one : planned_tag line.tag ≡ 1 = waiting_planned p d issued line rest h e in
      let less : remaining p (standing now) + 1 ≡ remaining_at p d.state d.greatest d.cursor (suc (length rest)) =
      one_less p d.state d.greatest d.cursor (length rest) gives in
      let same : remaining_at p d.state d.greatest d.cursor (suc (length rest)) ≡ remaining p (standing d) =
      ap (λ (w : List Line). remaining_at p d.state d.greatest d.cursor (length w)) (sym e) in
      omega (arith, same_standing, one, less, same)

  manual_falls : (m : List (List ℕ)) (d : Data) (next : Drawn) → m ≡ [] → Falls p d next → Falls p d (from_manual m d next)
  manual_falls [] d next e h = h
  manual_falls (text ∷ texts) d next e h = absurd (cc e)

  poll_falls : (b : Bool) (at : ℕ) (d : Data) (next : Drawn) → Falls p d next
      → Falls p d (cond b (issue (record { text = codes "M105"; tag = Poll }) (record d { poll_at = at })) next)
  poll_falls false at d next h = h
  poll_falls true at d next h =
      let same_standing : remaining p (standing (issue (record { text = codes "M105"; tag = Poll }) (record d { poll_at = at })).1) ≡ remaining p
      (standing d) = ap (remaining p) (issue_same_standing (record { text = codes "M105"; tag = Poll }) (record d { poll_at = at })) in
      omega (arith, same_standing)

  none_falls : (d : Data) → Falls p d (nothing d)
  none_falls d = omega arith

  probe_falls : (b : Bool) (at : ℕ) (d : Data)
      → Falls p d (cond b (issue (record { text = codes "M400"; tag = Poll }) (record d { poll_at = at; probe_at = at })) (nothing d))
  probe_falls false at d = none_falls d
  probe_falls true at d =
      let same_standing : remaining p (standing (issue (record { text = codes "M400"; tag = Poll }) (record d { poll_at = at; probe_at = at })).1) ≡ remaining p
      (standing d) = ap (remaining p) (issue_same_standing (record { text = codes "M400"; tag = Poll }) (record d { poll_at = at; probe_at = at })) in
      omega (arith, same_standing)

  probes_fall : (awaited moment : ℕ) (d : Data) → Falls p d (from_probe awaited moment d)
  probes_fall awaited moment d = probe_falls (probe_is_due awaited moment d) (moment_after moment d.poll_ms) d

  talk_falls : (moment : ℕ) (d : Data) (issued : List (List ℕ)) (next : Drawn) → is_giving d.state ≡ true → IsUnderway p d issued
      → (d.waiting ≡ [] → Falls p d next) → Falls p d (draw_in_order moment d next)
  talk_falls moment d issued next gives h others =
      scripts_fall d.waiting d issued (from_manual d.manual d (from_poll moment d next)) refl gives h
      (λ none. manual_falls d.manual d (from_poll moment d next) h.no_manual
      (poll_falls (poll_is_due moment d) (moment_after moment d.poll_ms) d next (others none)))

  command_falls : (text : Option (List ℕ)) (d : Data) (issued : List (List ℕ)) → slice_get (commands_of d.file) d.cursor ≡ text → d.state ≡ Printing
      → IsUnderway p d issued → Falls p d (from_file text d)
  command_falls None d issued e at h = none_falls d
  command_falls (Some text) d issued e at h =
      let there : slice_get (print_commands p) d.cursor ≡ Some text =
      ap (λ (l : List (List ℕ)). slice_get l d.cursor) (sym (file_commands p d h.file_is)) ∙ e in
      let below : d.cursor + 1 ≤ length (print_commands p) = get_below (print_commands p) d.cursor text there in
      let now : Data = record d { cursor = d.cursor + 1 } in
      let same_standing : remaining p (standing (issue (job_line d.greatest d.cursor text) now).1) ≡ remaining p (standing now) =
      ap (remaining p) (issue_same_standing (job_line d.greatest d.cursor text) now) in
      let after : remaining p (standing now) ≡ length d.waiting +
      (length (print_commands p) - (d.cursor + 1)) + length p.scripts.done + length p.scripts.disconnect =
      ap (λ s. remaining_at p s d.greatest (d.cursor + 1) (length d.waiting)) at in
      let before : remaining p (standing d) ≡ length d.waiting +
      (length (print_commands p) - d.cursor) + length p.scripts.done + length p.scripts.disconnect =
      ap (λ s. remaining_at p s d.greatest d.cursor (length d.waiting)) at in
      omega (arith, same_standing, after, before, below)

  draw_falls : (s : State) (moment : ℕ) (d : Data) (issued : List (List ℕ)) → d.state ≡ s → IsUnderway p d issued → Falls p d (draw_at s moment d)
  draw_falls Operational moment d issued at h =
      talk_falls moment d issued (from_probe d.issued moment d) (ap is_giving at) h (λ none. probes_fall d.issued moment d)
  draw_falls Printing moment d issued at h = talk_falls moment d issued (from_file (slice_get (commands_of d.file) d.cursor) d) (ap is_giving at) h
      (λ none. command_falls (slice_get (commands_of d.file) d.cursor) d issued refl at h)
  draw_falls Finishing moment d issued at h =
      talk_falls moment d issued (from_probe d.issued moment d) (ap is_giving at) h (λ none. probes_fall d.issued moment d)
  draw_falls Closing moment d issued at h =
      subst (λ (b : Bool). Falls p d (draw_last b moment d)) (sym h.unstopped)
      (scripts_fall d.waiting d issued (from_probe d.last_line moment d) refl (ap is_giving at) h (λ none. probes_fall d.last_line moment d))
  draw_falls Pausing moment d issued at h = impossible _ p (standing d) h.lines Pausing h.phase at refl
  draw_falls Paused moment d issued at h = impossible _ p (standing d) h.lines Paused h.phase at refl
  draw_falls Cancelling moment d issued at h = impossible _ p (standing d) h.lines Cancelling h.phase at refl
  draw_falls Offline moment d issued at h = none_falls d
  draw_falls Connecting moment d issued at h = none_falls d
  draw_falls Fault moment d issued at h = none_falls d

  -- what settles leaves the count
  settle_cond : (b : Bool) (d : Data) (issued : List (List ℕ)) → is_issued d ≡ b → d.state ≡ Printing → IsUnderway p d issued
      → remaining p (standing (cond b (with_script point.Done d.greatest (record d { state = Finishing })) d)) ≡ remaining p (standing d)
  settle_cond false d issued t at h = refl
  settle_cond true d issued t at h =
      let all = issued_all p d h.file_is t in
      let waits : length (d.waiting ++ script_lines d.scripts point.Done d.greatest) ≡ length d.waiting + length
      (script_lines d.scripts point.Done d.greatest) = length-append d.waiting (script_lines d.scripts point.Done d.greatest) in
      let script : length (script_lines d.scripts point.Done d.greatest) ≡ length p.scripts.done = length-map d.scripts.done _
      ∙ ap (λ (s : ScriptTexts). length s.done) h.scripts_are in
      let before : remaining p (standing d) ≡ length d.waiting +
      (length (print_commands p) - d.cursor) + length p.scripts.done + length p.scripts.disconnect =
      ap (λ s. remaining_at p s d.greatest d.cursor (length d.waiting)) at in
      omega (arith, waits, script, before, all.1)

  settle_same : (s : State) (d : Data) (issued : List (List ℕ)) → d.state ≡ s → IsUnderway p d issued
      → remaining p (standing (settle_at s d)) ≡ remaining p (standing d)
  settle_same Printing d issued at h = settle_cond (is_issued d) d issued refl at h
  settle_same Offline d issued at h = refl
  settle_same Connecting d issued at h = refl
  settle_same Operational d issued at h = refl
  settle_same Pausing d issued at h = refl
  settle_same Paused d issued at h = refl
  settle_same Cancelling d issued at h = refl
  settle_same Finishing d issued at h = refl
  settle_same Closing d issued at h = refl
  settle_same Fault d issued at h = refl

  -- a pull issues one of the remaining lines, or a poll, or nothing
  pub pull-remaining : (moment : ℕ) (d : Data) (issued : List (List ℕ)) → IsUnderway p d issued
      → remaining p (standing (pull_step moment d).1) + planned_in (pull_step moment d).0 ≡ remaining p (standing d)
  pull-remaining moment d issued h =
      let drawn : Drawn = draw_at d.state moment d in
      let falls : Falls p d drawn = draw_falls d.state moment d issued refl h in
      let same : remaining p (standing (settled drawn.1)) ≡ remaining p (standing drawn.1) =
      settle_same drawn.1.state drawn.1 (after_pull drawn.0 issued) refl (draws p d.state moment d issued refl h) in
      omega (arith, falls, same)

  -- a desk that connects has all lines of the plan before it
  pub connecting-remaining : (d : Data) → d.state ≡ Connecting → remaining p (standing d) ≡ length (plan p.scripts (print_commands p))
  connecting-remaining d at = ap (λ s. remaining_at p s d.greatest d.cursor (length d.waiting)) at

  end_cond : (b : Bool) (d : Data) (issued : List (List ℕ)) → d.state ≡ Finishing → IsUnderway p d issued
      → remaining p (standing (cond b (finish outcome.Done d) (None, d)).1) ≡ remaining p (standing d)
  end_cond false d issued at h = refl
  end_cond true d issued at h =
      let one : d.greatest ≡ 1 = (finishing_of p (standing d) h.lines h.phase at).on.print_is in
      let after : remaining p (standing (finish outcome.Done d).1) ≡ length d.waiting + length p.scripts.disconnect =
      ap (λ (k : ℕ). remaining_at p Operational k d.cursor (length d.waiting)) one in
      let before : remaining p (standing d) ≡ length d.waiting + length p.scripts.disconnect =
      ap (λ s. remaining_at p s d.greatest d.cursor (length d.waiting)) at in
      after ∙ sym before

  end_same : (s : State) (d : Data) (issued : List (List ℕ)) → d.state ≡ s → IsUnderway p d issued
      → remaining p (standing (end_at s d).1) ≡ remaining p (standing d)
  end_same Finishing d issued at h = end_cond (is_over d) d issued at h
  end_same Pausing d issued at h = impossible _ p (standing d) h.lines Pausing h.phase at refl
  end_same Cancelling d issued at h = impossible _ p (standing d) h.lines Cancelling h.phase at refl
  end_same Offline d issued at h = refl
  end_same Connecting d issued at h = refl
  end_same Operational d issued at h = refl
  end_same Printing d issued at h = refl
  end_same Paused d issued at h = refl
  end_same Closing d issued at h = refl
  end_same Fault d issued at h = refl

  -- what ends and then settles leaves the count
  ended_same : (d : Data) (issued : List (List ℕ)) → IsUnderway p d issued → remaining p (standing (settled (end_at d.state d).1)) ≡ remaining p (standing d)
  ended_same d issued h =
      let done : Data = (end_at d.state d).1 in
      settle_same done.state done issued refl (ends p d.state d issued refl h).0 ∙ end_same d.state d issued refl h

  ready_same : (s : State) (moment : ℕ) (d : Data) (issued : List (List ℕ)) → d.state ≡ s → IsUnderway p d issued
      → remaining p (standing (ready_at s moment d)) ≡ remaining p (standing d)
  ready_same Connecting moment d issued at h =
      let n = nothing_sent p d issued h at in
      let none : d.greatest ≡ 0 = (connecting_of p (standing d) h.lines h.phase at).free.print_is in
      let s : ScriptTexts = p.scripts in
      let c : List (List ℕ) = print_commands p in
      let waits : length (d.waiting ++ script_lines d.scripts point.Connected 0) ≡ length d.waiting + length
      (script_lines d.scripts point.Connected 0) = length-append d.waiting (script_lines d.scripts point.Connected 0) in
      let empty_now : length d.waiting ≡ 0 = ap length n.1 in
      let script : length (script_lines d.scripts point.Connected 0) ≡ length s.connected = length-map d.scripts.connected _
      ∙ ap (λ (t : ScriptTexts). length t.connected) h.scripts_are in
      let after : remaining p (standing (ready_at Connecting moment d)) ≡ length (d.waiting ++ script_lines d.scripts point.Connected 0) +
      (length s.started + length c + length s.done + length s.disconnect) =
      ap (λ (k : ℕ). remaining_at p Operational k d.cursor (length (d.waiting ++ script_lines d.scripts point.Connected 0))) none in
      let before : remaining p (standing d) ≡ length (plan s c) = connecting-remaining d at in
      let e1 = length-append (s.connected ++ s.started ++ c ++ s.done) s.disconnect in
      let e2 = length-append (s.connected ++ s.started ++ c) s.done in
      let e3 = length-append (s.connected ++ s.started) c in
      let e4 = length-append s.connected s.started in
      omega (arith, waits, empty_now, script, after, before, e1, e2, e3, e4)
  ready_same Offline moment d issued at h = refl
  ready_same Operational moment d issued at h = refl
  ready_same Printing moment d issued at h = refl
  ready_same Pausing moment d issued at h = refl
  ready_same Paused moment d issued at h = refl
  ready_same Cancelling moment d issued at h = refl
  ready_same Finishing moment d issued at h = refl
  ready_same Closing moment d issued at h = refl
  ready_same Fault moment d issued at h = refl

  -- notes without a failure leave the count
  pub quiet-remaining : (acked moment : ℕ) (d : Data) (issued : List (List ℕ)) → Suits fact.Quiet acked d → IsUnderway p d issued
      → remaining p (standing (note_step acked fact.Quiet moment d).1) ≡ remaining p (standing d)
  quiet-remaining acked moment d issued s h = ended_same (with_acked acked moment d) issued (acked_more p acked moment d issued (λ off. s) h)

  pub opened-remaining : (acked moment : ℕ) (d : Data) (issued : List (List ℕ)) → Suits fact.Opened acked d → IsUnderway p d issued
      → remaining p (standing (note_step acked fact.Opened moment d).1) ≡ remaining p (standing d)
  opened-remaining acked moment d issued s h =
      let told : Data = with_acked acked moment d in
      ended_same (after_open told) [] (opens p told issued s (acked_more p acked moment d issued (not_offline p d acked s) h))

  pub ready-remaining : (acked moment : ℕ) (d : Data) (issued : List (List ℕ)) → Suits fact.Ready acked d → IsUnderway p d issued
      → remaining p (standing (note_step acked fact.Ready moment d).1) ≡ remaining p (standing d)
  ready-remaining acked moment d issued s h =
      let heard : Data = record (with_acked acked moment d) { ready = true } in
      let is : Data = ready_at heard.state moment heard in
      let now : IsUnderway p heard issued = hears p (with_acked acked moment d) issued (acked_more p acked moment d issued (λ off. s) h) in
      ended_same is issued (ready_from p heard.state moment heard issued refl refl now) ∙ ready_same heard.state moment heard issued refl now

  -- and so do the print's calls
  pub start-remaining : (d : Data) (issued : List (List ℕ)) → d.state ≡ Operational → d.greatest ≡ 0 → IsUnderway p d issued
      → remaining p (standing (printing 1 d)) ≡ remaining p (standing d)
  start-remaining d issued at new h =
      let waits : length (d.waiting ++ script_lines d.scripts point.Started 1) ≡ length d.waiting + length (script_lines d.scripts point.Started 1) =
      length-append d.waiting (script_lines d.scripts point.Started 1) in
      let script : length (script_lines d.scripts point.Started 1) ≡ length p.scripts.started = length-map d.scripts.started _
      ∙ ap (λ (t : ScriptTexts). length t.started) h.scripts_are in
      let before : remaining p (standing d) ≡ length d.waiting +
      (length p.scripts.started + length (print_commands p) + length p.scripts.done + length p.scripts.disconnect) =
      ap (λ s. remaining_at p s d.greatest d.cursor (length d.waiting)) at ∙ ap (λ (k : ℕ). remaining_at p Operational k d.cursor (length d.waiting)) new in
      omega (arith, waits, script, before)

  pub disconnect-remaining : (d : Data) (issued : List (List ℕ)) → d.state ≡ Operational → d.greatest ≡ 1 → IsUnderway p d issued
      → remaining p (standing (disconnect_at d.state d)) ≡ remaining p (standing d)
  disconnect-remaining d issued at over h =
      let waits : length (d.waiting ++ script_lines d.scripts point.Disconnect 0) ≡ length d.waiting + length
      (script_lines d.scripts point.Disconnect 0) = length-append d.waiting (script_lines d.scripts point.Disconnect 0) in
      let script : length (script_lines d.scripts point.Disconnect 0) ≡ length p.scripts.disconnect = length-map d.scripts.disconnect _
      ∙ ap (λ (t : ScriptTexts). length t.disconnect) h.scripts_are in
      let before : remaining p (standing d) ≡ length d.waiting + length p.scripts.disconnect =
      ap (λ s. remaining_at p s d.greatest d.cursor (length d.waiting)) at ∙ ap (λ (k : ℕ). remaining_at p Operational k d.cursor (length d.waiting)) over in
      let after : remaining p (standing (disconnect_at d.state d)) ≡ length (d.waiting ++ script_lines d.scripts point.Disconnect 0) =
      ap (λ s. remaining p (standing (disconnect_at s d))) at in
      omega (arith, waits, script, before, after)
