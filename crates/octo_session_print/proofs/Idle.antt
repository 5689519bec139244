-- When a desk returns no line, and what then ends.
use Rattle.std.proofs.Common.{◌≡◌, ℕ, zero, suc, ◌≤◌, ◌<◌, Bool, true, false, cond, nat_le, ◌&&◌, ◌||◌, not, ◌==◌, codes, List, [], ◌∷◌, length, slice_get, Option, None, Some, refl, sym, ◌∙◌, ap, arith}
use Rattle.std.proofs.lemmas.Bool.{false≢true, le-leb, eq-eqb}
use Rattle.job_desk.specs.Data.{Data, Line, commands_of, with_script, moment_after}
use Rattle.job_desk.specs.Table.{closing_line, is_closable, is_closable_at}
use Rattle.job_desk.specs.Pull.{Drawn, draw_in_order, issue, from_scripts, from_manual, from_poll, poll_is_due, from_probe, from_file, draw_last, draw_at, is_issued, settle_at, settled, pull_step}
use Rattle.job_desk.specs.Note.{end_at, is_over, finish, note_step, with_acked}
use Rattle.job_desk.specs.declared.state.State.{State}
use Rattle.job_desk.specs.declared.state.State.TheVariants.{Offline, Connecting, Operational, Printing, Pausing, Paused, Cancelling, Finishing, Closing, Fault}
use Rattle.job_desk.specs.declared.state.Point.TheVariants as point
use Rattle.job_desk.specs.declared.state.Tag.TheVariants.{Poll}
use Rattle.job_desk.specs.declared.link_fact.LinkFact.TheVariants as fact
use Rattle.print_queue.specs.declared.ending.Outcome.TheVariants as outcome
use Rattle.job_desk.proofs.Probes.{plain_closing}
use Rattle.octo_session_print.specs.Plan.{PrintData, print_commands}
use Rattle.octo_session_print.specs.Underway.{standing, IsUnderway}
use Rattle.octo_session_print.specs.Remaining.{is_giving}
use Rattle.octo_session_print.proofs.Phases.{printing_of, finishing_of}
use Rattle.octo_session_print.proofs.Pulling.{file_commands}

module _ (p : PrintData) where
  no_script_left : (w : List Line) (d : Data) (next : Drawn) → (from_scripts w d next).0 ≡ None → (w ≡ []) × (next.0 ≡ None)
  no_script_left [] d next e = (refl, e)
  no_script_left (line ∷ rest) d next e = absurd (cc e)

  no_poll : (b : Bool) (line : Line) (d : Data) (next : Drawn) → (cond b (issue line d) next).0 ≡ None → next.0 ≡ None
  no_poll true line d next e = absurd (cc e)
  no_poll false line d next e = e

  no_manual_left : (m : List (List ℕ)) (d : Data) (next : Drawn) → (from_manual m d next).0 ≡ None → next.0 ≡ None
  no_manual_left [] d next e = e
  no_manual_left (text ∷ texts) d next e = absurd (cc e)

  talk_left : (moment : ℕ) (d : Data) (next : Drawn) → (draw_in_order moment d next).0 ≡ None → (d.waiting ≡ []) × (next.0 ≡ None)
  talk_left moment d next e =
      let asked : Data = record d { poll_at = moment_after moment d.poll_ms } in
      let a = no_script_left d.waiting d (from_manual d.manual d (from_poll moment d next)) e in
      (a.0, no_poll (poll_is_due moment d) (record { text = codes "M105"; tag = Poll }) asked next (no_manual_left d.manual d (from_poll moment d next) a.1))

  no_command : (text : Option (List ℕ)) (d : Data) → (from_file text d).0 ≡ None → text ≡ None
  no_command None d e = refl
  no_command (Some text) d e = absurd (cc e)

  past_end : (texts : List (List ℕ)) (n : ℕ) → slice_get texts n ≡ None → length texts ≤ n
  past_end [] n e = omega arith
  past_end (text ∷ texts) zero e = absurd (cc e)
  past_end (text ∷ texts) (suc n) e = let rest = past_end texts n e in omega (arith, rest)

  is_all : (d : Data) → d.waiting ≡ [] → d.cursor ≡ length (commands_of d.file) → is_issued d ≡ true
  is_all d none last =
      ap (λ (w : List Line). (length w == 0) && (d.cursor == length (commands_of d.file))) none ∙ eq-eqb d.cursor (length (commands_of d.file)) last

  -- a settled desk that prints returns a line
  prints_on : (moment : ℕ) (d : Data) (issued : List (List ℕ)) → settled d ≡ d → d.state ≡ Printing → (draw_at Printing moment d).0 ≡ None
      → IsUnderway p d issued → ⊥
  prints_on moment d issued quiet at e h =
      let on = printing_of p (standing d) h.lines h.phase at in
      let left = talk_left moment d (from_file (slice_get (commands_of d.file) d.cursor) d) e in
      let past : length (commands_of d.file) ≤ d.cursor = past_end (commands_of d.file) d.cursor
      (no_command (slice_get (commands_of d.file) d.cursor) d left.1) in
      let same : length (commands_of d.file) ≡ length (print_commands p) = ap (λ (l : List (List ℕ)). length l) (file_commands p d h.file_is) in
      let below : d.cursor ≤ length (print_commands p) = on.below in
      let last : d.cursor ≡ length (commands_of d.file) = omega (arith, past, same, below) in
      let goes : (settled d).state ≡ Finishing = ap (λ s. (settle_at s d).state) at
      ∙ ap (λ (b : Bool). (cond b (with_script point.Done d.greatest (record d { state = Finishing })) d).state) (is_all d left.0 last) in
      let clash : Finishing ≡ Printing = sym goes ∙ ap (λ (x : Data). x.state) quiet ∙ at in
      absurd (cc clash)

  idle_in : (s : State) (moment : ℕ) (d : Data) (issued : List (List ℕ)) → d.state ≡ s → is_giving s ≡ true → settled d ≡ d
      → (draw_at s moment d).0 ≡ None → IsUnderway p d issued → (d.waiting ≡ []) × (s ≡ Printing → ⊥)
  idle_in Operational moment d issued at gives quiet e h = ((talk_left moment d (from_probe d.issued moment d) e).0, λ is. absurd (cc is))
  idle_in Finishing moment d issued at gives quiet e h = ((talk_left moment d (from_probe d.issued moment d) e).0, λ is. absurd (cc is))
  idle_in Closing moment d issued at gives quiet e h =
      ((no_script_left d.waiting d (from_probe d.last_line moment d) (ap (λ (b : Bool). (draw_last b moment d).0) (sym h.unstopped) ∙ e)).0, λ is. absurd (cc is))
  idle_in Printing moment d issued at gives quiet e h = absurd (prints_on moment d issued quiet at e h)
  idle_in Offline moment d issued at gives quiet e h = absurd (false≢true gives)
  idle_in Connecting moment d issued at gives quiet e h = absurd (false≢true gives)
  idle_in Pausing moment d issued at gives quiet e h = absurd (false≢true gives)
  idle_in Paused moment d issued at gives quiet e h = absurd (false≢true gives)
  idle_in Cancelling moment d issued at gives quiet e h = absurd (false≢true gives)
  idle_in Fault moment d issued at gives quiet e h = absurd (false≢true gives)

  -- a settled desk of a ready connection that returns no line has none waiting, and no command is left
  pub idle-remaining : (moment : ℕ) (d : Data) (issued : List (List ℕ)) → is_giving d.state ≡ true → settled d ≡ d → (pull_step moment d).0 ≡ None
      → IsUnderway p d issued → (d.waiting ≡ []) × (d.state ≡ Printing → ⊥)
  idle-remaining moment d issued gives quiet e h = idle_in d.state moment d issued refl gives quiet e h

  over_test : (d : Data) (acked moment : ℕ) → d.waiting ≡ [] → d.print_line ≤ acked → is_over (with_acked acked moment d) ≡ true
  over_test d acked moment none below = ap (λ (w : List Line). (length w == 0) && nat_le d.print_line acked) none ∙ le-leb d.print_line acked below

  -- with all lines acknowledged, the next note ends a print that has none left
  pub done-next : (acked moment : ℕ) (d : Data) (issued : List (List ℕ)) → d.state ≡ Finishing → d.waiting ≡ [] → d.issued ≤ acked
      → d.issued < 18446744073709551615 → IsUnderway p d issued
      → (note_step acked fact.Quiet moment d).0 ≡ Some (record { print = 1; outcome = outcome.Done })
  done-next acked moment d issued at none all below h =
      let told : Data = with_acked acked moment d in
      let number : d.print_line ≤ d.issued = (h.counted below).print in
      let over : is_over told ≡ true = over_test d acked moment none (omega (arith, number, all)) in
      let one : d.greatest ≡ 1 = (finishing_of p (standing d) h.lines h.phase at).on.print_is in
      ap (λ s. (end_at s told).0) at ∙ ap (λ (b : Bool). (cond b (finish outcome.Done told) (None, told)).0) over
      ∙ ap (λ (k : ℕ). Some (record { print = k; outcome = outcome.Done })) one

  -- and the connection may be closed
  pub closes-next : (d : Data) → d.numbered ≡ false → d.state ≡ Closing → d.stopped ≡ false → d.waiting ≡ [] → d.issued ≤ d.acked
      → is_closable_at d.state d ≡ true
  closes-next d plain at goes none all =
      let last : closing_line d ≡ d.issued = plain_closing d plain in
      let tests : ((length d.waiting == 0) && nat_le (closing_line d) d.acked) ≡ true =
      ap (λ (w : List Line). (length w == 0) && nat_le (closing_line d) d.acked) none ∙ ap (λ (n : ℕ). nat_le n d.acked) last
      ∙ le-leb d.issued d.acked all in
      ap (λ s. is_closable_at s d) at ∙ ap (λ (b : Bool). is_closable b d) goes ∙ ap (λ (b : Bool). b || not d.ready) tests
