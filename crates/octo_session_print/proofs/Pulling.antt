-- A pull issues the plan's next text, or a poll, or nothing.
use Rattle.std.proofs.Common.{◌≡◌, ℕ, ◌+◌, ◌<◌, min, Bool, true, false, cond, nat_le, nat_lt, ◌&&◌, ◌==◌, take, codes, List, [], ◌∷◌, ◌++◌, length, slice_get, Option, None, Some, refl, sym, ◌∙◌, ap, subst, arith, append_assoc}
use Rattle.std.proofs.lemmas.List.{append-nil}
use Rattle.job_desk.specs.Data.{Data, Line, with_script, script_lines, commands_of, moment_after}
use Rattle.job_desk.specs.Pull.{Drawn, draw_idle, draw_in_order, nothing, issue, from_scripts, from_manual, poll_is_due, from_probe, put_off, probe_is_due, from_file, draw_last, draw_at, is_issued, settle_at, settled, pull_step}
use Rattle.job_desk.specs.Course.{job_line}
use Rattle.job_desk.specs.Plain.{numbered}
use Rattle.job_desk.specs.declared.state.State.{State}
use Rattle.job_desk.specs.declared.state.State.TheVariants.{Offline, Connecting, Operational, Printing, Pausing, Paused, Cancelling, Finishing, Closing, Fault}
use Rattle.job_desk.specs.declared.state.Point.TheVariants as point
use Rattle.job_desk.specs.declared.state.Tag.TheVariants.{Poll}
use Rattle.job_desk.proofs.Noted.{no_lines}
use Rattle.octo_session_print.specs.Plan.{PrintData, print_commands, started_lines, printed_lines, done_lines}
use Rattle.octo_session.specs.Plan.{Weave}
use Rattle.octo_session_print.specs.Underway.{Standing, standing, IsOpen, IsPrinting, Phase, IsCounted, IsUnderway}
use Rattle.octo_session_print.specs.Underway as phase
pub use Rattle.octo_session_print.specs.Progress.{after_pull}
use Rattle.octo_session_print.proofs.Weaves.{weave_planned, weave_polled, weave_probed, texts_append, printed_more, printed_all, get_below}
use Rattle.octo_session_print.specs.Remaining.{planned_tag}
use Rattle.octo_session_print.proofs.Issues.{IsIssue, issue_tag, counts_on, first_all, first_same}
use Rattle.octo_session_print.proofs.Planned.{waiting_planned}
use Rattle.octo_session_print.proofs.Phases.{next_waits, printing_of}
use Rattle.octo_session.specs.Turn.{texts_in}
use Rattle.std.proofs.lemmas.Bool.{and_parts, eqb-true}

-- the desk's file is the print's
pub file_commands : (p : PrintData) (d : Data) → d.file ≡ Some p.file → commands_of d.file ≡ print_commands p
file_commands p d e = ap commands_of e

-- all lines but those of the Done script were issued
pub issued_all : (p : PrintData) (d : Data) → d.file ≡ Some p.file → is_issued d ≡ true → (d.waiting ≡ []) × (d.cursor ≡ length (print_commands p))
issued_all p d e t =
    let none : d.waiting ≡ [] = no_lines d.waiting (and_parts (length d.waiting == 0) (d.cursor == length (commands_of d.file)) t).0 in
    let last : d.cursor ≡ length (commands_of d.file) = eqb-true d.cursor (length (commands_of d.file))
    (and_parts (length d.waiting == 0) (d.cursor == length (commands_of d.file)) t).1 in
    (none, last ∙ ap (λ (l : List (List ℕ)). length l) (file_commands p d e))

module _ (p : PrintData) where
  -- the print after a draw
  abbrev pub Kept : List (List ℕ) → Drawn → Type 0
  Kept issued drawn = IsUnderway p drawn.1 (after_pull drawn.0 issued)

  -- a line is issued at such a desk, and the sent lines are then these
  issues : (line : Line) (d : Data) (issued : List (List ℕ)) (sent lines : List Line) → d.numbered ≡ p.numbered → d.scripts ≡ p.scripts
      → d.limits ≡ p.limits
      → d.file ≡ Some p.file → d.manual ≡ [] → d.stopped ≡ false → Phase p (standing d) lines → sent ++ d.waiting ≡ lines
      → Weave p.numbered (issued ++ line.text ∷ []) (texts_in sent) → (d.issued < 18446744073709551615 → IsCounted d issued)
      → ((issue line d).1.issued < 18446744073709551615 → Weave p.numbered (take (issue line d).1.last_line (issued ++ line.text ∷ [])) (texts_in sent))
      → (d.state ≡ Offline → ⊥) → Kept issued (issue line d)
  issues line d issued sent lines numbers scripts limits file manual goes h parted woven counted by_last online =
      let i : IsIssue d (issue line d).1 = issue_tag line.tag d in
      record {
        numbered_is = i.numbered ∙ numbers;
        scripts_are = i.scripts ∙ scripts;
        limits_are = i.limits ∙ limits;
        file_is = i.file ∙ file;
        no_manual = i.manual ∙ manual;
        unstopped = i.stopped ∙ goes;
        lines = lines;
        phase = subst (λ s. Phase p s lines) (sym i.same_standing) h;
        sent = sent;
        parted = ap (λ (s : Standing). sent ++ s.waiting) i.same_standing ∙ parted;
        woven = woven;
        counted = counts_on d (issue line d).1 issued line.text i counted;
        by_last = by_last;
        acknowledged = λ off. absurd (online (sym (ap (λ (s : Standing). s.state) i.same_standing) ∙ off));
      }

  -- of a line of the plan
  by_planned : (line : Line) (d : Data) (issued : List (List ℕ)) (sent : List Line) → planned_tag line.tag ≡ 1
      → (d.issued < 18446744073709551615 → IsCounted d issued) → Weave p.numbered (issued ++ line.text ∷ []) (texts_in sent)
      → (issue line d).1.issued < 18446744073709551615 → Weave p.numbered (take (issue line d).1.last_line (issued ++ line.text ∷ [])) (texts_in sent)
  by_planned line d issued sent one counted woven below =
      subst (λ (l : List (List ℕ)). Weave p.numbered l (texts_in sent)) (sym (first_all line d issued one counted below)) woven

  -- of a poll
  by_poll : (text : List ℕ) (d : Data) (issued : List (List ℕ)) (sent : List Line) → (d.issued < 18446744073709551615 → IsCounted d issued)
      → (d.issued < 18446744073709551615 → Weave p.numbered (take d.last_line issued) (texts_in sent))
      → (issue (record { text = text; tag = Poll }) d).1.issued < 18446744073709551615
      → Weave p.numbered (take d.last_line (issued ++ text ∷ [])) (texts_in sent)
  by_poll text d issued sent counted before below =
      let next : (issue (record { text = text; tag = Poll }) d).1.issued ≡ min (d.issued + 1) 18446744073709551615 = (issue_tag Poll d).number in
      let fits : d.issued < 18446744073709551615 = omega (arith, next, below) in
      subst (λ (l : List (List ℕ)). Weave p.numbered l (texts_in sent)) (sym (first_same text d issued counted below)) (before fits)

  scripts_first : (w : List Line) (d : Data) (next : Drawn) (issued : List (List ℕ)) → d.waiting ≡ w → (d.state ≡ Offline → ⊥)
      → IsUnderway p d issued → (d.waiting ≡ [] → Kept issued next) → Kept issued (from_scripts w d next)
  scripts_first [] d next issued e online h others = others e
  scripts_first (line ∷ rest) d next issued e online h others =
      let split : (h.sent ++ line ∷ []) ++ rest ≡ h.lines = append_assoc h.sent (line ∷ []) rest ∙ ap (λ (w : List Line). h.sent ++ w) (sym e) ∙ h.parted in
      let more : texts_in (h.sent ++ line ∷ []) ≡ texts_in h.sent ++ line.text ∷ [] = texts_append h.sent (line ∷ []) in
      let now : Data = record d { waiting = rest } in
      let counted : now.issued < 18446744073709551615 → IsCounted now issued =
      λ below. (let c = h.counted below in record { all = c.all; print = c.print; last = c.last }) in
      let woven : Weave p.numbered (issued ++ line.text ∷ []) (texts_in (h.sent ++ line ∷ [])) =
      subst (λ part. Weave p.numbered (issued ++ line.text ∷ []) part) (sym more)
      (weave_planned p.numbered issued (texts_in h.sent) line.text h.woven) in
      issues line now issued (h.sent ++ line ∷ []) h.lines h.numbered_is h.scripts_are h.limits_are h.file_is h.no_manual h.unstopped
      (next_waits p (standing d) h.lines line rest e h.phase) split woven counted
      (by_planned line now issued (h.sent ++ line ∷ []) (waiting_planned p d issued line rest h e) counted woven) online

  no_manual_line : (m : List (List ℕ)) (d : Data) (next : Drawn) (issued : List (List ℕ)) → m ≡ [] → Kept issued next → Kept issued (from_manual m d next)
  no_manual_line [] d next issued e h = h
  no_manual_line (text ∷ texts) d next issued e h = absurd (cc e)

  polls : (b : Bool) (at : ℕ) (d : Data) (next : Drawn) (issued : List (List ℕ)) → (d.state ≡ Offline → ⊥) → IsUnderway p d issued → Kept issued next
      → Kept issued (cond b (issue (record { text = codes "M105"; tag = Poll }) (record d { poll_at = at })) next)
  polls false at d next issued online h other = other
  polls true at d next issued online h other =
      let now : Data = record d { poll_at = at } in
      let counted : now.issued < 18446744073709551615 → IsCounted now issued =
      λ below. (let c = h.counted below in record { all = c.all; print = c.print; last = c.last }) in
      issues (record { text = codes "M105"; tag = Poll }) now issued h.sent h.lines h.numbered_is h.scripts_are h.limits_are h.file_is h.no_manual h.unstopped
      h.phase h.parted (weave_polled p.numbered issued (texts_in h.sent) h.woven) counted
      (by_poll (codes "M105") now issued h.sent counted h.by_last) online

  -- a probe comes only if `ok`s have numbers
  probes_if : (b : Bool) (awaited moment : ℕ) (d : Data) (issued : List (List ℕ)) → probe_is_due awaited moment d ≡ b → (d.state ≡ Offline → ⊥)
      → IsUnderway p d issued
      → Kept issued (cond b (issue (record { text = codes "M400"; tag = Poll }) (put_off moment d)) (nothing d))
  probes_if false awaited moment d issued is online h = h
  probes_if true awaited moment d issued is online h =
      let now : Data = put_off moment d in
      let on : p.numbered ≡ true = sym h.numbered_is ∙ (and_parts d.numbered (nat_le d.probe_at moment && nat_lt d.acked awaited) is).0 in
      let counted : now.issued < 18446744073709551615 → IsCounted now issued =
      λ below. (let c = h.counted below in record { all = c.all; print = c.print; last = c.last }) in
      issues (record { text = codes "M400"; tag = Poll }) now issued h.sent h.lines h.numbered_is h.scripts_are h.limits_are h.file_is h.no_manual h.unstopped
      h.phase h.parted (weave_probed p.numbered issued (texts_in h.sent) on h.woven) counted
      (by_poll (codes "M400") now issued h.sent counted h.by_last) online

  probes : (awaited moment : ℕ) (d : Data) (issued : List (List ℕ)) → (d.state ≡ Offline → ⊥) → IsUnderway p d issued
      → Kept issued (from_probe awaited moment d)
  probes awaited moment d issued online h = probes_if (probe_is_due awaited moment d) awaited moment d issued refl online h

  talks : (moment : ℕ) (d : Data) (next : Drawn) (issued : List (List ℕ)) → (d.state ≡ Offline → ⊥) → IsUnderway p d issued
      → (d.waiting ≡ [] → Kept issued next) → Kept issued (draw_in_order moment d next)
  talks moment d next issued online h other =
      scripts_first d.waiting d _ issued refl online h (λ none. no_manual_line d.manual d _ issued h.no_manual
      (polls (poll_is_due moment d) (moment_after moment d.poll_ms) d next issued online h (other none)))

  -- scripts, polls and probes
  idles : (moment : ℕ) (d : Data) (issued : List (List ℕ)) → (d.state ≡ Offline → ⊥) → IsUnderway p d issued → Kept issued (draw_idle moment d)
  idles moment d issued online h = talks moment d (from_probe d.issued moment d) issued online h (λ none. probes d.issued moment d issued online h)

  -- the next file command
  commands_next : (text : Option (List ℕ)) (d : Data) (issued : List (List ℕ)) → slice_get (commands_of d.file) d.cursor ≡ text → d.state ≡ Printing
      → IsUnderway p d issued → d.waiting ≡ [] → Kept issued (from_file text d)
  commands_next None d issued e at h none = h
  commands_next (Some text) d issued e at h none =
      let on = printing_of p (standing d) h.lines h.phase at in
      let there : slice_get (print_commands p) d.cursor ≡ Some text =
      ap (λ (l : List (List ℕ)). slice_get l d.cursor) (sym (file_commands p d h.file_is)) ∙ e in
      let line : Line = job_line d.greatest d.cursor text in
      let one : line ≡ job_line 1 d.cursor text = ap (λ (k : ℕ). job_line k d.cursor text) on.on.print_is in
      let before : h.sent ≡ printed_lines p d.cursor = sym (append-nil h.sent) ∙ ap (λ (w : List Line). h.sent ++ w) (sym none) ∙ h.parted ∙ on.are in
      let after : (h.sent ++ line ∷ []) ++ d.waiting ≡ printed_lines p (d.cursor + 1) =
      ap (λ (w : List Line). (h.sent ++ line ∷ []) ++ w) none ∙ append-nil (h.sent ++ line ∷ []) ∙ ap (λ (l : List Line). l ++ line ∷ []) before
      ∙ ap (λ (l : Line). printed_lines p d.cursor ++ l ∷ []) one ∙ sym (printed_more p d.cursor text there) in
      let more : texts_in (h.sent ++ line ∷ []) ≡ texts_in h.sent ++ text ∷ [] = texts_append h.sent (line ∷ []) in
      let now : Data = record d { cursor = d.cursor + 1 } in
      let counted : now.issued < 18446744073709551615 → IsCounted now issued =
      λ below. (let c = h.counted below in record { all = c.all; print = c.print; last = c.last }) in
      let woven : Weave p.numbered (issued ++ text ∷ []) (texts_in (h.sent ++ line ∷ [])) =
      subst (λ part. Weave p.numbered (issued ++ text ∷ []) part) (sym more) (weave_planned p.numbered issued (texts_in h.sent) text h.woven) in
      issues line now issued (h.sent ++ line ∷ [])
      (printed_lines p (d.cursor + 1)) h.numbered_is h.scripts_are h.limits_are h.file_is h.no_manual h.unstopped
      (phase.printing (record { its_state = on.opened.its_state; ready_is = on.opened.ready_is })
      (record { print_is = on.on.print_is; active_is = on.on.active_is }) (get_below (print_commands p) d.cursor text there))
      after woven counted (by_planned line now issued (h.sent ++ line ∷ []) refl counted woven)
      (λ off. (let clash : Printing ≡ Offline = sym at ∙ off in absurd (cc clash)))

  pub draws : (s : State) (moment : ℕ) (d : Data) (issued : List (List ℕ)) → d.state ≡ s → IsUnderway p d issued → Kept issued (draw_at s moment d)
  draws Offline moment d issued at h = h
  draws Connecting moment d issued at h = h
  draws Fault moment d issued at h = h
  draws Printing moment d issued at h =
      talks moment d (from_file (slice_get (commands_of d.file) d.cursor) d) issued
      (λ off. (let clash : Printing ≡ Offline = sym at ∙ off in absurd (cc clash))) h
      (commands_next (slice_get (commands_of d.file) d.cursor) d issued refl at h)
  draws Closing moment d issued at h =
      let online : d.state ≡ Offline → ⊥ = λ off. (let clash : Closing ≡ Offline = sym at ∙ off in absurd (cc clash)) in
      subst (λ (b : Bool). Kept issued (draw_last b moment d)) (sym h.unstopped)
      (scripts_first d.waiting d (from_probe d.last_line moment d) issued refl online h (λ none. probes d.last_line moment d issued online h))
  draws Operational moment d issued at h = idles moment d issued (λ off. (let clash : Operational ≡ Offline = sym at ∙ off in absurd (cc clash))) h
  draws Pausing moment d issued at h = idles moment d issued (λ off. (let clash : Pausing ≡ Offline = sym at ∙ off in absurd (cc clash))) h
  draws Paused moment d issued at h = idles moment d issued (λ off. (let clash : Paused ≡ Offline = sym at ∙ off in absurd (cc clash))) h
  draws Cancelling moment d issued at h = idles moment d issued (λ off. (let clash : Cancelling ≡ Offline = sym at ∙ off in absurd (cc clash))) h
  draws Finishing moment d issued at h = idles moment d issued (λ off. (let clash : Finishing ≡ Offline = sym at ∙ off in absurd (cc clash))) h

  settles_to : (b : Bool) (d : Data) (issued : List (List ℕ)) → is_issued d ≡ b → d.state ≡ Printing → IsUnderway p d issued
      → IsUnderway p (cond b (with_script point.Done d.greatest (record d { state = Finishing })) d) issued
  settles_to false d issued t at h = h
  settles_to true d issued t at h =
      let on = printing_of p (standing d) h.lines h.phase at in
      let all = issued_all p d h.file_is t in
      let none : d.waiting ≡ [] = all.0 in
      let whole : d.cursor ≡ length (print_commands p) = all.1 in
      let before : h.sent ≡ started_lines p ++ numbered 1 0 (print_commands p) = sym (append-nil h.sent)
      ∙ ap (λ (w : List Line). h.sent ++ w) (sym none) ∙ h.parted ∙ on.are ∙ printed_all p d.cursor whole in
      let script : d.waiting ++ script_lines d.scripts point.Done d.greatest ≡ script_lines p.scripts point.Done 1 =
      ap (λ (w : List Line). w ++ script_lines d.scripts point.Done d.greatest) none ∙ ap (λ s. script_lines s point.Done d.greatest) h.scripts_are
      ∙ ap (λ (k : ℕ). script_lines p.scripts point.Done k) on.on.print_is in
      record {
        numbered_is = h.numbered_is;
        scripts_are = h.scripts_are;
        limits_are = h.limits_are;
        file_is = h.file_is;
        no_manual = h.no_manual;
        unstopped = h.unstopped;
        lines = done_lines p;
        phase = phase.finishing (record { its_state = refl; ready_is = on.opened.ready_is })
            (record { print_is = on.on.print_is; active_is = on.on.active_is });
        sent = h.sent;
        parted = ap (λ (w : List Line). h.sent ++ w) script ∙ ap (λ (l : List Line). l ++ script_lines p.scripts point.Done 1) before;
        woven = h.woven;
        counted = λ below. (let c = h.counted below in record { all = c.all; print = c.print; last = c.last });
        by_last = h.by_last;
        acknowledged = λ off. (let clash : Finishing ≡ Offline = off in absurd (cc clash));
      }

  settle_from : (s : State) (d : Data) (issued : List (List ℕ)) → d.state ≡ s → IsUnderway p d issued → IsUnderway p (settle_at s d) issued
  settle_from Printing d issued at h = settles_to (is_issued d) d issued refl at h
  settle_from Offline d issued at h = h
  settle_from Connecting d issued at h = h
  settle_from Operational d issued at h = h
  settle_from Pausing d issued at h = h
  settle_from Paused d issued at h = h
  settle_from Cancelling d issued at h = h
  settle_from Finishing d issued at h = h
  settle_from Closing d issued at h = h
  settle_from Fault d issued at h = h

  -- what settles goes on
  pub settle-underway : (d : Data) (issued : List (List ℕ)) → IsUnderway p d issued → IsUnderway p (settled d) issued
  settle-underway d issued h = settle_from d.state d issued refl h

  -- after a pull the print is underway with the pulled text
  pub pull-underway : (moment : ℕ) (d : Data) (issued : List (List ℕ)) → IsUnderway p d issued
      → IsUnderway p (pull_step moment d).1 (after_pull (pull_step moment d).0 issued)
  pull-underway moment d issued h =
      let drawn : Drawn = draw_at d.state moment d in settle-underway drawn.1 (after_pull drawn.0 issued) (draws d.state moment d issued refl h)
