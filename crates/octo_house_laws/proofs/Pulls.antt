-- A cool desk issues cool lines.
use Rattle.std.proofs.Common.{◌≡◌, ℕ, ◌+◌, Bool, true, false, cond, nat_eq, codes, List, [], ◌∷◌, slice_get, Option, Some, None, refl, ap}
use Rattle.std.specs.List.{AllByRecursion}
use Rattle.temp_rules.specs.declared.limits.Limits.{Limits}
use Rattle.job_desk.specs.Data.{Data, Line, commands_of, moment_after}
use Rattle.job_desk.specs.Endings.{has_print}
use Rattle.job_desk.specs.Pull.{Drawn, nothing, keep_number, next_number, issue, from_scripts, from_manual, poll_is_due, from_poll, probe_is_due, from_probe, put_off, from_file, draw_in_order, draw_at, draw_last}
use Rattle.job_desk.specs.Run.{DeskCall, Connect, Disconnect, Select, DropFile, Start, Restart, Pause, Resume, Toggle, Cancel, Manually, Pull, Note}
use Rattle.job_desk.specs.declared.state.State.{State}
use Rattle.job_desk.specs.declared.state.State.TheVariants.{Operational, Printing, Pausing, Paused, Cancelling, Finishing, Closing}
use Rattle.job_desk.specs.declared.state.Tag.{Tag}
use Rattle.job_desk.specs.declared.state.Tag.TheVariants.{Script, Job, Manual, Poll}
use Rattle.octo_house_rules.specs.Desk.{desk_after, desk_after_all, line_pulled, with_line, lines_pulled}
use Rattle.octo_house_laws.specs.Limits.{IsCool}
use Rattle.octo_house_laws.proofs.Texts.{each_at, poll_cool, probe_cool}
use Rattle.octo_house_laws.proofs.Desk.{Cool, alike_cool, cool_connect, cool_disconnect, cool_select, cool_drop, cool_start, cool_restart, cool_pause, cool_resume, cool_toggle, cool_cancel, cool_manual, cool_settled, cool_note}
use Rattle.std.proofs.lemmas.Bool.{cond_both}

module _ (limits : Limits) where
  abbrev pub IsCoolLine : Line → Type 0
  IsCoolLine line = IsCool limits line.text

  abbrev IfCool : Option Line → Type 0
  IfCool None = Unit {0}
  IfCool (Some line) = IsCool limits line.text

  -- a drawn line and the desk after it
  abbrev DrawsCool : Drawn → Type 0
  DrawsCool drawn = IfCool drawn.0 × Cool limits drawn.1

  choose_drawn : (b : Bool) (x y : Drawn) → DrawsCool x → DrawsCool y → DrawsCool (cond b x y)
  choose_drawn true x y hx hy = hx
  choose_drawn false x y hx hy = hy

  cool_keep : (tag : Tag) (number : ℕ) (d : Data) → Cool limits d → Cool limits (keep_number tag number d)
  cool_keep (Script point print) number d h =
      cond_both (nat_eq print 0) (record d { last_line = number }) (record d { print_line = number; last_line = number }) (Cool limits)
      (λ _. alike_cool limits d (record d { last_line = number }) (refl, refl, refl, refl, refl, refl) h)
      (λ _. alike_cool limits d (record d { print_line = number; last_line = number }) (refl, refl, refl, refl, refl, refl) h)
  cool_keep (Job print index) number d h = alike_cool limits d (record d { print_line = number; last_line = number }) (refl, refl, refl, refl, refl, refl) h
  cool_keep Manual number d h = alike_cool limits d (record d { last_line = number }) (refl, refl, refl, refl, refl, refl) h
  cool_keep Poll number d h = alike_cool limits d (record d { poll_line = number }) (refl, refl, refl, refl, refl, refl) h

  issues : (line : Line) (d : Data) → IsCoolLine line → Cool limits d → DrawsCool (issue line d)
  issues line d cool h =
      let counted : Data = record d { issued = next_number d.issued } in
      (cool, cool_keep line.tag (next_number d.issued) counted (alike_cool limits d counted (refl, refl, refl, refl, refl, refl) h))

  draws_script : (w : List Line) (d : Data) (next : Drawn) → AllByRecursion IsCoolLine w → Cool limits d → DrawsCool next
      → DrawsCool (from_scripts w d next)
  draws_script [] d next a h n = n
  draws_script (line ∷ lines) d next a h n =
      issues line (record d { waiting = lines }) a.0 (record {
        limits_are = h.limits_are;
        scripts = h.scripts;
        waiting = a.1;
        manual = h.manual;
        file = h.file;
      })

  draws_manual : (m : List (List ℕ)) (d : Data) (next : Drawn) → AllByRecursion (IsCool limits) m → Cool limits d → DrawsCool next
      → DrawsCool (from_manual m d next)
  draws_manual [] d next a h n = n
  draws_manual (text ∷ texts) d next a h n =
      issues (record { text = text; tag = Manual }) (record d { manual = texts }) a.0 (record {
        limits_are = h.limits_are;
        scripts = h.scripts;
        waiting = h.waiting;
        manual = a.1;
        file = h.file;
      })

  draws_poll : (moment : ℕ) (d : Data) (next : Drawn) → Cool limits d → DrawsCool next → DrawsCool (from_poll moment d next)
  draws_poll moment d next h n =
      let asked : Data = record d { poll_at = moment_after moment d.poll_ms } in
      choose_drawn (poll_is_due moment d) _ next (issues (record {
        text = codes "M105";
        tag = Poll;
      }) asked (poll_cool limits) (alike_cool limits d asked (refl, refl, refl, refl, refl, refl) h)) n

  draws_probe : (awaited moment : ℕ) (d : Data) → Cool limits d → DrawsCool (from_probe awaited moment d)
  draws_probe awaited moment d h =
      let asked : Data = put_off moment d in
      choose_drawn (probe_is_due awaited moment d) _ (nothing d) (issues (record {
        text = codes "M400";
        tag = Poll;
      }) asked (probe_cool limits) (alike_cool limits d asked (refl, refl, refl, refl, refl, refl) h)) (tt, h)

  draws_file : (text : Option (List ℕ)) (d : Data) → slice_get (commands_of d.file) d.cursor ≡ text
      → AllByRecursion (IsCool limits) (commands_of d.file) → Cool limits d → DrawsCool (from_file text d)
  draws_file None d is f h = (tt, h)
  draws_file (Some text) d is f h =
      let moved : Data = record d { cursor = d.cursor + 1 } in
      issues (record { text = text; tag = Job d.greatest d.cursor }) moved (each_at (IsCool limits) (commands_of d.file) d.cursor text f is)
      (alike_cool limits d moved (refl, refl, refl, refl, refl, refl) h)

  draws_talk : (moment : ℕ) (d : Data) (next : Drawn) → Cool limits d → DrawsCool next → DrawsCool (draw_in_order moment d next)
  draws_talk moment d next h n = draws_script d.waiting d _ h.waiting h (draws_manual d.manual d _ h.manual h (draws_poll moment d next h n))

  draws_last : (b : Bool) (moment : ℕ) (d : Data) → Cool limits d → DrawsCool (draw_last b moment d)
  draws_last false moment d h = draws_script d.waiting d _ h.waiting h (draws_probe d.last_line moment d h)
  draws_last true moment d h = draws_manual d.manual d (nothing d) h.manual h (tt, h)

  draws : (s : State) (moment : ℕ) (d : Data) → d.state ≡ s → Cool limits d → DrawsCool (draw_at s moment d)
  draws Operational moment d is h = draws_talk moment d _ h (draws_probe d.issued moment d h)
  draws Printing moment d is h =
      draws_talk moment d _ h (draws_file (slice_get (commands_of d.file) d.cursor) d refl (h.file
      (let has : has_print d.state ≡ true = ap has_print is in has)) h)
  draws Pausing moment d is h = draws_talk moment d _ h (draws_probe d.issued moment d h)
  draws Paused moment d is h = draws_talk moment d _ h (draws_probe d.issued moment d h)
  draws Cancelling moment d is h = draws_talk moment d _ h (draws_probe d.issued moment d h)
  draws Finishing moment d is h = draws_talk moment d _ h (draws_probe d.issued moment d h)
  draws Closing moment d is h = draws_last d.stopped moment d h
  draws _ moment d is h = (tt, h)

  -- a call whose own texts, if it brings some, are cool
  abbrev pub IsCoolCall : DeskCall → Type 0
  IsCoolCall (Connect port) = Unit {0}
  IsCoolCall Disconnect = Unit {0}
  IsCoolCall (Select file) = Unit {0}
  IsCoolCall (DropFile name) = Unit {0}
  IsCoolCall (Start print) = Unit {0}
  IsCoolCall (Restart print) = Unit {0}
  IsCoolCall Pause = Unit {0}
  IsCoolCall Resume = Unit {0}
  IsCoolCall Toggle = Unit {0}
  IsCoolCall Cancel = Unit {0}
  IsCoolCall (Manually texts) = AllByRecursion (IsCool limits) texts
  IsCoolCall (Pull moment) = Unit {0}
  IsCoolCall (Note acked fact moment) = Unit {0}

  pub cool_after : (call : DeskCall) (d : Data) → IsCoolCall call → Cool limits d → Cool limits (desk_after call d)
  cool_after (Connect port) d c h = cool_connect limits d.state port d h
  cool_after Disconnect d c h = cool_disconnect limits d.state d h
  cool_after (Select file) d c h = cool_select limits d.state file d refl h
  cool_after (DropFile name) d c h = cool_drop limits name d h
  cool_after (Start print) d c h = cool_start limits d.state print d h
  cool_after (Restart print) d c h = cool_restart limits d.state print d refl h
  cool_after Pause d c h = cool_pause limits d.state d refl h
  cool_after Resume d c h = cool_resume limits d.state d refl h
  cool_after Toggle d c h = cool_toggle limits d.state d refl h
  cool_after Cancel d c h = cool_cancel limits d.state d refl h
  cool_after (Manually texts) d c h = cool_manual limits d.state texts d c h
  cool_after (Pull moment) d c h = cool_settled limits (draw_at d.state moment d).1 (draws d.state moment d refl h).1
  cool_after (Note acked fact moment) d c h = cool_note limits acked fact moment d h

  pub cool_after_all : (calls : List DeskCall) (d : Data) → AllByRecursion IsCoolCall calls → Cool limits d → Cool limits (desk_after_all calls d)
  cool_after_all [] d c h = h
  cool_after_all (call ∷ calls) d c h = cool_after_all calls (desk_after call d) c.1 (cool_after call d c.0 h)

  pulls_cool : (call : DeskCall) (d : Data) → Cool limits d → IfCool (line_pulled call d)
  pulls_cool (Pull moment) d h = (draws d.state moment d refl h).0
  pulls_cool _ d h = tt

  with_cool : (line : Option Line) (lines : List Line) → IfCool line → AllByRecursion IsCoolLine lines
      → AllByRecursion IsCoolLine (with_line line lines)
  with_cool None lines i a = a
  with_cool (Some line) lines i a = (i, a)

  -- the lines that calls pull are cool
  pub lines_cool : (calls : List DeskCall) (d : Data) → AllByRecursion IsCoolCall calls → Cool limits d
      → AllByRecursion IsCoolLine (lines_pulled calls d)
  lines_cool [] d c h = tt
  lines_cool (call ∷ calls) d c h =
      with_cool (line_pulled call d) (lines_pulled calls (desk_after call d)) (pulls_cool call d h) (lines_cool calls (desk_after call d) c.1
      (cool_after call d c.0 h))
