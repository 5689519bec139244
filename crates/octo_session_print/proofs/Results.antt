-- What a print that is underway has issued.
use Rattle.std.proofs.Common.{◌≡◌, inl, inr, ℕ, Bool, true, false, cond, codes, List, [], ◌∷◌, ◌≤◌, ◌++◌, take, All, sym, ◌∙◌, ap, subst, arith}
use Rattle.std.proofs.lemmas.List.{append-nil}
use Rattle.std.proofs.lemmas.Bool.{false≢true}
use Rattle.std.proofs.lemmas.List.Elements.{All-head}
use Rattle.job_desk.specs.Data.{Data, Line, moment_after}
use Rattle.job_desk.specs.Pull.{Drawn, draw_idle, nothing, issue, from_scripts, from_manual, poll_is_due, from_probe, put_off, probe_is_due, draw_last, draw_at, pull_step}
use Rattle.job_desk.specs.declared.state.State.TheVariants.{Offline}
use Rattle.job_desk.specs.declared.state.Tag.TheVariants.{Poll}
use Rattle.octo_session_print.specs.Plan.{PrintData, print_commands, plan_lines}
use Rattle.octo_session.specs.Plan.{plan, Weave, IsPart, WeavesPart}
use Rattle.octo_session_print.specs.Underway.{Standing, standing, IsLast, Phase, IsUnderway, IsWhole}
use Rattle.octo_session_print.specs.Underway as phase
use Rattle.octo_session_print.specs.Progress.{IsLate}
use Rattle.job_desk.proofs.Probes.{plain_closing}
use Rattle.job_desk.specs.Table.{closing_line}
use Rattle.octo_session_print.proofs.Rests.{longer_weaves}
use Rattle.octo_session_print.proofs.Weaves.{part_of, part_after, texts_part, plan_is}
use Rattle.octo_session_print.proofs.Phases.{zero≢one, in_plan, whole_offline, none_offline}
use Rattle.octo_session.specs.Turn.{texts_in}

-- what a connection waits for has the last line that is no poll
last_acked : (b : Bool) (last issued acked : ℕ) → last ≤ issued → cond b last issued ≤ acked → last ≤ acked
last_acked true last issued acked within below = below
last_acked false last issued acked within below = omega (arith, within, below)

module _ (p : PrintData) where
  -- what was issued is a weave of a first part of the plan
  pub underway-part : (d : Data) (issued : List (List ℕ)) → IsUnderway p d issued → WeavesPart p.numbered issued (plan p.scripts (print_commands p))
  underway-part d issued h =
      let part : IsPart h.sent (plan_lines p) = part_of h.sent (h.sent ++ d.waiting) (plan_lines p) (part_after h.sent d.waiting)
      (subst (λ (l : List Line). IsPart l (plan_lines p)) (sym h.parted) (in_plan p (standing d) h.lines h.phase)) in
      record {
        part = texts_in h.sent;
        is_part = subst (λ (l : List (List ℕ)). IsPart (texts_in h.sent) l) (plan_is p) (texts_part h.sent (plan_lines p) part);
        woven = h.woven;
      }

  -- a desk that is offline again has issued the whole plan, and all of it was acknowledged
  pub underway-whole : (d : Data) (issued : List (List ℕ)) → d.state ≡ Offline → IsUnderway p d issued → IsWhole p d issued
  underway-whole d issued off h =
      let none : d.waiting ≡ [] = none_offline p (standing d) h.lines h.phase off in
      let all : h.sent ≡ plan_lines p = sym (append-nil h.sent) ∙ ap (λ (w : List Line). h.sent ++ w) (sym none) ∙ h.parted
      ∙ whole_offline p (standing d) h.lines h.phase off in
      let woven : Weave p.numbered issued (plan p.scripts (print_commands p)) =
      subst (λ (l : List (List ℕ)). Weave p.numbered issued l) (ap texts_in all ∙ plan_is p) h.woven in
      record {
        numbered_is = h.numbered_is;
        woven = woven;
        acknowledged = λ below. longer_weaves p.numbered issued (plan p.scripts (print_commands p)) d.last_line d.acked
            (last_acked d.numbered d.last_line d.issued d.acked (h.counted below).last (h.acknowledged off))
            (subst (λ (l : List (List ℕ)). Weave p.numbered (take d.last_line issued) l) (ap texts_in all ∙ plan_is p) (h.by_last below)) woven;
        all_acked = λ plain. (let same : closing_line d ≡ d.issued = plain_closing d (h.numbered_is ∙ plain) in omega (arith, same, h.acknowledged off));
        all = λ below. ((h.counted below).all);
      }

  none_late : (d : Data) → IsLate (nothing d)
  none_late d line e = absurd (cc e)

  poll_late : (b : Bool) (text : List ℕ) (d : Data) (next : Drawn) → IsLate next → IsLate (cond b (issue (record { text = text; tag = Poll }) d) next)
  poll_late true text d next late line is = let same : line ≡ record { text = text; tag = Poll } = cc is in inl (ap (λ (l : Line). l.tag) same)
  poll_late false text d next late line is = late line is

  probe_late : (awaited moment : ℕ) (d : Data) → IsLate (from_probe awaited moment d)
  probe_late awaited moment d =
      poll_late (probe_is_due awaited moment d) (codes "M400") (put_off moment d) (nothing d) (none_late d)

  scripts_late : (w : List Line) (d : Data) (next : Drawn) → All IsLast w → IsLate next → IsLate (from_scripts w d next)
  scripts_late [] d next last late line e = late line e
  scripts_late (first ∷ rest) d next last late line e = let same : line ≡ first = cc e in inr (subst IsLast (sym same) (All-head IsLast first rest last))

  talk_late : (moment : ℕ) (d : Data) → d.waiting ≡ [] → d.manual ≡ [] → IsLate (draw_idle moment d)
  talk_late moment d none no_manual =
      let asked : Data = record d { poll_at = moment_after moment d.poll_ms } in
      let last : Drawn = from_probe d.issued moment d in
      let next : Drawn = cond (poll_is_due moment d) (issue (record { text = codes "M105"; tag = Poll }) asked) last in
      subst (λ (w : List Line). IsLate (from_scripts w d (from_manual d.manual d next))) (sym none)
      (subst (λ (m : List (List ℕ)). IsLate (from_manual m d next)) (sym no_manual)
      (poll_late (poll_is_due moment d) (codes "M105") asked last (probe_late d.issued moment d)))

  late_in : (moment : ℕ) (d : Data) (lines : List Line) → d.manual ≡ [] → d.stopped ≡ false → d.active ≡ false → d.greatest ≡ 1 → Phase p (standing d) lines
      → IsLate (draw_at d.state moment d)
  late_in moment d _ none goes i n (phase.connecting at f) = absurd (zero≢one (sym f.print_is ∙ n))
  late_in moment d _ none goes i n (phase.connected o f) = absurd (zero≢one (sym f.print_is ∙ n))
  late_in moment d _ none goes i n (phase.printing o f below) = absurd (false≢true (sym i ∙ f.active_is))
  late_in moment d _ none goes i n (phase.finishing o f) = absurd (false≢true (sym i ∙ f.active_is))
  late_in moment d _ none goes i n (phase.ended o f w) = subst (λ s. IsLate (draw_at s moment d)) (sym o.its_state) (talk_late moment d w none)
  late_in moment d _ none goes i n (phase.closing o f w) = subst (λ s. IsLate (draw_at s moment d)) (sym o.its_state)
      (subst (λ (b : Bool). IsLate (draw_last b moment d)) (sym goes)
      (scripts_late d.waiting d (from_probe d.last_line moment d) w (probe_late d.last_line moment d)))
  late_in moment d _ none goes i n (phase.offline at idle w) = subst (λ s. IsLate (draw_at s moment d)) (sym at) (none_late d)
  late_in moment d _ none goes i n (phase.failed at idle lines part) = subst (λ s. IsLate (draw_at s moment d)) (sym at) (none_late d)

  -- once the print has ended, only the Disconnect script and polls are issued
  pub late-underway : (moment : ℕ) (d : Data) (issued : List (List ℕ)) → d.active ≡ false → d.greatest ≡ 1 → IsUnderway p d issued → IsLate (pull_step moment d)
  late-underway moment d issued i n h = late_in moment d h.lines h.no_manual h.unstopped i n h.phase
