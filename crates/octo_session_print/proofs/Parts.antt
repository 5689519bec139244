-- What holds of the parts of a print between two turns.
use Rattle.std.proofs.Common.{◌≡◌, ◌⊎◌, inl, inr, ℕ, zero, suc, ◌+◌, ◌-◌, ◌<◌, ◌≤◌, Bool, true, false, nat_le, List, [], refl, sym, ◌∙◌, ap, arith}
use Rattle.std.specs.Prelude.{Option, None, Some, min, slice_index_or, if◌then◌else◌}
use Rattle.std.proofs.lemmas.Bool.Decides.{nat_tests}
use Rattle.job_desk.specs.Data.{Data}
use Rattle.job_desk.specs.declared.state.State.{State}
use Rattle.job_desk.specs.declared.state.State.TheVariants.{Printing, Finishing, Closing}
use Rattle.printer_model.specs.declared.event.WorldEvent.{WorldEvent}
use Rattle.printer_link.specs.Link.{LinkKind}
use Rattle.send_window.specs.Data.{SenderData, IsSound, most_lines}
use Rattle.send_window.specs.Sending.{Outgoing, line, next_of, room_at, room_of}
use Rattle.send_window.specs.declared.session_end.SessionEnd.{SessionEnd}
use Rattle.octo_session.specs.Data.{SessionData}
use Rattle.octo_session_print.specs.Plan.{PrintData}
use Rattle.octo_session_print.specs.Remaining.{is_giving}
use Rattle.octo_session_print.specs.OnWay.{IsInPrint, Silences, starts, prints, leaves, closes, IsGoing}
use Rattle.octo_session_print.proofs.Saying.{next_in_turn}

-- with nothing unacknowledged there is room for a line
pub some_room : (s : SenderData) → s.ended ≡ None → s.ready ≡ true → IsSound s → s.acked ≡ s.issued → s.issued < most_lines → room_of s ≡ 0 → ⊥
some_room s running ready sound all few none =
    let room : room_of s ≡ min (s.window + s.extra - (s.issued - s.acked)) (most_lines - s.issued) =
    ap (λ (e : Option SessionEnd). room_at e s.ready s) running ∙ ap (λ (b : Bool). room_at None b s) ready
    in
    omega (arith, room, none, all, few, sound.open_window)

-- with nothing to send every issued line was sent
pub all_spoken : (s : SenderData) → s.ended ≡ None → s.hello_due ≡ false → s.cursor ≤ s.issued + 1 → next_of s ≡ None → s.cursor ≡ s.issued + 1
all_spoken s running undue below none = by_cursor (nat_le s.cursor s.issued) refl
  where
    past : nat_le s.cursor s.issued ≡ false → s.issued < s.cursor
    past above = grind (arith, nat_tests)

    by_cursor : (b : Bool) → nat_le s.cursor s.issued ≡ b → s.cursor ≡ s.issued + 1
    by_cursor false above = omega (arith, past above, below)
    by_cursor true within =
        let some : next_of s ≡ Some (line s.cursor (slice_index_or s.held (s.cursor - s.acked - 1) [])) =
        next_in_turn s running undue ∙ ap (λ (b : Bool). if b then Some (line s.cursor (slice_index_or s.held (s.cursor - s.acked - 1) [])) else None) within
        in
        let no : ◌≡◌ {A = Option Outgoing} None (Some (line s.cursor (slice_index_or s.held (s.cursor - s.acked - 1) []))) = sym none ∙ some in
        absurd (cc)

pub below_or_same : (n acked issued : ℕ) → acked + n ≡ issued → (acked < issued) ⊎ (acked ≡ issued)
below_or_same zero acked issued is = inr (omega (arith, is))
below_or_same (suc n) acked issued is = inl (omega (arith, is))

pub some_silence : (d : Data) (s : SenderData) (n : ℕ) → Silences d s n → 1 ≤ n
some_silence d s _ (starts at) = omega arith
some_silence d s _ (prints at idle) = omega arith
some_silence d s _ (leaves at) = omega arith
some_silence d s _ (closes at idle) = omega arith

pub gives_in_print : (s : State) → IsInPrint s → is_giving s ≡ true
gives_in_print s (inl at) = ap is_giving at
gives_in_print s (inr at) = ap is_giving at

-- a print that doesn't print commands finishes
pub finishes : (s : State) → IsInPrint s → (s ≡ Printing → ⊥) → s ≡ Finishing
finishes s (inl at) other = absurd (other at)
finishes s (inr at) other = at

pub closes_not : (s : State) → IsInPrint s → s ≡ Closing → ⊥
closes_not s (inl a) b = (let no : Printing ≡ Closing = sym a ∙ b in absurd (cc))
closes_not s (inr a) b = (let no : Finishing ≡ Closing = sym a ∙ b in absurd (cc))

-- a print that goes on has a turn left
pub some_left : (kind : LinkKind) (p : PrintData) (poll_ms at left : ℕ) (past : Option (List WorldEvent)) (x : SessionData) →
    IsGoing kind p poll_ms at left past x → 1 ≤ left
some_left kind p poll_ms at left past x g =
    omega (arith, some_silence x.desk x.sender g.silences g.phase, g.saying.is.sound.counted, g.enough)
