-- From the turn in which more is acknowledged, or a session begins, a sender waits five limits anew.
use Rattle.std.proofs.Common.{◌≡◌, ◌⊎◌, inl, inr, ℕ, ◌≤◌, ◌<◌, List, [], ◌∷◌, arith}
use Rattle.std.proofs.lemmas.Bool.{cases_lt}
use Rattle.marlin_reply.specs.Kind.{kind_of}
use Rattle.marlin_reply.specs.declared.reply.Reply.{Reply}
use Rattle.send_window.specs.Data.{SenderData}
use Rattle.send_window.specs.Hearing.{hear_step, tick_step}
use Rattle.send_window.specs.Sending.{frame_step}
use Rattle.send_window.proofs.Waiting.{waits_five_limits}
use Rattle.octo_session.specs.Steps.{Step, opens, finds_no_port, fails_to_dial, hears, listens, fails_to_receive, ticks, issues, gives, fails_to_send, hangs_up, after_step, after_steps, IsAllowed, AreAllowed}
use Rattle.octo_session.proofs.Keeping.{keeps_frame, ticked_keeps}
use Rattle.send_window.specs.Patience.{IsPatient}
use Rattle.octo_session_line_proof.proofs.Waits.{patient_steps}

module _ (moment limit before : ℕ) where
  -- no more is acknowledged than before, or the sender waits from this moment on
  abbrev pub Risen : SenderData → Type 0
  Risen s = (s.acked ≤ before) ⊎ IsPatient moment limit s

  -- a sender that waits goes on waiting
  still : (step : Step) (s : SenderData) → IsAllowed step s → IsPatient moment limit s → IsPatient moment limit (after_step moment step s)
  still step s can p = patient_steps moment limit moment (omega arith) (step ∷ []) s (can, tt) p

  same : (s t : SenderData) → t.acked ≡ s.acked → s.acked ≤ before → t.acked ≤ before
  same s t is few = omega (arith, is, few)

  heard : (line : Reply) (s : SenderData) → IsPatient 0 limit (hear_step line moment s) → s.acked ≤ before → Risen (hear_step line moment s)
  heard line s p few = by (cases_lt s.acked (hear_step line moment s).acked)
    where
      by : (s.acked < (hear_step line moment s).acked) ⊎ ((hear_step line moment s).acked ≤ s.acked) → Risen (hear_step line moment s)
      by (inl more) = inr (record { sound = p.sound; its_limit = p.its_limit; waits = waits_five_limits.2 line moment s more })
      by (inr none) = inl (omega (arith, none, few))

  begun : (s : SenderData) → IsPatient 0 limit s → IsPatient moment limit (after_step moment opens s)
  begun s p =
      let q = patient_steps 0 limit moment (omega arith) (opens ∷ []) s (tt, tt) p in
      record { sound = q.sound; its_limit = q.its_limit; waits = waits_five_limits.0 moment s }

  risen_step : (step : Step) (s : SenderData) → IsAllowed step s → IsPatient 0 limit s → Risen s → Risen (after_step moment step s)
  risen_step step s can p (inr waits) = inr (still step s can waits)
  risen_step opens s can p (inl few) = inr (begun s p)
  risen_step finds_no_port s can p (inl few) = inl few
  risen_step fails_to_dial s can p (inl few) = inl few
  risen_step (hears bytes) s can p (inl few) = heard (kind_of bytes) s (patient_steps 0 limit moment (omega arith) (hears bytes ∷ []) s (tt, tt) p) few
  risen_step listens s can p (inl few) = inl few
  risen_step fails_to_receive s can p (inl few) = inl few
  risen_step ticks s can p (inl few) = inl (same s (tick_step moment s) (ticked_keeps moment s).acked few)
  risen_step (issues text) s can p (inl few) = inl few
  risen_step gives s can p (inl few) = inl (same s (frame_step moment s) (keeps_frame moment s).acked few)
  risen_step fails_to_send s can p (inl few) = inl (same s (frame_step moment s) (keeps_frame moment s).acked few)
  risen_step (hangs_up was_up) s can p (inl few) = inl few

  pub risen_steps : (steps : List Step) (s : SenderData) → AreAllowed moment steps s → IsPatient 0 limit s → Risen s → Risen (after_steps moment steps s)
  risen_steps [] s can p r = r
  risen_steps (step ∷ steps) s can p r =
      risen_steps steps (after_step moment step s) can.1 (patient_steps 0 limit moment (omega arith) (step ∷ []) s (can.0, tt) p) (risen_step step s can.0 p r)
