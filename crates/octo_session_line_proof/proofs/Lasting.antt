-- What the steps of a turn keep of a sender.
use Rattle.std.proofs.Common.{◌≡◌, ℕ, Bool, true, List, [], ◌∷◌}
use Rattle.std.specs.Prelude.{Some}
use Rattle.marlin_reply.specs.Kind.{kind_of}
use Rattle.job_desk.specs.declared.link_fact.LinkFact.TheVariants as fact
use Rattle.send_window.specs.declared.session_end.SessionEnd.{SessionEnd}
use Rattle.send_window.specs.Data.{SenderData, IsSound}
use Rattle.send_window.proofs.Soundness.{begun_sound, hears_sound, ticks_sound, issues_sound, gives_sound}
use Rattle.octo_session.specs.Found.{Got, unasked, lost, nothing, whole, end_by, can_find}
use Rattle.octo_session.specs.Steps.{Step, opens as makes_link, finds_no_port, fails_to_dial, hears, listens, fails_to_receive, ticks, issues, gives, fails_to_send, hangs_up, after_step, after_steps, IsAllowed, AreAllowed, steps_over_link, turn_steps}
use Rattle.octo_session.specs.declared.found.Doing.{Doing}
use Rattle.octo_session.specs.declared.found.Doing.TheVariants.{Dialling, HangingUp, UsingLink, Resting}

-- a sender stays sound
sound_step : (moment : ℕ) (step : Step) (s : SenderData) → IsAllowed step s → IsSound s → IsSound (after_step moment step s)
sound_step moment makes_link s can sound = begun_sound s sound
sound_step moment finds_no_port s can sound = sound
sound_step moment fails_to_dial s can sound = sound
sound_step moment (hears bytes) s can sound = hears_sound (kind_of bytes) moment s sound
sound_step moment listens s can sound = sound
sound_step moment fails_to_receive s can sound = sound
sound_step moment ticks s can sound = ticks_sound moment s sound
sound_step moment (issues text) s can sound = issues_sound text s can.0 sound
sound_step moment gives s can sound = gives_sound moment s sound
sound_step moment fails_to_send s can sound = gives_sound moment s sound
sound_step moment (hangs_up was_up) s can sound = sound

pub sound_steps : (moment : ℕ) (steps : List Step) (s : SenderData) → AreAllowed moment steps s → IsSound s → IsSound (after_steps moment steps s)
sound_steps moment [] s can sound = sound
sound_steps moment (step ∷ steps) s can sound = sound_steps moment steps (after_step moment step s) can.1 (sound_step moment step s can.0 sound)

-- a turn that ends the session ends its sender so
ended_talk : (moment : ℕ) (why : SessionEnd) (got : Got) (texts : List (List ℕ)) (count : ℕ) (s : SenderData) → end_by got moment s ≡ Some why →
    (after_steps moment (steps_over_link got (fact.Ended why) texts count) s).ended ≡ Some why
ended_talk moment why unasked texts count s ends = absurd (cc)
ended_talk moment why lost texts count s ends = absurd (cc)
ended_talk moment why nothing texts count s ends = ends
ended_talk moment why (whole bytes) texts count s ends = ends

pub ended_turn : (moment : ℕ) (why : SessionEnd) (d : Doing) (was_up : Bool) (got : Got) (texts : List (List ℕ)) (count : ℕ) (s : SenderData) →
    can_find d (fact.Ended why) ≡ true → end_by got moment s ≡ Some why →
    (after_steps moment (turn_steps d was_up got (fact.Ended why) texts count) s).ended ≡ Some why
ended_turn moment why UsingLink was_up got texts count s can ends = ended_talk moment why got texts count s ends
ended_turn moment why Dialling was_up got texts count s can ends = absurd (cc)
ended_turn moment why HangingUp was_up got texts count s can ends = absurd (cc)
ended_turn moment why Resting was_up got texts count s can ends = absurd (cc)
