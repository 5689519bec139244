-- What a turn does, by the desk.
use Rattle.std.proofs.Common.{◌≡◌, Bool, true, false, cond, not, ◌&&◌, refl, sym, subst}
use Rattle.std.proofs.lemmas.Bool.{false≢true, and_parts}
use Rattle.job_desk.specs.Data.{Data}
use Rattle.job_desk.specs.Table.{disconnect_at, is_closable_at}
use Rattle.job_desk.proofs.Disconnecting.{closes_at_once, still_closing}
use Rattle.job_desk.specs.declared.state.State.{State}
use Rattle.job_desk.specs.declared.state.State.TheVariants.{Offline, Connecting, Operational, Printing, Pausing, Paused, Cancelling, Finishing, Closing, Fault}
use Rattle.octo_session.specs.Data.{SessionData, doing, is_connecting}
use Rattle.octo_session.specs.declared.found.Doing.TheVariants.{Dialling, HangingUp, UsingLink, Resting}

chosen_first : (a b c : Bool) → cond a Dialling (cond b HangingUp (cond c UsingLink Resting)) ≡ Dialling → a ≡ true
chosen_first true b c e = refl
chosen_first false true c e = absurd (cc e)
chosen_first false false true e = absurd (cc e)
chosen_first false false false e = absurd (cc e)

chosen_second : (a b c : Bool) → cond a Dialling (cond b HangingUp (cond c UsingLink Resting)) ≡ HangingUp → b ≡ true
chosen_second false true c e = refl
chosen_second true b c e = absurd (cc e)
chosen_second false false true e = absurd (cc e)
chosen_second false false false e = absurd (cc e)

connects_at : (s : State) → is_connecting s ≡ true → s ≡ Connecting
connects_at Connecting e = refl
connects_at Offline e = absurd (false≢true e)
connects_at Operational e = absurd (false≢true e)
connects_at Printing e = absurd (false≢true e)
connects_at Pausing e = absurd (false≢true e)
connects_at Paused e = absurd (false≢true e)
connects_at Cancelling e = absurd (false≢true e)
connects_at Finishing e = absurd (false≢true e)
connects_at Closing e = absurd (false≢true e)
connects_at Fault e = absurd (false≢true e)

-- a turn that dials finds a desk that connects
pub dials_at : (x : SessionData) → doing x ≡ Dialling → x.desk.state ≡ Connecting
dials_at x e = connects_at x.desk.state (and_parts (not x.up) (is_connecting x.desk.state)
    (chosen_first (not x.up && is_connecting x.desk.state) (is_closable_at x.desk.state x.desk) x.up e)).1

-- a turn that hangs up finds a desk that may close
pub hangs_up_at : (x : SessionData) → doing x ≡ HangingUp → is_closable_at x.desk.state x.desk ≡ true
hangs_up_at x e = chosen_second (not x.up && is_connecting x.desk.state) (is_closable_at x.desk.state x.desk) x.up e

and_false : (b : Bool) → (b && false) ≡ false
and_false true = refl
and_false false = refl

chosen_closable : (a b c : Bool) → a ≡ false → b ≡ true → cond a Dialling (cond b HangingUp (cond c UsingLink Resting)) ≡ HangingUp
chosen_closable false true c e f = refl
chosen_closable true b c e f = absurd (cc e)
chosen_closable false false c e f = absurd (cc f)

connects_not : (up : Bool) (s : State) → s ≡ Closing → (not up && is_connecting s) ≡ false
connects_not up s at = subst (λ (t : State). (not up && is_connecting t) ≡ false) (sym at) (and_false (not up))

-- after a second disconnect the next turn hangs up
pub hangs_up_at_once : (x : SessionData) → x.desk.state ≡ Closing → x.desk.stopped ≡ false
    → doing (record x { desk = disconnect_at x.desk.state x.desk }) ≡ HangingUp
hangs_up_at_once x at goes =
    let d : Data = disconnect_at x.desk.state x.desk in
    chosen_closable (not x.up && is_connecting d.state) (is_closable_at d.state d) x.up (connects_not x.up d.state (still_closing x.desk at))
    (closes_at_once x.desk at goes)
