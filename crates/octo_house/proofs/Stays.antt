-- Calls at a desk that begin no print.
use Rattle.std.proofs.Common.{◌≡◌, ℕ, ◌+◌, Bool, true, false, nat_lt, List, length, refl}
use Rattle.std.specs.Prelude.{◌&&◌}
use Rattle.job_desk.specs.Data.{Data, File}
use Rattle.job_desk.specs.Table.{connect_at, disconnect_at, select_at, drop_file_step, is_named, pause_at, resume_at, toggle_at, cancel_at, manual_at, add_manual, take_manual, stop_alone, may_stop_closing, is_stop}
use Rattle.octo_session.specs.Data.{SessionData}
use Rattle.octo_house.specs.Facing.{IsApart}
use Rattle.job_desk.specs.declared.state.State.{State}
use Rattle.job_desk.specs.declared.state.State.TheVariants.{Offline, Connecting, Operational, Printing, Pausing, Paused, Cancelling, Finishing, Closing, Fault}

-- the last print is the same, and it is active only if it was
abbrev pub Stays : Data → Data → Type 0
Stays old new = (new.greatest ≡ old.greatest) × (new.active ≡ true → old.active ≡ true)

-- a session whose desk took such a call
pub apart-by : (old new : SessionData) (d : Data) → new ≡ record old { desk = d } → Stays old.desk d → IsApart old new
apart-by old new d is stays = rw is (record { sender = refl; up = refl; greatest = stays.0; active = stays.1 })

same : (d : Data) → Stays d d
same d = (refl, λ h. h)

pub connect-stays : (s : State) (port : List ℕ) (d : Data) → Stays d ((connect_at s port d).1)
connect-stays Offline port d = same d
connect-stays Connecting port d = same d
connect-stays Operational port d = same d
connect-stays Printing port d = same d
connect-stays Pausing port d = same d
connect-stays Paused port d = same d
connect-stays Cancelling port d = same d
connect-stays Finishing port d = same d
connect-stays Closing port d = same d
connect-stays Fault port d = same d

pub disconnect-stays : (s : State) (d : Data) → Stays d (disconnect_at s d)
disconnect-stays Offline d = same d
disconnect-stays Connecting d = same d
disconnect-stays Operational d = same d
disconnect-stays Printing d = same d
disconnect-stays Pausing d = same d
disconnect-stays Paused d = same d
disconnect-stays Cancelling d = same d
disconnect-stays Finishing d = same d
disconnect-stays Closing d = same d
disconnect-stays Fault d = same d

pub select-stays : (s : State) (file : File) (d : Data) → Stays d ((select_at s file d).1)
select-stays Offline file d = same d
select-stays Connecting file d = same d
select-stays Operational file d = same d
select-stays Printing file d = same d
select-stays Pausing file d = same d
select-stays Paused file d = same d
select-stays Cancelling file d = same d
select-stays Finishing file d = same d
select-stays Closing file d = same d
select-stays Fault file d = same d

pub pause-stays : (s : State) (d : Data) → Stays d ((pause_at s d).1)
pause-stays Offline d = same d
pause-stays Connecting d = same d
pause-stays Operational d = same d
pause-stays Printing d = same d
pause-stays Pausing d = same d
pause-stays Paused d = same d
pause-stays Cancelling d = same d
pause-stays Finishing d = same d
pause-stays Closing d = same d
pause-stays Fault d = same d

pub resume-stays : (s : State) (d : Data) → Stays d ((resume_at s d).1)
resume-stays Offline d = same d
resume-stays Connecting d = same d
resume-stays Operational d = same d
resume-stays Printing d = same d
resume-stays Pausing d = same d
resume-stays Paused d = same d
resume-stays Cancelling d = same d
resume-stays Finishing d = same d
resume-stays Closing d = same d
resume-stays Fault d = same d

pub toggle-stays : (s : State) (d : Data) → Stays d ((toggle_at s d).1)
toggle-stays Offline d = same d
toggle-stays Connecting d = same d
toggle-stays Operational d = same d
toggle-stays Printing d = same d
toggle-stays Pausing d = same d
toggle-stays Paused d = same d
toggle-stays Cancelling d = same d
toggle-stays Finishing d = same d
toggle-stays Closing d = same d
toggle-stays Fault d = same d

pub cancel-stays : (s : State) (d : Data) → Stays d ((cancel_at s d).1)
cancel-stays Offline d = same d
cancel-stays Connecting d = same d
cancel-stays Operational d = same d
cancel-stays Printing d = same d
cancel-stays Pausing d = same d
cancel-stays Paused d = same d
cancel-stays Cancelling d = same d
cancel-stays Finishing d = same d
cancel-stays Closing d = same d
cancel-stays Fault d = same d

add-if : (lines : List (List ℕ)) (d : Data) (b : Bool) → nat_lt 256 (length d.manual + length lines) ≡ b → Stays d (add_manual lines d).1
add-if lines d true is = rw is (same d)
add-if lines d false is = rw is (same d)

add-stays : (lines : List (List ℕ)) (d : Data) → Stays d (add_manual lines d).1
add-stays lines d = add-if lines d (nat_lt 256 (length d.manual + length lines)) refl

take-if : (lines : List (List ℕ)) (d : Data) (b : Bool) → is_stop lines ≡ b → Stays d (take_manual lines d).1
take-if lines d true is = rw is (same d)
take-if lines d false is = rw is (add-stays lines d)

take-stays : (lines : List (List ℕ)) (d : Data) → Stays d (take_manual lines d).1
take-stays lines d = take-if lines d (is_stop lines) refl

alone-if : (may : Bool) (lines : List (List ℕ)) (d : Data) (b : Bool) → (is_stop lines && may) ≡ b → Stays d (stop_alone may lines d).1
alone-if may lines d true is = rw is (same d)
alone-if may lines d false is = rw is (same d)

pub manual-stays : (s : State) (lines : List (List ℕ)) (d : Data) → Stays d (manual_at s lines d).1
manual-stays Offline lines d = same d
manual-stays Connecting lines d = alone-if d.linked lines d (is_stop lines && d.linked) refl
manual-stays Operational lines d = take-stays lines d
manual-stays Printing lines d = take-stays lines d
manual-stays Pausing lines d = take-stays lines d
manual-stays Paused lines d = take-stays lines d
manual-stays Cancelling lines d = take-stays lines d
manual-stays Finishing lines d = take-stays lines d
manual-stays Closing lines d = alone-if (may_stop_closing d) lines d (is_stop lines && may_stop_closing d) refl
manual-stays Fault lines d = same d

drop-if : (name : List ℕ) (d : Data) (b a : Bool) → is_named name d.file ≡ b → d.active ≡ a → Stays d (drop_file_step name d).1
drop-if name d true true is on = rw (is, on) (refl, λ h. h)
drop-if name d true false is on = rw (is, on) (refl, λ h. h)
drop-if name d false a is on = rw is (same d)

pub drop-stays : (name : List ℕ) (d : Data) → Stays d (drop_file_step name d).1
drop-stays name d = drop-if name d (is_named name d.file) d.active refl refl
