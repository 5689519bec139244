-- Selecting a file changes neither the greatest number of a print nor whether one is active.
use Rattle.std.proofs.Common.{◌≡◌, refl}
use Rattle.job_desk.specs.Data.{Data, File}
use Rattle.job_desk.specs.Table.{select_at}
use Rattle.job_desk.specs.declared.state.State.{State}
use Rattle.job_desk.specs.declared.state.State.TheVariants.{Offline, Connecting, Operational, Printing, Pausing, Paused, Cancelling, Finishing, Closing, Fault}

pub same-greatest : (s : State) (file : File) (d : Data) → (select_at s file d).1.greatest ≡ d.greatest
same-greatest Offline file d = refl
same-greatest Connecting file d = refl
same-greatest Operational file d = refl
same-greatest Printing file d = refl
same-greatest Pausing file d = refl
same-greatest Paused file d = refl
same-greatest Cancelling file d = refl
same-greatest Finishing file d = refl
same-greatest Closing file d = refl
same-greatest Fault file d = refl

pub same-active : (s : State) (file : File) (d : Data) → (select_at s file d).1.active ≡ d.active
same-active Offline file d = refl
same-active Connecting file d = refl
same-active Operational file d = refl
same-active Printing file d = refl
same-active Pausing file d = refl
same-active Paused file d = refl
same-active Cancelling file d = refl
same-active Finishing file d = refl
same-active Closing file d = refl
same-active Fault file d = refl
