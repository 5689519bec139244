-- Where a history has led a host, in the host's own data.
use Rattle.std.specs.Prelude.{◌≡◌, ℕ, ◌≤◌, Bool, true, List}
use Rattle.octo_keeper.specs.declared.shelf.ShelfFile.{ShelfFile}
use Rattle.send_window.specs.Data.{IsSound}
use Rattle.octo_session.specs.Data.{SessionData}
use Rattle.octo_house_rules.specs.Known.{Known}
use Rattle.octo_house_rules.specs.Legal.{Standing}
use Rattle.send_window.specs.Patience.{IsPatient}

-- a host with this session knows what a history leads to, its files are these, and its session is open and ready as the history says
pub record StandsAt (s : Standing) (known : Known) (session : SessionData) (files : List ShelfFile) (moment : ℕ) (closed : Bool) : Type 0 where
  pub window : s.window ≡ session.sender.window
  pub limit : s.limit ≡ session.sender.limit
  pub known_is : s.known ≡ known
  pub desk : known.desk ≡ session.desk
  pub sound : IsSound session.sender
  pub files_are : s.files ≡ files
  pub up : s.up ≡ session.up
  pub ready : session.up ≡ true → s.ready ≡ session.sender.ready
  -- five limits of silence count from the last note that opened the session or acknowledged more of it
  pub patient : session.up ≡ true → IsPatient s.raised_at s.limit session.sender
  pub raised : s.raised_at ≤ moment
  pub moment_is : s.moment ≤ moment
  pub closed_is : s.closed ≡ closed
