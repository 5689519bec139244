-- A host's desk in what the host knows.
use Rattle.std.specs.Prelude.{◌≡◌, true}
use Rattle.octo_asks.specs.declared.answer.Answer.{Answer}
use Rattle.octo_house_rules.specs.Known.{Known}
use Rattle.octo_house_rules.specs.Verdict.{Verdict, IsDone}
use Rattle.octo_session.specs.Data.{SessionData}
use Rattle.octo_house.specs.declared.host_desk.HostDesk.{HostDesk}

-- what is known with this desk
abbrev pub facing : Known → HostDesk → Known
facing k d = record k { ports = d.ports; desk = d.session.desk; temps = d.temps }

-- the answer is the verdict's, and this is known then, whatever else is known
abbrev pub Faces : (Known → Verdict) → Answer → HostDesk → HostDesk → Type 0
Faces v x old new = (k : Known) → IsDone (v (facing k old)) x (facing k old) (facing k new)

-- what such requests leave: the sender, whether the link is up, and the prints, of which none begins
pub record IsApart (old new : SessionData) : Type 0 where
  pub sender : new.sender ≡ old.sender
  pub up : new.up ≡ old.up
  pub greatest : new.desk.greatest ≡ old.desk.greatest
  pub active : new.desk.active ≡ true → old.desk.active ≡ true
