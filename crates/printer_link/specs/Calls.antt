-- What a link says of itself, and what each of its calls leaves.
use Rattle.std.specs.Prelude.{◌≡◌, ◌↔◌, ℕ, Bool, true, false, List, [], ◌∷◌, Option, Result, IfOk, OnOk, OnErr, IsErr, IsErrOf}
use Rattle.octo_outside.specs.Recorded.{Counts}
use Rattle.printer_model.specs.declared.event.WorldEvent.{WorldEvent}
use Rattle.printer_link.specs.Link.{LinkKind, HasSlots, Grows, IsOpenAs, IsNothing, IsRuns, IsDial, IsSend, IsSendLoss, IsHeard, IsSilence, IsLoss, IsHangUp, IsSendOf, counted_one, dial_events, recv_events}
use Rattle.printer_link.specs.declared.link.Heard.{Heard}
use Rattle.printer_link.specs.declared.link.Heard.TheVariants as heard
use Rattle.printer_link.specs.declared.link.LinkFault.{LinkFault}
use Rattle.printer_link.specs.declared.link.LinkFault.TheVariants as fault

-- what no call changes, the events of its history and the number of its calls, if recorded, whether it is made, and how many calls failed
pub record LinkState : Type 0 where
  pub kind : LinkKind
  pub past : Option (List WorldEvent)
  pub calls : Option ℕ
  pub up : Bool
  pub faults : ℕ

-- a call of `dial`: what its history says of it, whether the port is listed and the link made, counts, and what stays
pub record Dials (old : LinkState) (name : List ℕ) (result : Result (Unit {0}) LinkFault) (new : LinkState) : Type 0 where
  pub past : OnOk result (Grows old.kind old.past new.past IsDial)
  pub past_no_port : IsErrOf result fault.NoPort → Grows old.kind old.past new.past IsNothing
  pub past_failed : IsErrOf result fault.Failed → Grows old.kind old.past new.past IsRuns
  pub past_prompt : old.kind.prompt ≡ true → OnOk result (Grows old.kind old.past new.past (λ w added. (last : ℕ) × (added ≡ dial_events w last)))
  pub no_port : IsErrOf result fault.NoPort ↔ (old.kind.listed name ≡ false)
  pub up : OnOk result (new.up ≡ true)
  pub down : OnErr result (new.up ≡ false)
  pub is_open : IsOpenAs new.kind new.past new.up
  pub slots : HasSlots new.kind
  pub kind : new.kind ≡ old.kind
  pub calls : new.calls ≡ counted_one old.calls
  pub counts : Counts (IsErrOf result fault.Failed) old.faults new.faults

-- a call of `send`
pub record Sends (old : LinkState) (line : List ℕ) (result : Result (Unit {0}) LinkFault) (new : LinkState) : Type 0 where
  pub past : OnOk result (Grows old.kind old.past new.past (IsSend line))
  pub past_failed : OnErr result (Grows old.kind old.past new.past IsSendLoss)
  pub past_prompt : old.kind.prompt ≡ true
      → OnOk result (Grows old.kind old.past new.past (λ w added. (sent : WorldEvent) × (added ≡ sent ∷ []) × IsSendOf line sent))
  pub no_port : IsErrOf result fault.NoPort → ⊥
  pub up : OnOk result (new.up ≡ true)
  pub down : OnErr result (new.up ≡ false)
  pub is_open : IsOpenAs new.kind new.past new.up
  pub kind : new.kind ≡ old.kind
  pub calls : new.calls ≡ counted_one old.calls
  pub counts : Counts (IsErr result) old.faults new.faults

-- a call of `recv`
pub record Hears (old : LinkState) (result : Result Heard LinkFault) (into : List ℕ) (new : LinkState) : Type 0 where
  pub past : IfOk result (λ got. got ≡ heard.Line → Grows old.kind old.past new.past (IsHeard into))
  pub past_nothing : IfOk result (λ got. got ≡ heard.Nothing → Grows old.kind old.past new.past IsSilence)
  pub past_failed : OnErr result (Grows old.kind old.past new.past IsLoss)
  pub past_prompt : old.kind.prompt ≡ true → OnOk result (Grows old.kind old.past new.past (λ w added. added ≡ recv_events true w))
  pub no_port : IsErrOf result fault.NoPort → ⊥
  pub up : OnOk result (new.up ≡ true)
  pub down : OnErr result (new.up ≡ false)
  pub is_open : IsOpenAs new.kind new.past new.up
  pub kind : new.kind ≡ old.kind
  pub calls : new.calls ≡ counted_one old.calls
  pub counts : Counts (IsErr result) old.faults new.faults

-- a call of `hang_up`
pub record HangsUp (old new : LinkState) : Type 0 where
  pub past : Grows old.kind old.past new.past (IsHangUp old.up)
  pub down : new.up ≡ false
  pub kind : new.kind ≡ old.kind
  pub calls : new.calls ≡ old.calls
  pub faults : new.faults ≡ old.faults
