use Rattle.std.proofs.Common.{◌≡◌, ◌+◌, length, map}
use Rattle.job_desk.specs.Pull.{settled}
use Rattle.job_desk.specs.Issued.{line_of}
use Rattle.send_window.specs.Data.{IsSound, NoneEarly}
use Rattle.send_window.specs.Sending.{room_of}
use Rattle.octo_session.specs.DeskTurn.{Pulls}
use Rattle.octo_session.specs.Steps.{Issues}
use Rattle.octo_session.specs.Turn.{texts_in}
use Rattle.octo_session.proofs.open_turn.pull_more.Given as goal

abbrev pub invariant-loop : goal.invariant-loop
invariant-loop l = record {
  pulls : Pulls l.moment (map line_of l.lines.items) l.initial.desk l.desk;
  steps : Issues l.moment (texts_in (map line_of l.lines.items)) l.initial.sender l.sender;
  count : length l.lines.items ≡ l.counter;
  room : room_of l.sender + l.counter ≡ room_of l.initial.sender;
  sound : IsSound l.sender;
  issued : l.desk.issued ≡ l.sender.issued;
  acked : l.desk.acked ≡ l.initial.desk.acked;
  is_settled : settled l.desk ≡ l.desk;
  early : NoneEarly l.initial.sender → NoneEarly l.sender;
}
