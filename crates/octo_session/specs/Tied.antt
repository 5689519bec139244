-- How the issued texts, the acknowledged lines and a history are tied together, session by session.
use Rattle.std.specs.Prelude.{◌≡◌, ℕ, pred, ◌≤◌, Bool, List, [], length, take, suc, ◌++◌}
use Rattle.printer_model.specs.Executed.{till, executed, logged_from, opens}
use Rattle.printer_model.specs.Exchanged.{events_of_session}
use Rattle.printer_model.specs.World.{WorldData}
use Rattle.printer_model.specs.declared.event.WorldEvent.{WorldEvent}
use Rattle.printer_link.specs.Link.{LinkKind, world_in}
use Rattle.send_window.specs.Counting.{acked_as}
use Rattle.octo_session.specs.Sends.{AreSendsFit, traffic_from}

-- the world before session s of a history
abbrev pub world_before : LinkKind → List WorldEvent → ℕ → WorldData
world_before kind past s = world_in kind (till (pred s) past)

-- session s of a history, counted from 1, in which these texts were issued and this number of lines acknowledged, by whether
-- `ok`s count by their numbers
pub record IsTied (numbered : Bool) (kind : LinkKind) (issued : List (List ℕ)) (acked : ℕ) (past : List WorldEvent) (s : ℕ) : Type 0 where
  -- what was executed are the first issued texts, in order and each once, with the numbers from 2 on
  pub executed_first :
      executed kind.slots kind.oks past s
      ≡ logged_from 1 (take (length (executed kind.slots kind.oks past s)) issued)
  -- the acknowledged lines are counted over the replies received and, if `ok`s count by their numbers, the lines sent; and all of
  -- them were executed
  pub acked_is : acked ≡ acked_as numbered (traffic_from (world_before kind past s) (events_of_session s past))
  pub acked_run : acked ≤ length (executed kind.slots kind.oks past s)
  -- each line that was sent is a hello or an issued line above acked; one that failed is the last one
  pub sends : AreSendsFit numbered issued [] (world_before kind past s) (events_of_session s past)

-- lines of these texts were issued, and this number of them acknowledged, in a history that grew by these events
pub record HasIssued (numbered : Bool) (kind : LinkKind) (issued : List (List ℕ)) (acked : ℕ) (past added : List WorldEvent) : Type 0 where
  -- at most one session was opened
  pub once : opens added ≤ 1
  -- what was executed in it are the first of these lines, in order and each once, the acknowledged ones among them
  pub tied : IsTied numbered kind issued acked (past ++ added) (suc (opens past))
