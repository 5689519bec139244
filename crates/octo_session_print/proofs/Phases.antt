-- What each phase says of its desk, and how one phase leads to the next.
use Rattle.std.proofs.Common.{◌≡◌, ℕ, ◌≤◌, Bool, true, false, cond, List, [], ◌∷◌, length, All, refl, sym, ◌∙◌, ap, subst, arith}
use Rattle.std.proofs.lemmas.Bool.{false≢true}
use Rattle.std.proofs.lemmas.List.Elements.{All-tail}
use Rattle.job_desk.specs.Data.{Line}
use Rattle.job_desk.specs.declared.state.State.{State}
use Rattle.job_desk.specs.declared.state.State.TheVariants.{Offline, Connecting, Operational, Printing, Pausing, Paused, Cancelling, Finishing, Closing, Fault}
use Rattle.octo_session_print.specs.Plan.{PrintData, print_commands, connected_lines, printed_lines, done_lines, plan_lines}
use Rattle.octo_session.specs.Plan.{IsPart}
use Rattle.octo_session_print.specs.Underway.{Standing, IsOpen, IsFree, IsPrinting, IsLast, Phase}
use Rattle.octo_session_print.specs.Underway as phase
use Rattle.octo_session_print.proofs.Weaves.{part_self, part_after, part_of, printed_in_done, done_in_plan, connected_in_plan}

-- without a line none is to be acknowledged
pub none_closing : (b : Bool) → cond b 0 0 ≤ 0
none_closing true = omega arith
none_closing false = omega arith

-- the lines of a phase begin the plan
pub in_plan : (p : PrintData) (s : Standing) (lines : List Line) → Phase p s lines → IsPart lines (plan_lines p)
in_plan p s _ (phase.connecting e f) = part_after [] (plan_lines p)
in_plan p s _ (phase.connected o f) = connected_in_plan p
in_plan p s _ (phase.printing o f below) = part_of (printed_lines p s.cursor) (done_lines p) (plan_lines p) (printed_in_done p s.cursor) (done_in_plan p)
in_plan p s _ (phase.finishing o f) = done_in_plan p
in_plan p s _ (phase.ended o f w) = done_in_plan p
in_plan p s _ (phase.closing o f w) = part_self (plan_lines p)
in_plan p s _ (phase.offline e a w) = part_self (plan_lines p)
in_plan p s _ (phase.failed e a lines part) = part

-- an active print is print 1
pub print_of : (p : PrintData) (s : Standing) (lines : List Line) → Phase p s lines → s.active ≡ true → s.print ≡ 1
print_of p s _ (phase.connecting e f) a = absurd (false≢true (sym f.active_is ∙ a))
print_of p s _ (phase.connected o f) a = absurd (false≢true (sym f.active_is ∙ a))
print_of p s _ (phase.printing o f below) a = f.print_is
print_of p s _ (phase.finishing o f) a = f.print_is
print_of p s _ (phase.ended o f w) a = absurd (false≢true (sym f.active_is ∙ a))
print_of p s _ (phase.closing o f w) a = absurd (false≢true (sym f.active_is ∙ a))
print_of p s _ (phase.offline e i w) a = absurd (false≢true (sym i ∙ a))
print_of p s _ (phase.failed e i lines part) a = absurd (false≢true (sym i ∙ a))

-- the first waiting line is issued
pub next_waits : (p : PrintData) (s : Standing) (lines : List Line) (line : Line) (rest : List Line) → s.waiting ≡ line ∷ rest → Phase p s lines
    → Phase p (record s { waiting = rest }) lines
next_waits p s _ line rest e (phase.connecting at f) = phase.connecting at (record { print_is = f.print_is; active_is = f.active_is })
next_waits p s _ line rest e (phase.connected o f) =
    phase.connected (record { its_state = o.its_state; ready_is = o.ready_is }) (record { print_is = f.print_is; active_is = f.active_is })
next_waits p s _ line rest e (phase.printing o f below) =
    phase.printing (record { its_state = o.its_state; ready_is = o.ready_is }) (record { print_is = f.print_is; active_is = f.active_is }) below
next_waits p s _ line rest e (phase.finishing o f) =
    phase.finishing (record { its_state = o.its_state; ready_is = o.ready_is }) (record { print_is = f.print_is; active_is = f.active_is })
next_waits p s _ line rest e (phase.ended o f w) = let none : [] ≡ line ∷ rest = sym w ∙ e in absurd (cc none)
next_waits p s _ line rest e (phase.closing o f w) =
    let all : All IsLast (line ∷ rest) = subst (λ l. All IsLast l) e w in
    phase.closing (record { its_state = o.its_state; ready_is = o.ready_is }) (record { print_is = f.print_is; active_is = f.active_is })
    (All-tail IsLast line rest all)
next_waits p s _ line rest e (phase.offline at i w) = let none : [] ≡ line ∷ rest = sym w ∙ e in absurd (cc none)
next_waits p s _ line rest e (phase.failed at i lines part) = phase.failed at i lines part

-- what the phase is in a state

pub record IsConnecting (p : PrintData) (s : Standing) (lines : List Line) : Type 0 where
  pub free : IsFree 0 s
  pub are : lines ≡ []

pub record IsIssuing (p : PrintData) (s : Standing) (lines : List Line) : Type 0 where
  pub opened : IsOpen Printing s
  pub on : IsPrinting s
  pub below : s.cursor ≤ length (print_commands p)
  pub are : lines ≡ printed_lines p s.cursor

pub record IsFinishing (p : PrintData) (s : Standing) (lines : List Line) : Type 0 where
  pub opened : IsOpen Finishing s
  pub on : IsPrinting s
  pub are : lines ≡ done_lines p

pub record IsClosing (p : PrintData) (s : Standing) (lines : List Line) : Type 0 where
  pub opened : IsOpen Closing s
  pub free : IsFree 1 s
  pub last : All IsLast s.waiting
  pub are : lines ≡ plan_lines p

pub record IsConnected (p : PrintData) (s : Standing) (lines : List Line) : Type 0 where
  pub opened : IsOpen Operational s
  pub free : IsFree 0 s
  pub are : lines ≡ connected_lines p

pub record IsEnded (p : PrintData) (s : Standing) (lines : List Line) : Type 0 where
  pub opened : IsOpen Operational s
  pub free : IsFree 1 s
  pub none : s.waiting ≡ []
  pub are : lines ≡ done_lines p

pub connecting_of : (p : PrintData) (s : Standing) (lines : List Line) → Phase p s lines → s.state ≡ Connecting → IsConnecting p s lines
connecting_of p s _ (phase.connecting e f) at = record { free = f; are = refl }
connecting_of p s _ (phase.connected o f) at = let e : Operational ≡ Connecting = sym o.its_state ∙ at in absurd (cc e)
connecting_of p s _ (phase.printing o f below) at = let e : Printing ≡ Connecting = sym o.its_state ∙ at in absurd (cc e)
connecting_of p s _ (phase.finishing o f) at = let e : Finishing ≡ Connecting = sym o.its_state ∙ at in absurd (cc e)
connecting_of p s _ (phase.ended o f w) at = let e : Operational ≡ Connecting = sym o.its_state ∙ at in absurd (cc e)
connecting_of p s _ (phase.closing o f w) at = let e : Closing ≡ Connecting = sym o.its_state ∙ at in absurd (cc e)
connecting_of p s _ (phase.offline is i w) at = let e : Offline ≡ Connecting = sym is ∙ at in absurd (cc e)
connecting_of p s _ (phase.failed is i lines part) at = let e : Fault ≡ Connecting = sym is ∙ at in absurd (cc e)

pub printing_of : (p : PrintData) (s : Standing) (lines : List Line) → Phase p s lines → s.state ≡ Printing → IsIssuing p s lines
printing_of p s _ (phase.printing o f below) at = record { opened = o; on = f; below = below; are = refl }
printing_of p s _ (phase.connecting is f) at = let e : Connecting ≡ Printing = sym is ∙ at in absurd (cc e)
printing_of p s _ (phase.connected o f) at = let e : Operational ≡ Printing = sym o.its_state ∙ at in absurd (cc e)
printing_of p s _ (phase.finishing o f) at = let e : Finishing ≡ Printing = sym o.its_state ∙ at in absurd (cc e)
printing_of p s _ (phase.ended o f w) at = let e : Operational ≡ Printing = sym o.its_state ∙ at in absurd (cc e)
printing_of p s _ (phase.closing o f w) at = let e : Closing ≡ Printing = sym o.its_state ∙ at in absurd (cc e)
printing_of p s _ (phase.offline is i w) at = let e : Offline ≡ Printing = sym is ∙ at in absurd (cc e)
printing_of p s _ (phase.failed is i lines part) at = let e : Fault ≡ Printing = sym is ∙ at in absurd (cc e)

pub finishing_of : (p : PrintData) (s : Standing) (lines : List Line) → Phase p s lines → s.state ≡ Finishing → IsFinishing p s lines
finishing_of p s _ (phase.finishing o f) at = record { opened = o; on = f; are = refl }
finishing_of p s _ (phase.connecting is f) at = let e : Connecting ≡ Finishing = sym is ∙ at in absurd (cc e)
finishing_of p s _ (phase.connected o f) at = let e : Operational ≡ Finishing = sym o.its_state ∙ at in absurd (cc e)
finishing_of p s _ (phase.printing o f below) at = let e : Printing ≡ Finishing = sym o.its_state ∙ at in absurd (cc e)
finishing_of p s _ (phase.ended o f w) at = let e : Operational ≡ Finishing = sym o.its_state ∙ at in absurd (cc e)
finishing_of p s _ (phase.closing o f w) at = let e : Closing ≡ Finishing = sym o.its_state ∙ at in absurd (cc e)
finishing_of p s _ (phase.offline is i w) at = let e : Offline ≡ Finishing = sym is ∙ at in absurd (cc e)
finishing_of p s _ (phase.failed is i lines part) at = let e : Fault ≡ Finishing = sym is ∙ at in absurd (cc e)

pub closing_of : (p : PrintData) (s : Standing) (lines : List Line) → Phase p s lines → s.state ≡ Closing → IsClosing p s lines
closing_of p s _ (phase.closing o f w) at = record { opened = o; free = f; last = w; are = refl }
closing_of p s _ (phase.connecting is f) at = let e : Connecting ≡ Closing = sym is ∙ at in absurd (cc e)
closing_of p s _ (phase.connected o f) at = let e : Operational ≡ Closing = sym o.its_state ∙ at in absurd (cc e)
closing_of p s _ (phase.printing o f below) at = let e : Printing ≡ Closing = sym o.its_state ∙ at in absurd (cc e)
closing_of p s _ (phase.finishing o f) at = let e : Finishing ≡ Closing = sym o.its_state ∙ at in absurd (cc e)
closing_of p s _ (phase.ended o f w) at = let e : Operational ≡ Closing = sym o.its_state ∙ at in absurd (cc e)
closing_of p s _ (phase.offline is i w) at = let e : Offline ≡ Closing = sym is ∙ at in absurd (cc e)
closing_of p s _ (phase.failed is i lines part) at = let e : Fault ≡ Closing = sym is ∙ at in absurd (cc e)

pub zero≢one : ◌≡◌ {A = ℕ} 0 1 → ⊥
zero≢one e = omega (arith, e)

pub connected_of : (p : PrintData) (s : Standing) (lines : List Line) → Phase p s lines → s.state ≡ Operational → s.print ≡ 0 → IsConnected p s lines
connected_of p s _ (phase.connected o f) at n = record { opened = o; free = f; are = refl }
connected_of p s _ (phase.ended o f w) at n = absurd (zero≢one (sym n ∙ f.print_is))
connected_of p s _ (phase.connecting is f) at n = let e : Connecting ≡ Operational = sym is ∙ at in absurd (cc e)
connected_of p s _ (phase.printing o f below) at n = let e : Printing ≡ Operational = sym o.its_state ∙ at in absurd (cc e)
connected_of p s _ (phase.finishing o f) at n = let e : Finishing ≡ Operational = sym o.its_state ∙ at in absurd (cc e)
connected_of p s _ (phase.closing o f w) at n = let e : Closing ≡ Operational = sym o.its_state ∙ at in absurd (cc e)
connected_of p s _ (phase.offline is i w) at n = let e : Offline ≡ Operational = sym is ∙ at in absurd (cc e)
connected_of p s _ (phase.failed is i lines part) at n = let e : Fault ≡ Operational = sym is ∙ at in absurd (cc e)

pub ended_of : (p : PrintData) (s : Standing) (lines : List Line) → Phase p s lines → s.state ≡ Operational → s.print ≡ 1 → IsEnded p s lines
ended_of p s _ (phase.ended o f w) at n = record { opened = o; free = f; none = w; are = refl }
ended_of p s _ (phase.connected o f) at n = absurd (zero≢one (sym f.print_is ∙ n))
ended_of p s _ (phase.connecting is f) at n = let e : Connecting ≡ Operational = sym is ∙ at in absurd (cc e)
ended_of p s _ (phase.printing o f below) at n = let e : Printing ≡ Operational = sym o.its_state ∙ at in absurd (cc e)
ended_of p s _ (phase.finishing o f) at n = let e : Finishing ≡ Operational = sym o.its_state ∙ at in absurd (cc e)
ended_of p s _ (phase.closing o f w) at n = let e : Closing ≡ Operational = sym o.its_state ∙ at in absurd (cc e)
ended_of p s _ (phase.offline is i w) at n = let e : Offline ≡ Operational = sym is ∙ at in absurd (cc e)
ended_of p s _ (phase.failed is i lines part) at n = let e : Fault ≡ Operational = sym is ∙ at in absurd (cc e)

pub whole_offline : (p : PrintData) (s : Standing) (lines : List Line) → Phase p s lines → s.state ≡ Offline → lines ≡ plan_lines p
whole_offline p s _ (phase.offline is i w) at = refl
whole_offline p s _ (phase.connecting is f) at = let e : Connecting ≡ Offline = sym is ∙ at in absurd (cc e)
whole_offline p s _ (phase.connected o f) at = let e : Operational ≡ Offline = sym o.its_state ∙ at in absurd (cc e)
whole_offline p s _ (phase.printing o f below) at = let e : Printing ≡ Offline = sym o.its_state ∙ at in absurd (cc e)
whole_offline p s _ (phase.finishing o f) at = let e : Finishing ≡ Offline = sym o.its_state ∙ at in absurd (cc e)
whole_offline p s _ (phase.ended o f w) at = let e : Operational ≡ Offline = sym o.its_state ∙ at in absurd (cc e)
whole_offline p s _ (phase.closing o f w) at = let e : Closing ≡ Offline = sym o.its_state ∙ at in absurd (cc e)
whole_offline p s _ (phase.failed is i lines part) at = let e : Fault ≡ Offline = sym is ∙ at in absurd (cc e)

pub none_offline : (p : PrintData) (s : Standing) (lines : List Line) → Phase p s lines → s.state ≡ Offline → s.waiting ≡ []
none_offline p s _ (phase.offline is i w) at = w
none_offline p s _ (phase.connecting is f) at = let e : Connecting ≡ Offline = sym is ∙ at in absurd (cc e)
none_offline p s _ (phase.connected o f) at = let e : Operational ≡ Offline = sym o.its_state ∙ at in absurd (cc e)
none_offline p s _ (phase.printing o f below) at = let e : Printing ≡ Offline = sym o.its_state ∙ at in absurd (cc e)
none_offline p s _ (phase.finishing o f) at = let e : Finishing ≡ Offline = sym o.its_state ∙ at in absurd (cc e)
none_offline p s _ (phase.ended o f w) at = let e : Operational ≡ Offline = sym o.its_state ∙ at in absurd (cc e)
none_offline p s _ (phase.closing o f w) at = let e : Closing ≡ Offline = sym o.its_state ∙ at in absurd (cc e)
none_offline p s _ (phase.failed is i lines part) at = let e : Fault ≡ Offline = sym is ∙ at in absurd (cc e)

-- the states of such a print: it's neither paused nor cancelled
abbrev pub is_possible : State → Bool
is_possible Pausing = false
is_possible Paused = false
is_possible Cancelling = false
is_possible _ = true

pub possible : (p : PrintData) (s : Standing) (lines : List Line) → Phase p s lines → is_possible s.state ≡ true
possible p s _ (phase.connecting is f) = ap is_possible is
possible p s _ (phase.connected o f) = ap is_possible o.its_state
possible p s _ (phase.printing o f below) = ap is_possible o.its_state
possible p s _ (phase.finishing o f) = ap is_possible o.its_state
possible p s _ (phase.ended o f w) = ap is_possible o.its_state
possible p s _ (phase.closing o f w) = ap is_possible o.its_state
possible p s _ (phase.offline is i w) = ap is_possible is
possible p s _ (phase.failed is i lines part) = ap is_possible is

pub impossible : (X : Type 0) (p : PrintData) (s : Standing) (lines : List Line) (state : State) → Phase p s lines → s.state ≡ state
    → is_possible state ≡ false → X
impossible X p s lines state h at none = absurd (false≢true (sym none ∙ sym (ap is_possible at) ∙ possible p s lines h))
