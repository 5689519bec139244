-- What each call of a link in memory adds to its recorded history.
use Rattle.std.proofs.Common.{◌≡◌, ℕ, zero, suc, ◌+◌, ◌≤◌, ◌-◌, Bool, true, false, List, [], ◌∷◌, ◌++◌, length, replicate, refl, sym, ◌∙◌, ap, subst, append_assoc, append-nil, arith}
use Rattle.std.specs.Prelude.{Some, ◌&&◌, not, ◌==◌, ◌%◌, if◌then◌else◌}
use Rattle.std.specs.List.{list_all}
use Rattle.std.proofs.lemmas.Bool.{cond_both, and_parts, eq-eqb}
use Rattle.std.proofs.lemmas.Bool.Decides.{nat_tests}
use Rattle.std.proofs.lemmas.List.Folds.{list_all-append}
use Rattle.arrayvec.specs.ArrayVec.{ArrayVec}
use Rattle.octo_outside.specs.Memory.{one_more, is_listed}
use Rattle.printer_model.specs.World.{WorldData, fits_wire, world_from, apply, can_happen, is_empty, is_free}
use Rattle.printer_link.specs.Link.{Grows, IsDial, IsRuns, IsSend, IsSendLoss, IsHeard, IsSilence, IsLoss, arrivals, dial_events, due_recv, due_run, printer_events, recv_events}
use Rattle.printer_link.specs.Memory.{MemoryLinkData, StoryData, FreeOnly, is_due, is_prompt, is_whole, with_replies, before_reply, with_one_call, closing_events, after_fault, with_added, harm_events, with_one_recv, after_printer, before_recv, joined, lost_among, recv_losses, link_kind, link_world, send_events, LinkRan, LinkMoved, LinkHeard, LinkQuiet, LinkReceived}
use Rattle.printer_link.specs.declared.schedule.Fate.{Fate}
use Rattle.printer_link.specs.declared.schedule.Fate.TheVariants.{Whole, Lost, Garbled}
use Rattle.printer_link.specs.declared.link.Heard.{Heard}
use Rattle.printer_link.specs.declared.link.Heard.TheVariants.{Line, Nothing}
use Rattle.printer_model.specs.declared.event.WorldEvent.{WorldEvent}
use Rattle.printer_model.specs.declared.event.WorldEvent.TheVariants.{Opened, Send, LoseReply, Run, Restart, Recv, Closed}
use Rattle.printer_model.proofs.Laws.{world_from-push, world_of-append, world_from-linked, happens, run_out, can_open, runs_only, runs_free}
use Rattle.printer_link.proofs.Stories.{arrivals_free}

-- a recorded history grew by these events
pub grows_by : (l : MemoryLinkData) (added now : List WorldEvent) (Kind : WorldData → List WorldEvent → Type 0) → now ≡ l.story.past ++ added → Kind (link_world l) added → Grows (link_kind l) (Some l.story.past) (Some now) Kind
grows_by l added now Kind is kind = record {
  stays = refl;
  grew = λ list e. (let same : list ≡ now = cc in (l.story.past, added, refl, same ∙ is, kind));
}

-- the world after more events of a link
pub grown_world : (l : MemoryLinkData) (added : List WorldEvent) → link_world (with_added l added) ≡ world_from (link_world l) added
grown_world l added = world_of-append l.story.slots l.story.oks l.story.past added

-- a link that is made is closed by one event, another by none
pub closing_open : (w : WorldData) → w.linked ≡ true → closing_events w ≡ Closed ∷ []
closing_open w open_now = ap (λ (b : Bool). if b then Closed ∷ [] else []) open_now

pub closing_shut : (w : WorldData) → w.linked ≡ false → closing_events w ≡ []
closing_shut w shut = ap (λ (b : Bool). if b then Closed ∷ [] else []) shut

-- the runs of a dial let a link be made
dial_opens : (w : WorldData) (last : ℕ) → w.linked ≡ false → can_happen (world_from w (replicate (length w.printer.queue) Run)) (Opened last) ≡ true
dial_opens w last closed =
    can_open (world_from w (replicate (length w.printer.queue) Run)) last (world_from-linked w (replicate (length w.printer.queue) Run) (runs_free (length w.printer.queue)) ∙ closed)
    (run_out w w.printer.queue refl)

dial_is : (w : WorldData) (last : ℕ) → w.linked ≡ false → IsDial w (dial_events w last)
dial_is w last closed =
    record {
      runs = replicate (length w.printer.queue) Run;
      last = last;
      is = refl;
      only_runs = runs_only (length w.printer.queue);
      opens = dial_opens w last closed;
    }

dial_linked : (w : WorldData) (last : ℕ) → w.linked ≡ false → (world_from w (dial_events w last)).linked ≡ true
dial_linked w last closed =
    ap (λ (v : WorldData). v.linked) (world_from-push w (replicate (length w.printer.queue) Run) (Opened last))
    ∙ ap (λ (v : WorldData). v.linked) (happens (world_from w (replicate (length w.printer.queue) Run)) (Opened last) (dial_opens w last closed))

dial_grown : (l mid new : MemoryLinkData) (last : ℕ) → mid ≡ with_one_call l → new ≡ with_added mid (dial_events (link_world mid) last) → new ≡ with_added (with_one_call l) (dial_events (link_world l) last)
dial_grown l mid new last mid_is new_is = new_is ∙ ap (λ (m : MemoryLinkData). with_added m (dial_events (link_world m) last)) mid_is

-- a dial that made a link
pub dial_past : (l mid new : MemoryLinkData) (last : ℕ) → mid ≡ with_one_call l → new ≡ with_added mid (dial_events (link_world mid) last) → (link_world l).linked ≡ false → Grows (link_kind l) (Some l.story.past) (Some new.story.past) IsDial
dial_past l mid new last mid_is new_is closed =
    grows_by l (dial_events (link_world l) last) new.story.past IsDial
    (ap (λ (n : MemoryLinkData). n.story.past) (dial_grown l mid new last mid_is new_is))
    (dial_is (link_world l) last closed)

pub dial_up : (l mid new : MemoryLinkData) (last : ℕ) → mid ≡ with_one_call l → new ≡ with_added mid (dial_events (link_world mid) last) → (link_world l).linked ≡ false → (link_world new).linked ≡ true
dial_up l mid new last mid_is new_is closed =
    ap (λ (n : MemoryLinkData). (link_world n).linked) (dial_grown l mid new last mid_is new_is)
    ∙ ap (λ (w : WorldData). w.linked) (grown_world l (dial_events (link_world l) last))
    ∙ dial_linked (link_world l) last closed

-- a dial that failed
pub dial_failed : (l mid late new : MemoryLinkData) → mid ≡ with_one_call l → LinkRan mid late → new ≡ after_fault late → (link_world l).linked ≡ false → Grows (link_kind l) (Some l.story.past) (Some new.story.past) IsRuns
dial_failed l mid late new mid_is ran new_is closed =
    let late_is : late ≡ with_added (with_one_call l) (replicate ran.count Run) = ran.is ∙ ap (λ (m : MemoryLinkData). with_added m (replicate ran.count Run)) mid_is in
    let shut : (link_world late).linked ≡ false =
    ap (λ (n : MemoryLinkData). (link_world n).linked) late_is
    ∙ ap (λ (w : WorldData). w.linked) (grown_world l (replicate ran.count Run))
    ∙ world_from-linked (link_world l) (replicate ran.count Run) (runs_free ran.count)
    ∙ closed
    in
    grows_by l (replicate ran.count Run) new.story.past IsRuns
    (ap (λ (n : MemoryLinkData). n.story.past) new_is
    ∙ ap (λ (es : List WorldEvent). late.story.past ++ es) (closing_shut (link_world late) shut)
    ∙ append-nil late.story.past
    ∙ ap (λ (n : MemoryLinkData). n.story.past) late_is)
    (runs_only ran.count)

-- a link to which no event was added
none_added : (l : MemoryLinkData) → l ≡ with_added l []
none_added l = ap (λ (past : List WorldEvent). record l { story = record l.story { past = past } }) (sym (append-nil l.story.past))

-- a dial that failed before anything was done
pub dial_failed_at_once : (l mid new : MemoryLinkData) → mid ≡ with_one_call l → new ≡ after_fault mid → (link_world l).linked ≡ false → Grows (link_kind l) (Some l.story.past) (Some new.story.past) IsRuns
dial_failed_at_once l mid new mid_is new_is closed =
    let ran : LinkRan mid mid = record { count = 0; is = none_added mid } in
    dial_failed l mid mid new mid_is ran new_is closed

-- what becomes of a line is free
harm_free : (fate : Fate) (at : ℕ) (line : ArrayVec ℕ) → list_all is_free (harm_events fate at line) ≡ true
harm_free Whole at line = refl
harm_free Lost at line = refl
harm_free Garbled at line = refl

is_le : (line : ArrayVec ℕ) → length line.items ≤ 95 → fits_wire line.items ≡ true
is_le line short = grind (arith, nat_tests)

can_send : (w : WorldData) (line : ArrayVec ℕ) → w.linked ≡ true → length line.items ≤ 95 → can_happen w (Send line) ≡ true
can_send w line open_now short =
    ap (λ (b : Bool). b && fits_wire line.items) open_now ∙ is_le line short

-- a line that was sent
pub send_past : (l mid new : MemoryLinkData) (line : ArrayVec ℕ) (fate : Fate) → mid ≡ with_one_call l → new ≡ with_added mid (send_events (link_world mid) line fate) → (link_world l).linked ≡ true → length line.items ≤ 95 → Grows (link_kind l) (Some l.story.past) (Some new.story.past) (IsSend line.items)
send_past l mid new line fate mid_is new_is open_now short =
    grows_by l (send_events (link_world l) line fate) new.story.past (IsSend line.items)
    (ap (λ (n : MemoryLinkData). n.story.past) (new_is ∙ ap (λ (m : MemoryLinkData). with_added m (send_events (link_world m) line fate)) mid_is))
    (record {
      before = [];
      sent = Send line;
      after = harm_events fate (length (link_world l).up) line;
      is = refl;
      line_is = refl;
      free_before = refl;
      free_after = harm_free fate (length (link_world l).up) line;
      sends = can_send (link_world l) line open_now short;
    })

-- a sending that failed
pub send_failed : (l mid late new : MemoryLinkData) → mid ≡ with_one_call l → late ≡ mid → new ≡ after_fault late → (link_world l).linked ≡ true → Grows (link_kind l) (Some l.story.past) (Some new.story.past) IsSendLoss
send_failed l mid late new mid_is late_is new_is open_now =
    grows_by l (Closed ∷ []) new.story.past IsSendLoss
    (ap (λ (n : MemoryLinkData). n.story.past) (new_is ∙ ap after_fault (late_is ∙ mid_is))
    ∙ ap (λ (es : List WorldEvent). l.story.past ++ es) (closing_open (link_world l) open_now))
    (record { before = []; failing = []; after = []; is = refl; may_send = tt; free_before = refl; free_after = refl; linked = open_now })

due_run_free : (due : Bool) (w : WorldData) → list_all is_free (due_run due w) ≡ true
due_run_free false w = refl
due_run_free true w =
    cond_both (is_empty w.printer.queue) [] (Run ∷ []) (λ (es : List WorldEvent). list_all is_free es ≡ true) (λ _. refl) (λ _. refl)

-- what the printer does before a receiving is free
pub printer_free : (due : Bool) (w : WorldData) → list_all is_free (printer_events due w) ≡ true
printer_free due w =
    list_all-append is_free (arrivals w w.up) (due_run due (world_from w (arrivals w w.up)))
    ∙ ap (λ (b : Bool). b && list_all is_free (due_run due (world_from w (arrivals w w.up)))) (arrivals_free w w.up)
    ∙ due_run_free due (world_from w (arrivals w w.up))

-- and so is a restart before it
pub before_free : (restarts due : Bool) (w : WorldData) → list_all is_free (before_reply restarts due w) ≡ true
before_free false due w = printer_free due w
before_free true due w = printer_free due (apply w Restart)

recv_linked : (w : WorldData) (reply : List ℕ) (rest : List (List ℕ)) → w.down ≡ reply ∷ rest → w.linked ≡ true → (apply w Recv).linked ≡ true
recv_linked w reply rest front open_now =
    let can : can_happen w Recv ≡ true = ap (λ (b : Bool). b && not (is_empty w.down)) open_now ∙ ap (λ (d : List (List ℕ)). not (is_empty d)) front in
    ap (λ (v : WorldData). v.linked) (happens w Recv can) ∙ open_now

-- the losses of replies are free
lost_free : (lost : List ℕ) (number at count : ℕ) → list_all is_free (lost_among lost number at count) ≡ true
lost_free lost number at zero = refl
lost_free lost number at (suc count) =
    cond_both (is_listed lost number) (LoseReply at ∷ lost_among lost (one_more number) at count) (lost_among lost (one_more number) (at + 1) count)
    (λ (es : List WorldEvent). list_all is_free es ≡ true) (λ _. lost_free lost (one_more number) at count) (λ _. lost_free lost (one_more number) (at + 1) count)

-- where none is listed there is none
none_lost : (number at count : ℕ) → lost_among [] number at count ≡ []
none_lost number at zero = refl
none_lost number at (suc count) = none_lost (one_more number) (at + 1) count

pub recv_free : (restarts due : Bool) (l : MemoryLinkData) → list_all is_free (before_recv restarts due l) ≡ true
recv_free restarts due l =
    list_all-append is_free (before_reply restarts due (link_world l)) (recv_losses restarts due l)
    ∙ ap (λ (b : Bool). b && list_all is_free (recv_losses restarts due l)) (before_free restarts due (link_world l))
    ∙ lost_free l.lost (one_more l.replies) (length (link_world l).down) (joined (link_world l) (before_reply restarts due (link_world l)))

-- the link stays up
after_linked : (restarts due : Bool) (l : MemoryLinkData) → (link_world l).linked ≡ true → (link_world (after_printer restarts due l)).linked ≡ true
after_linked restarts due l open_now =
    ap (λ (w : WorldData). w.linked) (grown_world l (before_recv restarts due l))
    ∙ world_from-linked (link_world l) (before_recv restarts due l) (recv_free restarts due l)
    ∙ open_now

-- a receiving as it starts
abbrev pub asked : MemoryLinkData → MemoryLinkData
asked l = with_one_recv (with_one_call l)

-- the states in which a receiving starts are one
asked_is : (l first mid : MemoryLinkData) → first ≡ with_one_call l → mid ≡ with_one_recv first → mid ≡ asked l
asked_is l first mid first_is mid_is = mid_is ∙ ap with_one_recv first_is

from_asked : (l mid new : MemoryLinkData) (restarts due : Bool) (into : List ℕ) (got : Heard) → mid ≡ asked l → LinkReceived restarts due into got mid new → LinkReceived restarts due into got (asked l) new
from_asked l mid new restarts due into got mid_is received =
    let At : MemoryLinkData → Type 0 = λ m. LinkReceived restarts due into got m new in subst At mid_is received

heard_grows : (l new : MemoryLinkData) (restarts due : Bool) (into : List ℕ) → LinkHeard restarts due into (asked l) new → (link_world l).linked ≡ true → Grows (link_kind l) (Some l.story.past) (Some new.story.past) (IsHeard into)
heard_grows l new restarts due into was open_now =
    let before = before_recv restarts due l in
    grows_by l (before ++ Recv ∷ []) new.story.past (IsHeard into)
    (ap (λ (n : MemoryLinkData). n.story.past) was.is ∙ append_assoc l.story.past before (Recv ∷ []))
    (record {
      before = before;
      reply = into;
      rest = was.front.rest;
      after = [];
      is = refl;
      front = ap (λ (w : WorldData). w.down) (sym (grown_world l before)) ∙ was.front.is;
      linked = world_from-linked (link_world l) before (recv_free restarts due l) ∙ open_now;
      whole = refl;
      free_before = recv_free restarts due l;
      free_after = refl;
    })

-- a line that was received
pub heard_past : (l first mid new : MemoryLinkData) (restarts due : Bool) (into : List ℕ) (got : Heard) → first ≡ with_one_call l → mid ≡ with_one_recv first → LinkReceived restarts due into got mid new → (link_world l).linked ≡ true → got ≡ Line → Grows (link_kind l) (Some l.story.past) (Some new.story.past) (IsHeard into)
heard_past l first mid new restarts due into Line first_is mid_is received open_now line =
    heard_grows l new restarts due into (from_asked l mid new restarts due into Line (asked_is l first mid first_is mid_is) received) open_now
heard_past l first mid new restarts due into Nothing first_is mid_is received open_now line = absurd (cc)

quiet_grows : (l new : MemoryLinkData) (restarts due : Bool) → LinkQuiet restarts due (asked l) new → Grows (link_kind l) (Some l.story.past) (Some new.story.past) IsSilence
quiet_grows l new restarts due was =
    grows_by l (before_recv restarts due l) new.story.past IsSilence (ap (λ (n : MemoryLinkData). n.story.past) was.is)
    (record {
      free = recv_free restarts due l;
      empty = ap (λ (w : WorldData). w.down) (sym (grown_world l (before_recv restarts due l))) ∙ was.empty;
    })

-- nothing was received
pub quiet_past : (l first mid new : MemoryLinkData) (restarts due : Bool) (into : List ℕ) (got : Heard) → first ≡ with_one_call l → mid ≡ with_one_recv first → LinkReceived restarts due into got mid new → got ≡ Nothing → Grows (link_kind l) (Some l.story.past) (Some new.story.past) IsSilence
quiet_past l first mid new restarts due into Line first_is mid_is received nothing = absurd (cc)
quiet_past l first mid new restarts due into Nothing first_is mid_is received nothing =
    quiet_grows l new restarts due (from_asked l mid new restarts due into Nothing (asked_is l first mid first_is mid_is) received)

-- the link is up after a receiving
pub received_up : (l first mid new : MemoryLinkData) (restarts due : Bool) (into : List ℕ) (got : Heard) → first ≡ with_one_call l → mid ≡ with_one_recv first → LinkReceived restarts due into got mid new → (link_world l).linked ≡ true → (link_world new).linked ≡ true
received_up l first mid new restarts due into Line first_is mid_is received open_now =
    let was : LinkHeard restarts due into (asked l) new = from_asked l mid new restarts due into Line (asked_is l first mid first_is mid_is) received in
    ap (λ (n : MemoryLinkData). (link_world n).linked) was.is
    ∙ ap (λ (w : WorldData). w.linked) (grown_world (after_printer restarts due (asked l)) (Recv ∷ []))
    ∙ recv_linked (link_world (after_printer restarts due (asked l))) into was.front.rest was.front.is (after_linked restarts due (asked l) open_now)
received_up l first mid new restarts due into Nothing first_is mid_is received open_now =
    let was : LinkQuiet restarts due (asked l) new = from_asked l mid new restarts due into Nothing (asked_is l first mid first_is mid_is) received in
    ap (λ (n : MemoryLinkData). (link_world n).linked) was.is
    ∙ after_linked restarts due (asked l) open_now

-- a receiving that failed
pub recv_failed : (l first mid late new : MemoryLinkData) → first ≡ with_one_call l → mid ≡ with_one_recv first → LinkMoved mid late → new ≡ after_fault late → (link_world l).linked ≡ true → Grows (link_kind l) (Some l.story.past) (Some new.story.past) IsLoss
recv_failed l first mid late new first_is mid_is moved new_is open_now =
    let late_is : late ≡ record (with_added (asked l) moved.added) { replies = moved.replies } =
    moved.is ∙ ap (λ (m : MemoryLinkData). record (with_added m moved.added) { replies = moved.replies }) (asked_is l first mid first_is mid_is) in
    let still_open : (world_from (link_world l) moved.added).linked ≡ true = world_from-linked (link_world l) moved.added moved.free ∙ open_now in
    let late_open : (link_world late).linked ≡ true =
    ap (λ (n : MemoryLinkData). (link_world n).linked) late_is
    ∙ ap (λ (w : WorldData). w.linked) (grown_world l moved.added)
    ∙ still_open
    in
    grows_by l (moved.added ++ Closed ∷ []) new.story.past IsLoss
    (ap (λ (n : MemoryLinkData). n.story.past) new_is
    ∙ ap (λ (es : List WorldEvent). late.story.past ++ es) (closing_open (link_world late) late_open)
    ∙ ap (λ (n : MemoryLinkData). n.story.past ++ Closed ∷ []) late_is
    ∙ append_assoc l.story.past moved.added (Closed ∷ []))
    (record { before = moved.added; is = refl; free = moved.free; linked = still_open })

-- a receiving that failed before anything was done
pub recv_failed_at_once : (l first mid new : MemoryLinkData) → first ≡ with_one_call l → mid ≡ with_one_recv first → new ≡ after_fault mid → (link_world l).linked ≡ true → Grows (link_kind l) (Some l.story.past) (Some new.story.past) IsLoss
recv_failed_at_once l first mid new first_is mid_is new_is open_now =
    let moved : LinkMoved mid mid = record { added = []; replies = mid.replies; is = none_added mid; free = refl } in
    recv_failed l first mid mid new first_is mid_is moved new_is open_now

-- what happened before a receiving for which no place was found
pub moved_by : (l mid new : MemoryLinkData) (restarts due : Bool) → mid ≡ after_printer restarts due l → new ≡ mid → LinkMoved l new
moved_by l mid new restarts due mid_is new_is =
    record {
      added = before_recv restarts due l;
      replies = (after_printer restarts due l).replies;
      is = new_is ∙ mid_is;
      free = recv_free restarts due l;
    }

-- free events, and then such a change
pub moved_then : (l mid new : MemoryLinkData) (first : List WorldEvent) → mid ≡ with_added l first → list_all is_free first ≡ true → LinkMoved mid new → LinkMoved l new
moved_then l mid new first mid_is free moved =
    record {
      added = first ++ moved.added;
      replies = moved.replies;
      is = moved.is
          ∙ ap (λ (m : MemoryLinkData). record (with_added m moved.added) { replies = moved.replies }) mid_is
          ∙ ap (λ (past : List WorldEvent). record l { story = record l.story { past = past }; replies = moved.replies }) (append_assoc l.story.past first moved.added);
      free = list_all-append is_free first moved.added ∙ ap (λ (b : Bool). b && list_all is_free moved.added) free ∙ moved.free;
    }

-- only free events were added to the recorded history
moved_free : (l new : MemoryLinkData) → FreeOnly l.story new.story → new ≡ record l { story = new.story } → LinkMoved l new
moved_free l new free same =
    record { added = free.added; replies = l.replies; is = same ∙ ap (λ (s : StoryData). record l { story = s }) free.is; free = free.free }

pub moved_from : (l inside new : MemoryLinkData) → inside ≡ l → FreeOnly inside.story new.story → new ≡ record inside { story = new.story } → LinkMoved l new
moved_from l inside new is free same = (let At : MemoryLinkData → Type 0 = λ m. LinkMoved m new in subst At is (moved_free inside new free same))

-- what the printer did, and then which of its replies were lost
pub printed_then : (l mid new : MemoryLinkData) (from : ℕ) (restarts due : Bool) → from ≡ length (link_world l).down → mid ≡ with_added l (before_reply restarts due (link_world l)) →
    new ≡ with_replies (length (link_world mid).down - from)
    (with_added mid (lost_among mid.lost (one_more mid.replies) from (length (link_world mid).down - from))) → new ≡ after_printer restarts due l
printed_then l mid new from restarts due from_is mid_is new_is =
    let before = before_reply restarts due (link_world l) in
    let count = joined (link_world l) before in
    let count_is : length (link_world mid).down - from ≡ count =
    ap (λ (m : MemoryLinkData). length (link_world m).down - from) mid_is
    ∙ ap (λ (w : WorldData). length w.down - from) (grown_world l before)
    ∙ ap (λ (n : ℕ). length (world_from (link_world l) before).down - n) from_is
    in
    new_is
    ∙ ap (λ (n : ℕ). with_replies n (with_added mid (lost_among mid.lost (one_more mid.replies) from n))) count_is
    ∙ ap (λ (m : MemoryLinkData). with_replies count (with_added m (lost_among m.lost (one_more m.replies) from count))) mid_is
    ∙ ap (λ (n : ℕ). with_replies count (with_added (with_added l before) (lost_among l.lost (one_more l.replies) n count))) from_is
    ∙ ap (λ (past : List WorldEvent). with_replies count (record l { story = record l.story { past = past } })) (append_assoc l.story.past before (recv_losses restarts due l))

-- what a prompt link's schedule is
record IsPrompt (l : MemoryLinkData) : Type 0 where
  slow : l.slow ≡ 0
  restart_at : is_empty l.restart_at ≡ true
  lost : is_empty l.lost ≡ true

prompt_so : (l : MemoryLinkData) → is_prompt l ≡ true → IsPrompt l
prompt_so l prompt =
    let rest = is_empty l.restart_at && is_empty l.lost in
    let fates = and_parts (list_all is_whole l.story.fates) (l.slow == 0 && (is_empty l.fail_at && rest)) prompt in
    let slow = and_parts (l.slow == 0) (is_empty l.fail_at && rest) fates.1 in
    let fails = and_parts (is_empty l.fail_at) rest slow.1 in
    let restarts = and_parts (is_empty l.restart_at) (is_empty l.lost) fails.1 in
    record { slow = grind (arith, nat_tests, slow.0); restart_at = restarts.0; lost = restarts.1 }

empty_is : {X : Type 0} (xs : List X) → is_empty xs ≡ true → xs ≡ []
empty_is [] empty = refl
empty_is (x ∷ xs) empty = absurd (cc)

-- nothing is listed in an empty list, and each `recv` of a link that isn't slow is due
unlisted : (xs : List ℕ) (n : ℕ) → is_empty xs ≡ true → is_listed xs n ≡ false
unlisted xs n empty = ap (λ (ys : List ℕ). is_listed ys n) (empty_is xs empty)

always_due : (slow n : ℕ) → slow ≡ 0 → is_due slow n ≡ true
always_due slow n none = ap (λ (s : ℕ). is_due s n) none ∙ eq-eqb (n % 1) 0 (omega arith)

-- a receiving over a prompt link
prompt_events : (l : MemoryLinkData) → is_empty l.lost ≡ true → before_recv false true l ≡ printer_events true (link_world l)
prompt_events l empty =
    let before = printer_events true (link_world l) in
    let losses : recv_losses false true l ≡ [] =
    ap (λ (lost : List ℕ). lost_among lost (one_more l.replies) (length (link_world l).down) (joined (link_world l) before)) (empty_is l.lost empty)
    ∙ none_lost (one_more l.replies) (length (link_world l).down) (joined (link_world l) before)
    in
    ap (λ (es : List WorldEvent). before ++ es) losses ∙ append-nil before

-- what a `recv` over a prompt link adds
abbrev pub AddsPrompt : MemoryLinkData → MemoryLinkData → Type 0
AddsPrompt l new = Grows (link_kind l) (Some l.story.past) (Some new.story.past) (λ w added. added ≡ recv_events true w)

-- the front was received, if there was one
due_recv_some : (w : WorldData) (reply : List ℕ) (rest : List (List ℕ)) → w.down ≡ reply ∷ rest → due_recv w ≡ Recv ∷ []
due_recv_some w reply rest front = ap (λ (d : List (List ℕ)). if is_empty d then [] else Recv ∷ []) front

due_recv_none : (w : WorldData) → w.down ≡ [] → due_recv w ≡ []
due_recv_none w none = ap (λ (d : List (List ℕ)). if is_empty d then [] else Recv ∷ []) none

prompt_heard : (l new : MemoryLinkData) (into : List ℕ) → is_empty l.lost ≡ true → LinkHeard false true into (asked l) new → AddsPrompt l new
prompt_heard l new into empty was =
    let w = link_world l in
    let events_are : before_recv false true (asked l) ≡ printer_events true w = prompt_events (asked l) empty in
    let world_is : link_world (after_printer false true (asked l)) ≡ world_from w (printer_events true w) =
    grown_world l (before_recv false true (asked l)) ∙ ap (world_from w) events_are in
    let front : (world_from w (printer_events true w)).down ≡ into ∷ was.front.rest = ap (λ (v : WorldData). v.down) (sym world_is) ∙ was.front.is in
    grows_by l (recv_events true w) new.story.past (λ v added. added ≡ recv_events true v)
    (ap (λ (n : MemoryLinkData). n.story.past) was.is
    ∙ ap (λ (es : List WorldEvent). (l.story.past ++ es) ++ Recv ∷ []) events_are
    ∙ append_assoc l.story.past (printer_events true w) (Recv ∷ [])
    ∙ ap (λ (es : List WorldEvent). l.story.past ++ (printer_events true w ++ es)) (sym (due_recv_some (world_from w (printer_events true w)) into was.front.rest front)))
    refl

prompt_quiet : (l new : MemoryLinkData) → is_empty l.lost ≡ true → LinkQuiet false true (asked l) new → AddsPrompt l new
prompt_quiet l new empty was =
    let w = link_world l in
    let events_are : before_recv false true (asked l) ≡ printer_events true w = prompt_events (asked l) empty in
    let world_is : link_world (after_printer false true (asked l)) ≡ world_from w (printer_events true w) =
    grown_world l (before_recv false true (asked l)) ∙ ap (world_from w) events_are in
    let none : (world_from w (printer_events true w)).down ≡ [] = ap (λ (v : WorldData). v.down) (sym world_is) ∙ was.empty in
    grows_by l (recv_events true w) new.story.past (λ v added. added ≡ recv_events true v)
    (ap (λ (n : MemoryLinkData). n.story.past) was.is
    ∙ ap (λ (es : List WorldEvent). l.story.past ++ es) events_are
    ∙ ap (λ (es : List WorldEvent). l.story.past ++ es)
    (sym (append-nil (printer_events true w)) ∙ ap (λ (es : List WorldEvent). printer_events true w ++ es) (sym (due_recv_none (world_from w (printer_events true w)) none))))
    refl

prompt_received : (l new : MemoryLinkData) (into : List ℕ) (got : Heard) → is_empty l.lost ≡ true → LinkReceived false true into got (asked l) new → AddsPrompt l new
prompt_received l new into Line empty was = prompt_heard l new into empty was
prompt_received l new into Nothing empty was = prompt_quiet l new empty was

pub prompt_past : (l first mid new : MemoryLinkData) (restarts due : Bool) (into : List ℕ) (got : Heard) → first ≡ with_one_call l → mid ≡ with_one_recv first →
    restarts ≡ is_listed mid.restart_at mid.recvs → due ≡ is_due first.slow (one_more first.recvs) → LinkReceived restarts due into got mid new → is_prompt l ≡ true → AddsPrompt l new
prompt_past l first mid new restarts due into got first_is mid_is restarts_is due_is received prompt =
    let so = prompt_so l prompt in
    let restarts_not : restarts ≡ false =
    restarts_is ∙ ap (λ (m : MemoryLinkData). is_listed m.restart_at m.recvs) (asked_is l first mid first_is mid_is) ∙ unlisted l.restart_at (asked l).recvs so.restart_at in
    let is_due_now : due ≡ true =
    due_is ∙ ap (λ (m : MemoryLinkData). is_due m.slow (one_more m.recvs)) first_is ∙ always_due l.slow (one_more l.recvs) so.slow in
    let here : LinkReceived restarts due into got (asked l) new = from_asked l mid new restarts due into got (asked_is l first mid first_is mid_is) received in
    let At : Bool → Type 0 = λ r. LinkReceived r due into got (asked l) new in
    let Due : Bool → Type 0 = λ d. LinkReceived false d into got (asked l) new in
    prompt_received l new into got so.lost (subst Due is_due_now (subst At restarts_not here))
