-- What one event, or several, leave of the world.
use Rattle.std.proofs.Common.{◌≡◌, ℕ, Bool, true, false, cond, List, [], ◌∷◌, ◌++◌, refl, sym, ◌∙◌, ap, append_assoc, append-nil, length, zero, suc, replicate, not, ◌&&◌, ◌≢◌, map}
use Rattle.std.specs.Prelude.{Result, Ok, Err, remove, slice_set, if◌then◌else◌}
use Rattle.std.proofs.lemmas.List.Sums.{fold-append}
use Rattle.std.specs.List.{list_all}
use Rattle.std.proofs.lemmas.Bool.{cond_both, and_parts}
use Rattle.printer_model.specs.Printer.{IsSameKind, waiting_as, PrinterData, Entry, Logged, is_full, judged, take_judged, take_line, run_queue, ran_line}
use Rattle.printer_model.specs.World.{WorldData, new_world, can_happen, is_empty, arrive_front, after_run, happen, apply, world_from, world_of, Grew, IsTidy, accepted_lines, moves_printer, moves_up, moves_down, is_free, fits_wire, after_arrival}
use Rattle.printer_model.specs.World.{is_run}
use Rattle.marlin_reply.specs.Kind.{is_chatter}
use Rattle.printer_model.specs.declared.printer.Reason.{Reason}
use Rattle.printer_model.specs.declared.printer.Taken.TheVariants.{Accepted, Full}
use Rattle.printer_model.specs.declared.oks.Oks.{Oks}
use Rattle.printer_model.specs.declared.event.WorldEvent.{WorldEvent}
use Rattle.printer_model.specs.declared.event.WorldEvent.TheVariants.{Opened, Send, Arrive, Lose, LoseReply, Garble, Run, Restart, Chatter, Recv, Closed}

-- events in two parts
pub world_from-append : (w : WorldData) (first more : List WorldEvent) → world_from w (first ++ more) ≡ world_from (world_from w first) more
world_from-append w first more = fold-append apply w first more

-- one more event
pub world_from-push : (w : WorldData) (past : List WorldEvent) (event : WorldEvent) → world_from w (past ++ event ∷ []) ≡ apply (world_from w past) event
world_from-push w past event = world_from-append w past (event ∷ [])

pub world_of-append : (slots : ℕ) (oks : Oks) (past added : List WorldEvent) → world_of slots oks (past ++ added) ≡ world_from (world_of slots oks past) added
world_of-append slots oks past added = world_from-append (new_world slots oks) past added

pub world_of-push : (slots : ℕ) (oks : Oks) (past : List WorldEvent) (event : WorldEvent) → world_of slots oks (past ++ event ∷ []) ≡ apply (world_of slots oks past) event
world_of-push slots oks past event = world_from-push (new_world slots oks) past event

-- an event that can happen happens
pub happens : (w : WorldData) (event : WorldEvent) → can_happen w event ≡ true → apply w event ≡ happen w event
happens w event can = ap (λ (b : Bool). cond b (happen w event) w) can

-- one that can't changes nothing
pub stays : (w : WorldData) (event : WorldEvent) → can_happen w event ≡ false → apply w event ≡ w
stays w event cannot = ap (λ (b : Bool). cond b (happen w event) w) cannot

-- what holds before an event, and after it if it happens, holds after it
pub after_event : (P : WorldData → Type 0) (w : WorldData) (event : WorldEvent) → P w → (can_happen w event ≡ true → P (happen w event)) → P (apply w event)
after_event P w event before after = cond_both (can_happen w event) (happen w event) w P after (λ _. before)

-- the log grows from itself
pub Grew-refl : (log : List Logged) → Grew log log
Grew-refl log = record { added = []; is = sym (append-nil log) }

pub Grew-trans : {a b c : List Logged} → Grew a b → Grew b c → Grew a c
Grew-trans {a} {b} {c} first later =
    record {
      added = first.added ++ later.added;
      is = later.is ∙ ap (λ (l : List Logged). l ++ later.added) first.is ∙ append_assoc a first.added later.added;
    }

-- the log after a line from the wire was taken
arrived_log : (w : WorldData) (up : List (List ℕ)) → (arrive_front w up).log ≡ w.log
arrived_log w [] = refl
arrived_log w (line ∷ behind) = refl

-- the log after a run grew by at most one line
ran_log : (w : WorldData) (queue : List Entry) → Grew w.log (after_run w (run_queue w.printer queue)).log
ran_log w [] = Grew-refl w.log
ran_log w (entry ∷ behind) = record { added = record { number = entry.number; text = entry.text } ∷ []; is = refl }

-- an event that happens only adds to the log
happen-Grew : (w : WorldData) (event : WorldEvent) → Grew w.log (happen w event).log
happen-Grew w (Opened last) = Grew-refl w.log
happen-Grew w (Send line) = Grew-refl w.log
happen-Grew w Arrive = record { added = []; is = arrived_log w w.up ∙ sym (append-nil w.log) }
happen-Grew w (Lose at) = Grew-refl w.log
happen-Grew w (LoseReply at) = Grew-refl w.log
happen-Grew w (Garble at line) = Grew-refl w.log
happen-Grew w Run = ran_log w w.printer.queue
happen-Grew w Restart = Grew-refl w.log
happen-Grew w (Chatter reply) = Grew-refl w.log
happen-Grew w Recv = Grew-refl w.log
happen-Grew w Closed = Grew-refl w.log

-- an event only adds to the log
pub apply-Grew : (w : WorldData) (event : WorldEvent) → Grew w.log (apply w event).log
apply-Grew w event = after_event (λ (v : WorldData). Grew w.log v.log) w event (Grew-refl w.log) (λ _. happen-Grew w event)

-- events only add to the log
pub world_from-Grew : (w : WorldData) (events : List WorldEvent) → Grew w.log (world_from w events).log
world_from-Grew w [] = Grew-refl w.log
world_from-Grew w (event ∷ events) = Grew-trans (apply-Grew w event) (world_from-Grew (apply w event) events)

happen-log : (w : WorldData) (event : WorldEvent) → is_run event ≡ false → (happen w event).log ≡ w.log
happen-log w (Opened last) _ = refl
happen-log w (Send line) _ = refl
happen-log w Arrive _ = arrived_log w w.up
happen-log w (Lose at) _ = refl
happen-log w (LoseReply at) _ = refl
happen-log w (Garble at line) _ = refl
happen-log w Run no_run = absurd (cc)
happen-log w Restart _ = refl
happen-log w (Chatter reply) _ = refl
happen-log w Recv _ = refl
happen-log w Closed _ = refl

-- all events but a run leave the log
pub apply-log : (w : WorldData) (event : WorldEvent) → is_run event ≡ false → (apply w event).log ≡ w.log
apply-log w event no_run = after_event (λ (v : WorldData). v.log ≡ w.log) w event refl (λ _. happen-log w event no_run)

pub IsSameKind-refl : (p : PrinterData) → IsSameKind p p
IsSameKind-refl p = record { slots = refl; oks = refl }

take_judged-IsSameKind : (p : PrinterData) (what : Result Entry Reason) → IsSameKind p (take_judged p what).1
take_judged-IsSameKind p (Ok entry) = record { slots = refl; oks = refl }
take_judged-IsSameKind p (Err reason) = IsSameKind-refl p

-- a line that is taken leaves the buffer slots and the kind of acknowledgements
pub take_line-IsSameKind : (p : PrinterData) (line : List ℕ) → IsSameKind p (take_line p line).1
take_line-IsSameKind p line =
    cond_both (is_full p) _ (take_judged p (judged p.last line)) (λ t. IsSameKind p t.1) (λ _. IsSameKind-refl p)
    (λ _. take_judged-IsSameKind p (judged p.last line))

arrived-IsSameKind : (w : WorldData) (up : List (List ℕ)) → IsSameKind w.printer (arrive_front w up).printer
arrived-IsSameKind w [] = IsSameKind-refl w.printer
arrived-IsSameKind w (line ∷ behind) = take_line-IsSameKind w.printer line

ran-IsSameKind : (w : WorldData) (queue : List Entry) → IsSameKind w.printer (after_run w (run_queue w.printer queue)).printer
ran-IsSameKind w [] = IsSameKind-refl w.printer
ran-IsSameKind w (entry ∷ behind) = record { slots = refl; oks = refl }

happen-IsSameKind : (w : WorldData) (event : WorldEvent) → IsSameKind w.printer (happen w event).printer
happen-IsSameKind w (Opened last) = record { slots = refl; oks = refl }
happen-IsSameKind w (Send line) = IsSameKind-refl w.printer
happen-IsSameKind w Arrive = arrived-IsSameKind w w.up
happen-IsSameKind w (Lose at) = IsSameKind-refl w.printer
happen-IsSameKind w (LoseReply at) = IsSameKind-refl w.printer
happen-IsSameKind w (Garble at line) = IsSameKind-refl w.printer
happen-IsSameKind w Run = ran-IsSameKind w w.printer.queue
happen-IsSameKind w Restart = record { slots = refl; oks = refl }
happen-IsSameKind w (Chatter reply) = IsSameKind-refl w.printer
happen-IsSameKind w Recv = IsSameKind-refl w.printer
happen-IsSameKind w Closed = IsSameKind-refl w.printer

-- an event leaves the buffer slots and the kind of acknowledgements
pub apply-IsSameKind : (w : WorldData) (event : WorldEvent) → IsSameKind w.printer (apply w event).printer
apply-IsSameKind w event =
    after_event (λ (v : WorldData). IsSameKind w.printer v.printer) w event (IsSameKind-refl w.printer) (λ _. happen-IsSameKind w event)

pub world_from-IsSameKind : (w : WorldData) (events : List WorldEvent) → IsSameKind w.printer (world_from w events).printer
world_from-IsSameKind w [] = IsSameKind-refl w.printer
world_from-IsSameKind w (event ∷ events) =
    let here = apply-IsSameKind w event in
    let behind = world_from-IsSameKind (apply w event) events in
    record { slots = behind.slots ∙ here.slots; oks = behind.oks ∙ here.oks }

arrived_linked : (w : WorldData) (up : List (List ℕ)) → (arrive_front w up).linked ≡ w.linked
arrived_linked w [] = refl
arrived_linked w (line ∷ behind) = refl

ran_linked : (w : WorldData) (queue : List Entry) → (after_run w (run_queue w.printer queue)).linked ≡ w.linked
ran_linked w [] = refl
ran_linked w (entry ∷ behind) = refl

happen-linked : (w : WorldData) (event : WorldEvent) → is_free event ≡ true → (happen w event).linked ≡ w.linked
happen-linked w (Opened last) free = absurd (cc)
happen-linked w (Send line) free = absurd (cc)
happen-linked w Arrive free = arrived_linked w w.up
happen-linked w (Lose at) free = refl
happen-linked w (LoseReply at) free = refl
happen-linked w (Garble at line) free = refl
happen-linked w Run free = ran_linked w w.printer.queue
happen-linked w Restart free = refl
happen-linked w (Chatter reply) free = refl
happen-linked w Recv free = absurd (cc)
happen-linked w Closed free = absurd (cc)

-- what the line and the printer do leaves a link open or closed
pub apply-linked : (w : WorldData) (event : WorldEvent) → is_free event ≡ true → (apply w event).linked ≡ w.linked
apply-linked w event free = after_event (λ (v : WorldData). v.linked ≡ w.linked) w event refl (λ _. happen-linked w event free)

pub world_from-linked : (w : WorldData) (events : List WorldEvent) → list_all is_free events ≡ true → (world_from w events).linked ≡ w.linked
world_from-linked w [] free = refl
world_from-linked w (event ∷ events) free =
    world_from-linked (apply w event) events (and_parts (is_free event) (list_all is_free events) free).1
    ∙ apply-linked w event (and_parts (is_free event) (list_all is_free events) free).0

-- a run of a printer in which something waits
pub run_queue_of : (w : WorldData) (entry : Entry) (behind : List Entry) → w.printer.queue ≡ entry ∷ behind → apply w Run ≡ after_run w (run_queue w.printer (entry ∷ behind))
run_queue_of w entry behind same =
    let can : can_happen w Run ≡ true = ap (λ (q : List Entry). not (is_empty q)) same in
    happens w Run can ∙ ap (λ (q : List Entry). after_run w (run_queue w.printer q)) same

-- as many runs as entries wait leave none
pub run_out : (w : WorldData) (queue : List Entry) → w.printer.queue ≡ queue → (world_from w (replicate (length queue) Run)).printer.queue ≡ []
run_out w [] same = same
run_out w (entry ∷ behind) same =
    run_out (apply w Run) behind (ap (λ (v : WorldData). v.printer.queue) (run_queue_of w entry behind same))

-- a link can be made if none is and nothing waits
pub can_open : (w : WorldData) (last : ℕ) → w.linked ≡ false → w.printer.queue ≡ [] → can_happen w (Opened last) ≡ true
can_open w last closed idle = ap (λ (b : Bool). not b && is_empty w.printer.queue) closed ∙ ap is_empty idle

-- a number of runs
pub runs_only : (n : ℕ) → list_all is_run (replicate n Run) ≡ true
runs_only zero = refl
runs_only (suc n) = runs_only n

pub runs_free : (n : ℕ) → list_all is_free (replicate n Run) ≡ true
runs_free zero = refl
runs_free (suc n) = runs_free n

-- a line that isn't accepted leaves the printer
take_judged-kept : (p : PrinterData) (what : Result Entry Reason) → (take_judged p what).0 ≢ Accepted → (take_judged p what).1 ≡ p
take_judged-kept p (Ok entry) refused_it = absurd (refused_it refl)
take_judged-kept p (Err reason) refused_it = refl

pub take_line-kept : (p : PrinterData) (line : List ℕ) → (take_line p line).0 ≢ Accepted → (take_line p line).1 ≡ p
take_line-kept p line =
    cond_both (is_full p) (Full, p) (take_judged p (judged p.last line)) (λ t. t.0 ≢ Accepted → t.1 ≡ p) (λ _ _. refl) (λ _. take_judged-kept p (judged p.last line))

happen-printer : (w : WorldData) (event : WorldEvent) → moves_printer event ≡ false → (happen w event).printer ≡ w.printer
happen-printer w (Opened last) idle = absurd (cc)
happen-printer w (Send line) idle = refl
happen-printer w Arrive idle = absurd (cc)
happen-printer w (Lose at) idle = refl
happen-printer w (LoseReply at) idle = refl
happen-printer w (Garble at line) idle = refl
happen-printer w Run idle = absurd (cc)
happen-printer w Restart idle = absurd (cc)
happen-printer w (Chatter reply) idle = refl
happen-printer w Recv idle = refl
happen-printer w Closed idle = refl

-- all events but Opened, Arrive, Run and Restart leave the printer
pub apply-printer : (w : WorldData) (event : WorldEvent) → moves_printer event ≡ false → (apply w event).printer ≡ w.printer
apply-printer w event idle = after_event (λ (v : WorldData). v.printer ≡ w.printer) w event refl (λ _. happen-printer w event idle)

ran_up : (w : WorldData) (queue : List Entry) → (after_run w (run_queue w.printer queue)).up ≡ w.up
ran_up w [] = refl
ran_up w (entry ∷ behind) = refl

happen-up : (w : WorldData) (event : WorldEvent) → moves_up event ≡ false → (happen w event).up ≡ w.up
happen-up w (Opened last) idle = absurd (cc)
happen-up w (Send line) idle = absurd (cc)
happen-up w Arrive idle = absurd (cc)
happen-up w (Lose at) idle = absurd (cc)
happen-up w (LoseReply at) idle = refl
happen-up w (Garble at line) idle = absurd (cc)
happen-up w Run idle = ran_up w w.printer.queue
happen-up w Restart idle = refl
happen-up w (Chatter reply) idle = refl
happen-up w Recv idle = refl
happen-up w Closed idle = absurd (cc)

-- LoseReply, Run, Restart, Chatter and Recv leave the wire to the printer
pub apply-up : (w : WorldData) (event : WorldEvent) → moves_up event ≡ false → (apply w event).up ≡ w.up
apply-up w event idle = after_event (λ (v : WorldData). v.up ≡ w.up) w event refl (λ _. happen-up w event idle)

happen-down : (w : WorldData) (event : WorldEvent) → moves_down event ≡ false → (happen w event).down ≡ w.down
happen-down w (Opened last) idle = absurd (cc)
happen-down w (Send line) idle = refl
happen-down w Arrive idle = absurd (cc)
happen-down w (Lose at) idle = refl
happen-down w (LoseReply at) idle = absurd (cc)
happen-down w (Garble at line) idle = refl
happen-down w Run idle = absurd (cc)
happen-down w Restart idle = absurd (cc)
happen-down w (Chatter reply) idle = absurd (cc)
happen-down w Recv idle = absurd (cc)
happen-down w Closed idle = absurd (cc)

-- Send, Lose and Garble leave the wire from the printer
pub apply-down : (w : WorldData) (event : WorldEvent) → moves_down event ≡ false → (apply w event).down ≡ w.down
apply-down w event idle = after_event (λ (v : WorldData). v.down ≡ w.down) w event refl (λ _. happen-down w event idle)

-- a run moves the front of the queue to the end of the log, and leaves what was accepted
ran_accepted : (w : WorldData) (queue : List Entry) → w.log ++ map waiting_as queue ≡ accepted_lines w → w.printer.queue ≡ queue → accepted_lines (after_run w (run_queue w.printer queue)) ≡ accepted_lines w
ran_accepted w [] joined same = refl
ran_accepted w (entry ∷ behind) joined same = append_assoc w.log (waiting_as entry ∷ []) (map waiting_as behind) ∙ joined

pub run-accepted : (w : WorldData) → accepted_lines (apply w Run) ≡ accepted_lines w
run-accepted w = after_event (λ (v : WorldData). accepted_lines v ≡ accepted_lines w) w Run refl (λ _. ran_accepted w w.printer.queue refl refl)

ran_tidy : (w : WorldData) (queue : List Entry) → IsTidy w → IsTidy (after_run w (run_queue w.printer queue))
ran_tidy w [] tidy = tidy
ran_tidy w (entry ∷ behind) tidy =
    λ shut. let idle = tidy shut in record { up = idle.up; down = ap (λ (b : Bool). if b then w.down ++ (ran_line w.printer entry).reply ∷ [] else w.down) shut ∙ idle.down }

arrived_tidy : (w : WorldData) (up : List (List ℕ)) → w.up ≡ up → IsTidy w → IsTidy (arrive_front w up)
arrived_tidy w [] same tidy = tidy
arrived_tidy w (line ∷ behind) same tidy = λ shut. let idle = tidy shut in absurd (cc (idle.up))

nothing_out : (at : ℕ) → remove {X = List ℕ} [] at ≡ []
nothing_out zero = refl
nothing_out (suc at) = refl

-- an event that needs an open link
open_only : (w v : WorldData) (test : Bool) → (w.linked && test) ≡ true → v.linked ≡ w.linked → IsTidy v
open_only w v test can same = λ shut. let open_now : w.linked ≡ true = (and_parts w.linked test can).0 in absurd (cc)

happen-tidy : (w : WorldData) (event : WorldEvent) → can_happen w event ≡ true → IsTidy w → IsTidy (happen w event)
happen-tidy w (Opened last) can tidy = λ shut. absurd (cc)
happen-tidy w (Send line) can tidy = open_only w (happen w (Send line)) (fits_wire line.items) can refl
happen-tidy w Arrive can tidy = arrived_tidy w w.up refl tidy
happen-tidy w (Lose at) can tidy = λ shut. let idle = tidy shut in record { up = ap (λ (up : List (List ℕ)). remove up at) idle.up ∙ nothing_out at; down = idle.down }
happen-tidy w (LoseReply at) can tidy = λ shut. let idle = tidy shut in record { up = idle.up; down = ap (λ (down : List (List ℕ)). remove down at) idle.down ∙ nothing_out at }
happen-tidy w (Garble at line) can tidy = λ shut. let idle = tidy shut in record { up = ap (λ (up : List (List ℕ)). slice_set up at line.items) idle.up; down = idle.down }
happen-tidy w Run can tidy = ran_tidy w w.printer.queue tidy
happen-tidy w Restart can tidy = λ shut. absurd (cc)
happen-tidy w (Chatter reply) can tidy = open_only w (happen w (Chatter reply)) (is_chatter reply.items) can refl
happen-tidy w Recv can tidy = open_only w (happen w Recv) (not (is_empty w.down)) can refl
happen-tidy w Closed can tidy = λ shut. record { up = refl; down = refl }

-- without a link nothing is on the wires, after each event too
pub apply-tidy : (w : WorldData) (event : WorldEvent) → IsTidy w → IsTidy (apply w event)
apply-tidy w event tidy = after_event IsTidy w event tidy (λ can. happen-tidy w event can tidy)

pub world_from-tidy : (w : WorldData) (events : List WorldEvent) → IsTidy w → IsTidy (world_from w events)
world_from-tidy w [] tidy = tidy
world_from-tidy w (event ∷ events) tidy = world_from-tidy (apply w event) events (apply-tidy w event tidy)

pub world_of-tidy : (slots : ℕ) (oks : Oks) (past : List WorldEvent) → IsTidy (world_of slots oks past)
world_of-tidy slots oks past = world_from-tidy (new_world slots oks) past (λ _. record { up = refl; down = refl })

-- what an arrival is, by the line at the front of the wire
pub arrive_front_of : (w : WorldData) (line : List ℕ) (behind : List (List ℕ)) → w.up ≡ line ∷ behind → is_full w.printer ≡ false → apply w Arrive ≡ after_arrival w behind (take_judged w.printer (judged w.printer.last line))
arrive_front_of w line behind same room =
    let can : can_happen w Arrive ≡ true = ap (λ (up : List (List ℕ)). not (is_empty up) && not (is_full w.printer)) same ∙ ap not room in
    happens w Arrive can
    ∙ ap (arrive_front w) same
    ∙ ap (λ (b : Bool). after_arrival w behind (if b then (Full, w.printer) else take_judged w.printer (judged w.printer.last line))) room

-- the arrival of a line that is accepted
pub arrive_accepts : (w : WorldData) (line : List ℕ) (behind : List (List ℕ)) (entry : Entry) → w.up ≡ line ∷ behind → is_full w.printer ≡ false → judged w.printer.last line ≡ Ok entry → apply w Arrive ≡ after_arrival w behind (take_judged w.printer (Ok entry))
arrive_accepts w line behind entry same room is = arrive_front_of w line behind same room ∙ ap (λ (what : Result Entry Reason). after_arrival w behind (take_judged w.printer what)) is

-- the arrival of a line that is refused
pub arrive_refuses : (w : WorldData) (line : List ℕ) (behind : List (List ℕ)) (reason : Reason) → w.up ≡ line ∷ behind → is_full w.printer ≡ false → judged w.printer.last line ≡ Err reason → apply w Arrive ≡ after_arrival w behind (take_judged w.printer (Err reason))
arrive_refuses w line behind reason same room is = arrive_front_of w line behind same room ∙ ap (λ (what : Result Entry Reason). after_arrival w behind (take_judged w.printer what)) is
