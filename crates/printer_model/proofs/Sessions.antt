-- A recorded history by its sessions: what more events leave of what was executed.
use Rattle.std.proofs.Common.{◌≡◌, ℕ, zero, suc, pred, ◌+◌, ◌-◌, ◌<◌, ◌≤◌, List, [], ◌∷◌, ◌++◌, length, drop, refl, sym, append-nil, length-append, ◌∙◌, ap, arith}
use Rattle.std.specs.Prelude.{Some, None, filter, Result, Ok, Err, IfOk}
use Rattle.std.proofs.lemmas.List.{drop-append-le}
use Rattle.std.proofs.lemmas.List.Elements.{filter-append}
use Rattle.printer_model.specs.Printer.{Logged}
use Rattle.printer_model.specs.World.{WorldData, world_of, world_from, Grew, is_opened}
use Rattle.printer_model.proofs.Laws.{world_of-append, world_from-Grew}
use Rattle.printer_model.specs.Executed.{sessions_left_after, opens, till, is_counted, executed}
use Rattle.printer_model.specs.declared.oks.Oks.{Oks}
use Rattle.printer_model.specs.declared.event.WorldEvent.{WorldEvent}
use Rattle.printer_model.specs.declared.event.WorldEvent.TheVariants.{Opened, Send, Arrive, Lose, LoseReply, Garble, Run, Restart, Chatter, Recv, Closed}

-- the counted lines run from one recorded history to a longer one
abbrev lines_between : ℕ → Oks → List WorldEvent → List WorldEvent → List Logged
lines_between slots oks short long =
    filter is_counted (drop (length (world_of slots oks short).log) (world_of slots oks long).log)

-- once the Opened after session s exists, what comes later isn't before it
pub till-append : (s : ℕ) (past added : List WorldEvent) → s < opens past → till s (past ++ added) ≡ till s past
till-append s [] added later = absurd (omega arith)
till-append zero (Opened last ∷ past) added later = refl
till-append (suc s) (Opened last ∷ past) added later = ap (λ (es : List WorldEvent). Opened last ∷ es) (till-append s past added (omega arith))
till-append s (Send line ∷ past) added later = ap (λ (es : List WorldEvent). Send line ∷ es) (till-append s past added later)
till-append s (Arrive ∷ past) added later = ap (λ (es : List WorldEvent). Arrive ∷ es) (till-append s past added later)
till-append s (Lose at ∷ past) added later = ap (λ (es : List WorldEvent). Lose at ∷ es) (till-append s past added later)
till-append s (LoseReply at ∷ past) added later = ap (λ (es : List WorldEvent). LoseReply at ∷ es) (till-append s past added later)
till-append s (Garble at line ∷ past) added later = ap (λ (es : List WorldEvent). Garble at line ∷ es) (till-append s past added later)
till-append s (Run ∷ past) added later = ap (λ (es : List WorldEvent). Run ∷ es) (till-append s past added later)
till-append s (Restart ∷ past) added later = ap (λ (es : List WorldEvent). Restart ∷ es) (till-append s past added later)
till-append s (Chatter reply ∷ past) added later = ap (λ (es : List WorldEvent). Chatter reply ∷ es) (till-append s past added later)
till-append s (Recv ∷ past) added later = ap (λ (es : List WorldEvent). Recv ∷ es) (till-append s past added later)
till-append s (Closed ∷ past) added later = ap (λ (es : List WorldEvent). Closed ∷ es) (till-append s past added later)

-- a recorded history with no more sessions than s ends with session s at the latest
pub till-all : (s : ℕ) (past : List WorldEvent) → opens past ≤ s → till s past ≡ past
till-all s [] few = refl
till-all zero (Opened last ∷ past) few = absurd (omega arith)
till-all (suc s) (Opened last ∷ past) few = ap (λ (es : List WorldEvent). Opened last ∷ es) (till-all s past (omega arith))
till-all s (Send line ∷ past) few = ap (λ (es : List WorldEvent). Send line ∷ es) (till-all s past few)
till-all s (Arrive ∷ past) few = ap (λ (es : List WorldEvent). Arrive ∷ es) (till-all s past few)
till-all s (Lose at ∷ past) few = ap (λ (es : List WorldEvent). Lose at ∷ es) (till-all s past few)
till-all s (LoseReply at ∷ past) few = ap (λ (es : List WorldEvent). LoseReply at ∷ es) (till-all s past few)
till-all s (Garble at line ∷ past) few = ap (λ (es : List WorldEvent). Garble at line ∷ es) (till-all s past few)
till-all s (Run ∷ past) few = ap (λ (es : List WorldEvent). Run ∷ es) (till-all s past few)
till-all s (Restart ∷ past) few = ap (λ (es : List WorldEvent). Restart ∷ es) (till-all s past few)
till-all s (Chatter reply ∷ past) few = ap (λ (es : List WorldEvent). Chatter reply ∷ es) (till-all s past few)
till-all s (Recv ∷ past) few = ap (λ (es : List WorldEvent). Recv ∷ es) (till-all s past few)
till-all s (Closed ∷ past) few = ap (λ (es : List WorldEvent). Closed ∷ es) (till-all s past few)

-- sessions of two parts
pub opens-append : (past added : List WorldEvent) → opens (past ++ added) ≡ opens past + opens added
opens-append [] added = omega arith
opens-append (Opened last ∷ past) added = omega (arith, opens-append past added)
opens-append (Send line ∷ past) added = opens-append past added
opens-append (Arrive ∷ past) added = opens-append past added
opens-append (Lose at ∷ past) added = opens-append past added
opens-append (LoseReply at ∷ past) added = opens-append past added
opens-append (Garble at line ∷ past) added = opens-append past added
opens-append (Run ∷ past) added = opens-append past added
opens-append (Restart ∷ past) added = opens-append past added
opens-append (Chatter reply ∷ past) added = opens-append past added
opens-append (Recv ∷ past) added = opens-append past added
opens-append (Closed ∷ past) added = opens-append past added

-- the one before a number below a bound is below it too
pub pred_below : (s n : ℕ) → s < n → pred s < n
pred_below zero n below = below
pred_below (suc s) n below = omega arith

-- what was executed in a session that is over stays
pub executed-append : (slots : ℕ) (oks : Oks) (past added : List WorldEvent) (s : ℕ) → s < opens past → executed slots oks (past ++ added) s ≡ executed slots oks past s
executed-append slots oks past added s over =
    let here : till s (past ++ added) ≡ till s past = till-append s past added over in
    let before : till (pred s) (past ++ added) ≡ till (pred s) past = till-append (pred s) past added (pred_below s (opens past) over) in
    ap (λ (es : List WorldEvent). lines_between slots oks (till (pred s) (past ++ added)) es) here
    ∙ ap (λ (es : List WorldEvent). lines_between slots oks es (till s past)) before

-- what comes up to the end of a session is a front part of the recorded history
pub record IsFront (front whole : List WorldEvent) : Type 0 where
  pub after : List WorldEvent
  pub is : whole ≡ front ++ after

more_front : (event : WorldEvent) {front whole : List WorldEvent} → IsFront front whole → IsFront (event ∷ front) (event ∷ whole)
more_front event part = record { after = part.after; is = ap (λ (es : List WorldEvent). event ∷ es) part.is }

pub till-IsFront : (s : ℕ) (past : List WorldEvent) → IsFront (till s past) past
till-IsFront s [] = record { after = []; is = refl }
till-IsFront zero (Opened last ∷ past) = record { after = Opened last ∷ past; is = refl }
till-IsFront (suc s) (Opened last ∷ past) = more_front (Opened last) (till-IsFront s past)
till-IsFront s (Send line ∷ past) = more_front (Send line) (till-IsFront s past)
till-IsFront s (Arrive ∷ past) = more_front Arrive (till-IsFront s past)
till-IsFront s (Lose at ∷ past) = more_front (Lose at) (till-IsFront s past)
till-IsFront s (LoseReply at ∷ past) = more_front (LoseReply at) (till-IsFront s past)
till-IsFront s (Garble at line ∷ past) = more_front (Garble at line) (till-IsFront s past)
till-IsFront s (Run ∷ past) = more_front Run (till-IsFront s past)
till-IsFront s (Restart ∷ past) = more_front Restart (till-IsFront s past)
till-IsFront s (Chatter reply ∷ past) = more_front (Chatter reply) (till-IsFront s past)
till-IsFront s (Recv ∷ past) = more_front Recv (till-IsFront s past)
till-IsFront s (Closed ∷ past) = more_front Closed (till-IsFront s past)

-- the log of a front part is a front part of the log
pub front-Grew : (slots : ℕ) (oks : Oks) (front whole : List WorldEvent) → IsFront front whole → Grew (world_of slots oks front).log (world_of slots oks whole).log
front-Grew slots oks front whole part =
    let same : world_of slots oks whole ≡ world_from (world_of slots oks front) part.after =
    ap (world_of slots oks) part.is ∙ world_of-append slots oks front part.after
    in
    let grew : Grew (world_of slots oks front).log (world_from (world_of slots oks front) part.after).log = world_from-Grew (world_of slots oks front) part.after in
    record { added = grew.added; is = ap (λ (w : WorldData). w.log) same ∙ grew.is }

-- what a log that grew has after its old length
drop_grown : (start : ℕ) (log lines grown : List Logged) → start ≤ length log → grown ≡ log ++ lines → filter is_counted (drop start grown) ≡ filter is_counted (drop start log) ++ filter is_counted lines
drop_grown start log lines grown within is =
    ap (λ (l : List Logged). filter is_counted (drop start l)) is
    ∙ ap (filter is_counted) (drop-append-le start log lines within)
    ∙ filter-append is_counted (drop start log) lines

grown_length : {old new : List Logged} → Grew old new → length old ≤ length new
grown_length {old} {new} grew = omega (arith, ap length grew.is, length-append old grew.added)

pred_less : (s n : ℕ) → 0 < s → n ≡ s → pred s < n
pred_less zero n above same = absurd (omega arith)
pred_less (suc s) n above same = omega arith

-- what more events without an Opened add to the last session: the lines that they add to the log
pub executed-more : (slots : ℕ) (oks : Oks) (past added : List WorldEvent) (s : ℕ) (lines : List Logged) → 0 < s → opens past ≡ s → opens added ≡ 0 → (world_of slots oks (past ++ added)).log ≡ (world_of slots oks past).log ++ lines → executed slots oks (past ++ added) s ≡ executed slots oks past s ++ filter is_counted lines
executed-more slots oks past added s lines counted last same_session grown =
    let before : till (pred s) (past ++ added) ≡ till (pred s) past = till-append (pred s) past added (pred_less s (opens past) counted last) in
    let here : till s past ≡ past = till-all s past (omega arith) in
    let there : till s (past ++ added) ≡ past ++ added = till-all s (past ++ added) (omega (arith, opens-append past added)) in
    let old : Grew (world_of slots oks (till (pred s) past)).log (world_of slots oks past).log = front-Grew slots oks (till (pred s) past) past (till-IsFront (pred s) past) in
    ap (λ (es : List WorldEvent). lines_between slots oks es (till s (past ++ added))) before
    ∙ ap (λ (es : List WorldEvent). lines_between slots oks (till (pred s) past) es) there
    ∙ drop_grown (length (world_of slots oks (till (pred s) past)).log) (world_of slots oks past).log lines (world_of slots oks (past ++ added)).log (grown_length old) grown
    ∙ ap (λ (es : List WorldEvent). lines_between slots oks (till (pred s) past) es ++ filter is_counted lines) (sym here)

-- more events that neither open a session nor run a line leave the last session
pub executed-same : (slots : ℕ) (oks : Oks) (past added : List WorldEvent) (s : ℕ) → 0 < s → opens past ≡ s → opens added ≡ 0 → (world_of slots oks (past ++ added)).log ≡ (world_of slots oks past).log → executed slots oks (past ++ added) s ≡ executed slots oks past s
executed-same slots oks past added s counted last same_session same =
    executed-more slots oks past added s [] counted last same_session (same ∙ sym (append-nil (world_of slots oks past).log))
    ∙ append-nil (executed slots oks past s)

-- a session ends before an Opened too many
pub till-over : (s : ℕ) (event : WorldEvent) (past : List WorldEvent) → sessions_left_after s (is_opened event) ≡ None → till s (event ∷ past) ≡ []
till-over zero (Opened last) past over = refl
till-over (suc s) (Opened last) past over = absurd (cc)
till-over s (Send line) past over = absurd (cc)
till-over s Arrive past over = absurd (cc)
till-over s (Lose at) past over = absurd (cc)
till-over s (LoseReply at) past over = absurd (cc)
till-over s (Garble at line) past over = absurd (cc)
till-over s Run past over = absurd (cc)
till-over s Restart past over = absurd (cc)
till-over s (Chatter reply) past over = absurd (cc)
till-over s Recv past over = absurd (cc)
till-over s Closed past over = absurd (cc)

-- and otherwise goes on after the event
pub till-on : (s : ℕ) (event : WorldEvent) (past : List WorldEvent) (n : ℕ) → sessions_left_after s (is_opened event) ≡ Some n → till s (event ∷ past) ≡ event ∷ till n past
till-on zero (Opened last) past n on = absurd (cc)
till-on (suc s) (Opened last) past n on = let same : s ≡ n = cc in ap (λ (k : ℕ). Opened last ∷ till k past) same
till-on s (Send line) past n on = let same : s ≡ n = cc in ap (λ (k : ℕ). Send line ∷ till k past) same
till-on s Arrive past n on = let same : s ≡ n = cc in ap (λ (k : ℕ). Arrive ∷ till k past) same
till-on s (Lose at) past n on = let same : s ≡ n = cc in ap (λ (k : ℕ). Lose at ∷ till k past) same
till-on s (LoseReply at) past n on = let same : s ≡ n = cc in ap (λ (k : ℕ). LoseReply at ∷ till k past) same
till-on s (Garble at line) past n on = let same : s ≡ n = cc in ap (λ (k : ℕ). Garble at line ∷ till k past) same
till-on s Run past n on = let same : s ≡ n = cc in ap (λ (k : ℕ). Run ∷ till k past) same
till-on s Restart past n on = let same : s ≡ n = cc in ap (λ (k : ℕ). Restart ∷ till k past) same
till-on s (Chatter reply) past n on = let same : s ≡ n = cc in ap (λ (k : ℕ). Chatter reply ∷ till k past) same
till-on s Recv past n on = let same : s ≡ n = cc in ap (λ (k : ℕ). Recv ∷ till k past) same
till-on s Closed past n on = let same : s ≡ n = cc in ap (λ (k : ℕ). Closed ∷ till k past) same

pub pred_less_one : (s : ℕ) → pred s ≡ s - 1
pred_less_one zero = refl
pred_less_one (suc s) = omega arith

-- the lines between two worlds that were made anew
pub session_lines : (slots : ℕ) (oks : Oks) (past : List WorldEvent) (s k : ℕ) (before whole : WorldData) → k ≡ s - 1 → before ≡ world_of slots oks (till k past) → whole ≡ world_of slots oks (till s past) → filter is_counted (drop (length before.log) whole.log) ≡ executed slots oks past s
session_lines slots oks past s k before whole less b w =
    ap (λ (v : WorldData). filter is_counted (drop (length v.log) whole.log)) b
    ∙ ap (λ (v : WorldData). filter is_counted (drop (length (world_of slots oks (till k past)).log) v.log)) w
    ∙ ap (λ (n : ℕ). filter is_counted (drop (length (world_of slots oks (till n past)).log) (world_of slots oks (till s past)).log)) (less ∙ sym (pred_less_one s))

-- what follows from a success
pub if_ok_so : {T E : Type 0} {P Q : T → Type 0} (r : Result T E) → IfOk r P → ((x : T) → P x → Q x) → IfOk r Q
if_ok_so (Ok x) fact so = so x fact
if_ok_so (Err e) fact so = tt
