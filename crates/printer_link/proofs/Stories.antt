-- A recorded history that grows event by event, and the world with it.
use Rattle.std.proofs.Common.{◌≡◌, ℕ, zero, suc, ◌+◌, ◌<◌, ◌≤◌, subst, Bool, true, false, List, [], ◌∷◌, ◌++◌, length, replicate, refl, sym, ◌∙◌, ap, append_assoc, append-nil, arith}
use Rattle.std.specs.Prelude.{if◌then◌else◌, not, ◌&&◌, Result, Ok, Err, OnErr, OnOk}
use Rattle.std.specs.List.{list_all, list_any}
use Rattle.std.proofs.lemmas.List.{replicate_more}
use Rattle.std.proofs.lemmas.Bool.{cond_both}
use Rattle.std.proofs.lemmas.List.Folds.{list_all-append}
use Rattle.printer_model.specs.Printer.{is_full}
use Rattle.printer_model.specs.World.{is_opened, WorldData, arrive_front, world_from, apply, happen, can_happen, is_free, is_empty}
use Rattle.printer_link.specs.Link.{arrivals, dial_events, printer_events}
use Rattle.octo_outside.specs.Memory.{one_more, is_listed}
use Rattle.printer_link.specs.Memory.{StoryData, FreeOnly, PassedReply, before_reply, lost_among, opening_last, queue_runs, restart_events, story_world, with_events}
use Rattle.printer_model.specs.declared.event.WorldEvent.{WorldEvent}
use Rattle.printer_model.specs.declared.event.WorldEvent.TheVariants.{Arrive, LoseReply, Opened}
use Rattle.printer_model.proofs.Laws.{world_of-push, world_of-append, happens}

-- a story with another recorded history
abbrev pub of_past : StoryData → List WorldEvent → StoryData
of_past s past = record s { past = past }

pub with_none : (s : StoryData) → s ≡ with_events s []
with_none s = ap (of_past s) (sym (append-nil s.past))

pub with_then : (s : StoryData) (first more : List WorldEvent) → with_events (with_events s first) more ≡ with_events s (first ++ more)
with_then s first more = ap (of_past s) (append_assoc s.past first more)

-- one more of the same event
pub with_more : (s mid : StoryData) (event : WorldEvent) (n : ℕ) → mid ≡ with_events s (replicate n event) → with_events mid (event ∷ []) ≡ with_events s (replicate (n + 1) event)
with_more s mid event n e =
    ap (λ (m : StoryData). with_events m (event ∷ [])) e
    ∙ with_then s (replicate n event) (event ∷ [])
    ∙ ap (with_events s) (replicate_more n event)

-- a number of free events
pub free_replicate : (n : ℕ) → list_all is_free (replicate n Arrive) ≡ true
free_replicate zero = refl
free_replicate (suc n) = free_replicate n

-- an arrival can happen if a line is on its way and the printer has a place
pub arrive_can : (w : WorldData) (line : List ℕ) (behind : List (List ℕ)) → w.up ≡ line ∷ behind → is_full w.printer ≡ false → can_happen w Arrive ≡ true
arrive_can w line behind same room =
    ap (λ (up : List (List ℕ)). not (is_empty up) && not (is_full w.printer)) same ∙ ap not room

-- the wire after an arrival
arrived_up : (w : WorldData) (line : List ℕ) (behind : List (List ℕ)) → w.up ≡ line ∷ behind → is_full w.printer ≡ false → (apply w Arrive).up ≡ behind
arrived_up w line behind same room =
    ap (λ (v : WorldData). v.up) (happens w Arrive (arrive_can w line behind same room))
    ∙ ap (λ (up : List (List ℕ)). (arrive_front w up).up) same

-- one arrival of what is still to come
arrival_of : (w : WorldData) (up : List (List ℕ)) → w.up ≡ up → 0 < length up → is_full w.printer ≡ false → arrivals w w.up ≡ Arrive ∷ arrivals (apply w Arrive) (apply w Arrive).up
arrival_of w [] same lines room = absurd (omega arith)
arrival_of w (line ∷ behind) same lines room =
    ap (arrivals w) same
    ∙ ap (λ (b : Bool). if b then [] else Arrive ∷ arrivals (happen w Arrive) behind) room
    ∙ ap (λ (v : WorldData). Arrive ∷ arrivals v behind) (sym (happens w Arrive (arrive_can w line behind same room)))
    ∙ ap (λ (up : List (List ℕ)). Arrive ∷ arrivals (apply w Arrive) up) (sym (arrived_up w line behind same room))

pub arrival_here : (w : WorldData) → 0 < length w.up → is_full w.printer ≡ false → arrivals w w.up ≡ Arrive ∷ arrivals (apply w Arrive) (apply w Arrive).up
arrival_here w lines room = arrival_of w w.up refl lines room

arrival_count : (w : WorldData) (up : List (List ℕ)) → w.up ≡ up → 0 < length up → is_full w.printer ≡ false → length (apply w Arrive).up + 1 ≡ length w.up
arrival_count w [] same lines room = absurd (omega arith)
arrival_count w (line ∷ behind) same lines room = omega (arith, ap length (arrived_up w line behind same room), ap length same)

pub arrival_shorter : (w : WorldData) → 0 < length w.up → is_full w.printer ≡ false → length (apply w Arrive).up + 1 ≡ length w.up
arrival_shorter w lines room = arrival_count w w.up refl lines room

-- nothing arrives at a full printer
pub arrivals_full : (w : WorldData) (up : List (List ℕ)) → is_full w.printer ≡ true → arrivals w up ≡ []
arrivals_full w [] full = refl
arrivals_full w (line ∷ behind) full = ap (λ (b : Bool). if b then [] else Arrive ∷ arrivals (happen w Arrive) behind) full

-- nothing arrives of an empty wire
pub arrivals_none : (w : WorldData) (up : List (List ℕ)) → length up ≡ 0 → arrivals w up ≡ []
arrivals_none w [] none_left = refl
arrivals_none w (line ∷ behind) none_left = absurd (omega arith)

-- what arrives is free
pub arrivals_free : (w : WorldData) (up : List (List ℕ)) → list_all is_free (arrivals w up) ≡ true
arrivals_free w [] = refl
arrivals_free w (line ∷ behind) =
    cond_both (is_full w.printer) [] (Arrive ∷ arrivals (happen w Arrive) behind) (λ (es : List WorldEvent). list_all is_free es ≡ true) (λ _. refl)
    (λ _. arrivals_free (happen w Arrive) behind)

-- as many arrivals as could be were added
pub arrived_all : (s now : StoryData) (n : ℕ) (all rest : List WorldEvent) → now ≡ with_events s (replicate n Arrive) → replicate n Arrive ++ rest ≡ all → rest ≡ [] → now ≡ with_events s all
arrived_all s now n all rest past joined over =
    past ∙ ap (with_events s) (sym (append-nil (replicate n Arrive)) ∙ ap (λ (es : List WorldEvent). replicate n Arrive ++ es) (sym over) ∙ joined)

-- one more arrival keeps what arrives over all
pub arrived_more : (w : WorldData) (n : ℕ) (all : List WorldEvent) → replicate n Arrive ++ arrivals w w.up ≡ all → 0 < length w.up → is_full w.printer ≡ false → replicate (n + 1) Arrive ++ arrivals (apply w Arrive) (apply w Arrive).up ≡ all
arrived_more w n all joined lines room =
    ap (λ (es : List WorldEvent). es ++ arrivals (apply w Arrive) (apply w Arrive).up) (sym (replicate_more n Arrive))
    ∙ append_assoc (replicate n Arrive) (Arrive ∷ []) (arrivals (apply w Arrive) (apply w Arrive).up)
    ∙ ap (λ (es : List WorldEvent). replicate n Arrive ++ es) (sym (arrival_here w lines room))
    ∙ joined

-- the world of a story with one more event
pub story_push : (s : StoryData) (event : WorldEvent) → story_world (with_events s (event ∷ [])) ≡ apply (story_world s) event
story_push s event = world_of-push s.slots s.oks s.past event

pub story_append : (s : StoryData) (added : List WorldEvent) → story_world (with_events s added) ≡ world_from (story_world s) added
story_append s added = world_of-append s.slots s.oks s.past added

-- a fact of every failure
pub on_err : {T E P : Type 0} (r : Result T E) → P → OnErr r P
on_err (Ok x) fact = tt
on_err (Err e) fact = fact

pub on_err_so : {T E P Q : Type 0} (r : Result T E) → OnErr r P → (P → Q) → OnErr r Q
on_err_so (Ok x) fact so = tt
on_err_so (Err e) fact so = so fact

pub on_ok_so : {T E P Q : Type 0} (r : Result T E) → OnOk r P → (P → Q) → OnOk r Q
on_ok_so (Ok x) fact so = so fact
on_ok_so (Err e) fact so = tt

-- runs, and then a link that is made with the right number
pub dialled : (s mid now : StoryData) (first last : ℕ) (opened : Bool) → mid ≡ with_events s (queue_runs (story_world s)) → opened ≡ list_any is_opened s.past → last ≡ (if opened then (story_world mid).printer.last else first) → now ≡ with_events mid (Opened last ∷ []) → now ≡ with_events s (dial_events (story_world s) (opening_last s first))
dialled s mid now first last opened mid_is opened_is last_is now_is =
    let world_is : story_world mid ≡ world_from (story_world s) (queue_runs (story_world s)) = ap story_world mid_is ∙ story_append s (queue_runs (story_world s)) in
    let same : last ≡ opening_last s first =
    last_is
    ∙ ap (λ (b : Bool). if b then (story_world mid).printer.last else first) opened_is
    ∙ ap (λ (w : WorldData). if list_any is_opened s.past then w.printer.last else first) world_is
    in
    now_is
    ∙ ap (λ (m : StoryData). with_events m (Opened last ∷ [])) mid_is
    ∙ with_then s (queue_runs (story_world s)) (Opened last ∷ [])
    ∙ ap (λ (l : ℕ). with_events s (queue_runs (story_world s) ++ Opened l ∷ [])) same

-- a restart, and then what the printer does
pub restarted_then : (s mid now : StoryData) (restarts due : Bool) → mid ≡ with_events s (restart_events restarts) → now ≡ with_events mid (printer_events due (story_world mid)) → now ≡ with_events s (before_reply restarts due (story_world s))
restarted_then s mid now restarts due mid_is now_is =
    let first = restart_events restarts in
    now_is
    ∙ ap (λ (m : StoryData). with_events m (printer_events due (story_world m))) mid_is
    ∙ ap (λ (w : WorldData). with_events (with_events s first) (printer_events due w)) (story_append s first)
    ∙ with_then s first (printer_events due (world_from (story_world s) first))

restart_free : (restarts : Bool) → list_all is_free (restart_events restarts) ≡ true
restart_free false = refl
restart_free true = refl

-- and what the line and the printer did after it
pub restarted_free : (s mid now : StoryData) (restarts : Bool) → mid ≡ with_events s (restart_events restarts) → FreeOnly mid now → FreeOnly s now
restarted_free s mid now restarts mid_is later =
    let first = restart_events restarts in
    record {
      added = first ++ later.added;
      is = later.is ∙ ap (λ (m : StoryData). with_events m later.added) mid_is ∙ with_then s first later.added;
      free = list_all-append is_free first later.added
          ∙ ap (λ (b : Bool). b && list_all is_free later.added) (restart_free restarts)
          ∙ later.free;
    }

-- Of the replies from a place on, the first ones were lost by their numbers, and `left` are still to be looked at: the next one has this
-- number and this place.
pub record LosesOn (s now : StoryData) (lost : List ℕ) (first from count number at left : ℕ) : Type 0 where
  pub front : List WorldEvent
  pub is : now ≡ with_events s front
  pub rest : front ++ lost_among lost number at left ≡ lost_among lost first from count
  pub free : list_all is_free front ≡ true

-- one more was looked at
lose_next : (b : Bool) (s now next : StoryData) (lost : List ℕ) (first from count number at place left : ℕ) → is_listed lost number ≡ b →
    LosesOn s now lost first from count number at (suc left) → PassedReply b at place now next → LosesOn s next lost first from count (one_more number) place left
lose_next true s now next lost first from count number at place left listed h passed =
    let At : ℕ → Type 0 = λ a. LosesOn s next lost first from count (one_more number) a left in
    let rest : lost_among lost number at (suc left) ≡ LoseReply at ∷ lost_among lost (one_more number) at left =
    ap (λ (b : Bool). if b then LoseReply at ∷ lost_among lost (one_more number) at left else lost_among lost (one_more number) (at + 1) left) listed in
    subst At (sym passed.0)
    (record {
      front = h.front ++ LoseReply at ∷ [];
      is = passed.1 ∙ ap (λ (m : StoryData). with_events m (LoseReply at ∷ [])) h.is ∙ with_then s h.front (LoseReply at ∷ []);
      rest = append_assoc h.front (LoseReply at ∷ []) (lost_among lost (one_more number) at left)
          ∙ ap (λ (es : List WorldEvent). h.front ++ es) (sym rest) ∙ h.rest;
      free = list_all-append is_free h.front (LoseReply at ∷ []) ∙ ap (λ (b : Bool). b && true) h.free;
    })
lose_next false s now next lost first from count number at place left listed h passed =
    let At : ℕ → Type 0 = λ a. LosesOn s next lost first from count (one_more number) a left in
    let rest : lost_among lost number at (suc left) ≡ lost_among lost (one_more number) (at + 1) left =
    ap (λ (b : Bool). if b then LoseReply at ∷ lost_among lost (one_more number) at left else lost_among lost (one_more number) (at + 1) left) listed in
    subst At (sym passed.0)
    (record {
      front = h.front;
      is = passed.1 ∙ h.is;
      rest = ap (λ (es : List WorldEvent). h.front ++ es) (sym rest) ∙ h.rest;
      free = h.free;
    })

pub loses_next : (s now next : StoryData) (lost : List ℕ) (first from count number at place all left : ℕ) → all ≡ suc left →
    LosesOn s now lost first from count number at all → PassedReply (is_listed lost number) at place now next →
    LosesOn s next lost first from count (one_more number) place left
loses_next s now next lost first from count number at place all left all_is h passed =
    let At : ℕ → Type 0 = λ n. LosesOn s now lost first from count number at n in
    lose_next (is_listed lost number) s now next lost first from count number at place left refl (subst At all_is h) passed

-- the place of the next one moves by one at most
pub next_place : (b : Bool) (s now : StoryData) (at place : ℕ) → PassedReply b at place s now → place ≤ at + 1
next_place true s now at place passed = omega (arith, passed.0)
next_place false s now at place passed = omega (arith, passed.0)

-- of a part of them only free events were added
pub lost_part : (s now new : StoryData) (lost : List ℕ) (first from count number at left : ℕ) → LosesOn s now lost first from count number at left → new ≡ now →
    FreeOnly s new
lost_part s now new lost first from count number at left h same = record { added = h.front; is = same ∙ h.is; free = h.free }

-- all were looked at
pub lost_all : (s now : StoryData) (lost : List ℕ) (first from count number at : ℕ) → LosesOn s now lost first from count number at 0 →
    now ≡ with_events s (lost_among lost first from count)
lost_all s now lost first from count number at h =
    h.is ∙ ap (with_events s) (sym (append-nil h.front) ∙ h.rest)

-- none was
pub loses_none : (s : StoryData) (lost : List ℕ) (first from count : ℕ) → LosesOn s s lost first from count first from count
loses_none s lost first from count = record { front = []; is = with_none s; rest = refl; free = refl }
