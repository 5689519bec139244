-- What a receiving over a prompt link brings: the `ok` of the next line.
use Rattle.std.proofs.Common.{◌≡◌, ℕ, suc, ◌+◌, ◌-◌, ◌≤◌, Bool, true, false, List, [], ◌∷◌, ◌++◌, length, map, drop, refl, sym, ◌∙◌, ap, subst, append_assoc, append-nil, arith}
use Rattle.std.specs.Prelude.{Some, Ok, not, ◌&&◌, if◌then◌else◌}
use Rattle.std.specs.List.{list_all}
use Rattle.std.proofs.lemmas.List.{map-append}
use Rattle.std.proofs.lemmas.List.Folds.{list_all-append}
use Rattle.std.proofs.lemmas.Bool.Decides.{nat_tests}
use Rattle.marlin_frame.specs.Numbering.{wire_number}
use Rattle.printer_model.specs.Printer.{Entry, is_full, take_judged, last_after, run_queue}
use Rattle.printer_model.specs.World.{WorldData, is_empty, is_free, can_happen, happen, apply, world_from, after_arrival, after_run}
use Rattle.printer_model.specs.declared.event.WorldEvent.{WorldEvent}
use Rattle.printer_model.specs.declared.event.WorldEvent.TheVariants.{Arrive, Run, Recv}
use Rattle.printer_model.proofs.Laws.{happens, arrive_accepts, run_queue_of, world_from-push}
use Rattle.printer_model.specs.Replies.{run_reply}
use Rattle.printer_link.specs.Link.{arrivals, due_run, due_recv, printer_events, recv_events}
use Rattle.octo_session_line_proof.specs.Pieces.{Piece, command, bytes_in, entry_in, Each, IsFit}
use Rattle.octo_session_line_proof.proofs.Reading.{line_accepted, last_after-command, IsRunReply, run_heard, small_number}
use Rattle.octo_session_print.specs.Prompt.{pieces_from, IsInStep}
use Rattle.printer_link.proofs.Stories.{arrivals_free}
use Rattle.octo_session_print.proofs.Alone.{head_of}

pub pieces_append : (place : ℕ) (xs ys : List (List ℕ)) → pieces_from place (xs ++ ys) ≡ pieces_from place xs ++ pieces_from (place + length xs) ys
pieces_append place [] ys = ap (λ (n : ℕ). pieces_from n ys) (omega arith)
pieces_append place (x ∷ xs) ys =
    ap (λ (l : List Piece). command place x ∷ l) (pieces_append (suc place) xs ys
    ∙ ap (λ (n : ℕ). pieces_from (suc place) xs ++ pieces_from n ys) (omega arith))

pieces_length : (place : ℕ) (xs : List (List ℕ)) → length (map entry_in (pieces_from place xs)) ≡ length xs
pieces_length place [] = refl
pieces_length place (x ∷ xs) = ap suc (pieces_length (suc place) xs)

pub last_length : (xs : List (List ℕ)) (x : List ℕ) → length (xs ++ x ∷ []) ≡ suc (length xs)
last_length [] x = refl
last_length (y ∷ xs) x = ap suc (last_length xs x)

-- the line at the front of the wire arrives
arrives : (place : ℕ) (queued rest : List (List ℕ)) (text : List ℕ) (w : WorldData) → IsFit text → place + length queued ≤ 1999999999 →
    is_full w.printer ≡ false → IsInStep place queued (text ∷ rest) w → IsInStep place (queued ++ text ∷ []) rest (apply w Arrive)
arrives place queued rest text w fit few room i =
    let here : ℕ = place + length queued in
    let behind : List (List ℕ) = map bytes_in (pieces_from (suc here) rest) in
    let entry : Entry = entry_in (command here text) in
    let is : apply w Arrive ≡ after_arrival w behind (take_judged w.printer (Ok entry)) =
    arrive_accepts w (bytes_in (command here text)) behind entry i.up room (line_accepted w.printer.last here text few fit i.next)
    in
    let n : suc here ≡ place + length (queued ++ text ∷ []) = omega (arith, last_length queued text) in
    record {
      linked = ap (λ (v : WorldData). v.linked) is ∙ i.linked;
      queue = ap (λ (v : WorldData). v.printer.queue) is
          ∙ ap (λ (q : List Entry). q ++ entry ∷ []) i.queue
          ∙ sym (map-append entry_in (pieces_from place queued) (command here text ∷ []))
          ∙ ap (map entry_in) (sym (pieces_append place queued (text ∷ [])));
      up = ap (λ (v : WorldData). v.up) is ∙ ap (λ (k : ℕ). map bytes_in (pieces_from k rest)) n;
      down = ap (λ (v : WorldData). v.down) is ∙ append-nil w.down ∙ i.down;
      next = ap wire_number (sym n) ∙ next_number here ∙ ap (λ (k : ℕ). k + 1) (sym (ap (λ (v : WorldData). v.printer.last) is));
      some = ap_some is i.some;
      few = ap_few is i.few;
    }
  where
    next_number : (k : ℕ) → wire_number (suc k) ≡ wire_number k + 1
    next_number k = grind arith

    ap_some : {v u : WorldData} → v ≡ u → 1 ≤ u.printer.slots → 1 ≤ v.printer.slots
    ap_some {v} {u} e h = (let P : WorldData → Type 0 = λ x. 1 ≤ x.printer.slots in subst P (sym e) h)

    ap_few : {v u : WorldData} → v ≡ u → u.printer.slots ≤ 16 → v.printer.slots ≤ 16
    ap_few {v} {u} e h = (let P : WorldData → Type 0 = λ x. x.printer.slots ≤ 16 in subst P (sym e) h)

-- after what arrives of the wire, in order, until the queue is full
pub record HasArrived (place : ℕ) (queued flying : List (List ℕ)) (w v : WorldData) : Type 0 where
  pub there : List (List ℕ)
  pub coming : List (List ℕ)
  pub all : there ++ coming ≡ queued ++ flying
  pub in_step : IsInStep place there coming v
  -- something waits if anything did or came
  pub waits : 1 ≤ length (queued ++ flying) → 1 ≤ length there

pub append_length : {X : Type 0} (xs ys : List X) → length (xs ++ ys) ≡ length xs + length ys
append_length [] ys = omega arith
append_length (x ∷ xs) ys = omega (arith, append_length xs ys)

full_waits : (place : ℕ) (queued flying : List (List ℕ)) (w : WorldData) → IsInStep place queued flying w → is_full w.printer ≡ true → 1 ≤ length queued
full_waits place queued flying w i full =
    let most : w.printer.slots ≤ length w.printer.queue = grind (arith, nat_tests) in
    omega (arith, most, i.some, ap length i.queue, pieces_length place queued)

arrive_all : (place : ℕ) (queued flying : List (List ℕ)) (w : WorldData) → Each IsFit flying → place + length (queued ++ flying) ≤ 2000000000 →
    IsInStep place queued flying w → HasArrived place queued flying w (world_from w (arrivals w w.up))
arrive_all place queued [] w fit few i =
    let none : arrivals w w.up ≡ [] = ap (arrivals w) i.up in
    let P : List WorldEvent → Type 0 = λ es. HasArrived place queued [] w (world_from w es) in
    subst P (sym none) (record { there = queued; coming = []; all = refl; in_step = i; waits = λ some. omega (arith, some, append_length queued []) })
arrive_all place queued (text ∷ rest) w fit few i =
    by_full (is_full w.printer) refl (λ still next. arrive_all place (queued ++ text ∷ []) rest (apply w Arrive) fit.1 still next)
  where
    arrived_up : IsInStep place (queued ++ text ∷ []) rest (apply w Arrive) →
        (apply w Arrive).up ≡ map bytes_in (pieces_from (suc (place + length queued)) rest)
    arrived_up next = next.up ∙ ap (λ (k : ℕ). map bytes_in (pieces_from k rest)) (omega (arith, last_length queued text))

    by_full : (b : Bool) → is_full w.printer ≡ b →
        (place + length ((queued ++ text ∷ []) ++ rest) ≤ 2000000000 → IsInStep place (queued ++ text ∷ []) rest (apply w Arrive) →
        HasArrived place (queued ++ text ∷ []) rest (apply w Arrive) (world_from (apply w Arrive) (arrivals (apply w Arrive) (apply w Arrive).up))) →
        HasArrived place queued (text ∷ rest) w (world_from w (arrivals w w.up))
    by_full true full further =
        let none : arrivals w w.up ≡ [] =
        ap (arrivals w) i.up
        ∙ ap (λ (b : Bool). if b then [] else Arrive ∷ arrivals (happen w Arrive) (map bytes_in (pieces_from (suc (place + length queued)) rest))) full
        in
        let P : List WorldEvent → Type 0 = λ es. HasArrived place queued (text ∷ rest) w (world_from w es) in
        subst P (sym none) (record { there = queued; coming = text ∷ rest; all = refl; in_step = i; waits = λ some. full_waits place queued (text ∷ rest) w i full })
    by_full false room further =
        let more : List (List ℕ) = map bytes_in (pieces_from (suc (place + length queued)) rest) in
        let can : can_happen w Arrive ≡ true =
        ap (λ (up : List (List ℕ)). not (is_empty up) && not (is_full w.printer)) i.up ∙ ap not room
        in
        let same : apply w Arrive ≡ happen w Arrive = happens w Arrive can in
        let fine : place + length queued ≤ 1999999999 = omega (arith, few, append_length queued (text ∷ rest)) in
        let next : IsInStep place (queued ++ text ∷ []) rest (apply w Arrive) = arrives place queued rest text w fit.0 fine room i in
        let regroup : (queued ++ text ∷ []) ++ rest ≡ queued ++ text ∷ rest = append_assoc queued (text ∷ []) rest in
        let still : place + length ((queued ++ text ∷ []) ++ rest) ≤ 2000000000 = omega (arith, few, ap length regroup) in
        let on = further still next in
        let one : arrivals w w.up ≡ Arrive ∷ arrivals (apply w Arrive) (apply w Arrive).up =
        ap (arrivals w) i.up
        ∙ ap (λ (b : Bool). if b then [] else Arrive ∷ arrivals (happen w Arrive) (map bytes_in (pieces_from (suc (place + length queued)) rest))) room
        ∙ ap (λ (v : WorldData). Arrive ∷ arrivals v (map bytes_in (pieces_from (suc (place + length queued)) rest))) (sym same)
        ∙ ap (λ (up : List (List ℕ)). Arrive ∷ arrivals (apply w Arrive) up) (sym (arrived_up next))
        in
        let P : List WorldEvent → Type 0 = λ es. HasArrived place queued (text ∷ rest) w (world_from w es) in
        subst P (sym one) (record {
          there = on.there;
          coming = on.coming;
          all = on.all ∙ regroup;
          in_step = on.in_step;
          waits = λ some. on.waits (omega (arith, ap length regroup, append_length queued (text ∷ rest)));
        })

-- a run and a receiving after it
pub record HasHeard (place : ℕ) (texts : List (List ℕ)) (w : WorldData) : Type 0 where
  pub reply : List ℕ
  pub first : List WorldEvent
  pub is : recv_events true w ≡ first ++ Recv ∷ []
  pub free : list_all is_free first ≡ true
  pub front : (world_from w first).down ≡ reply ∷ []
  pub heard : IsRunReply reply (wire_number place)
  pub there : List (List ℕ)
  pub coming : List (List ℕ)
  pub all : there ++ coming ≡ texts
  pub in_step : IsInStep (suc place) there coming (world_from w (recv_events true w))

-- the printer runs the front of its queue
pub record HasRun (place : ℕ) (queued flying : List (List ℕ)) (w : WorldData) : Type 0 where
  pub reply : List ℕ
  pub front : (apply w Run).down ≡ reply ∷ []
  pub heard : IsRunReply reply (wire_number place)
  pub runs : is_empty w.printer.queue ≡ false
  pub received : IsInStep (suc place) queued flying (apply (apply w Run) Recv)

run_one : (place : ℕ) (text : List ℕ) (queued flying : List (List ℕ)) (w : WorldData) → IsFit text → place ≤ 1999999999 →
    IsInStep place (text ∷ queued) flying w → HasRun place queued flying w
run_one place text queued flying w fit few i =
    let entry : Entry = entry_in (command place text) in
    let behind : List Entry = map entry_in (pieces_from (suc place) queued) in
    let free : ℕ = w.printer.slots - length w.printer.queue in
    let reply : List ℕ = run_reply w.printer.oks.numbered (Some (wire_number place)) text free in
    let ran : apply w Run ≡ after_run w (run_queue w.printer (entry ∷ behind)) = run_queue_of w entry behind i.queue in
    let down : (apply w Run).down ≡ reply ∷ [] =
    ap (λ (v : WorldData). v.down) ran
    ∙ ap (λ (b : Bool). if b then w.down ++ reply ∷ [] else w.down) i.linked
    ∙ ap (λ (d : List (List ℕ)). d ++ reply ∷ []) i.down
    in
    let open_still : (apply w Run).linked ≡ true = ap (λ (v : WorldData). v.linked) ran ∙ i.linked in
    let can : can_happen (apply w Run) Recv ≡ true =
    ap (λ (b : Bool). b && not (is_empty (apply w Run).down)) open_still ∙ ap (λ (d : List (List ℕ)). not (is_empty d)) down
    in
    let got : apply (apply w Run) Recv ≡ record (apply w Run) { down = drop 1 (apply w Run).down } = happens (apply w Run) Recv can in
    let kept : last_after w.printer.last entry ≡ w.printer.last = last_after-command w.printer.last place text fit in
    let P : WorldData → Type 0 = λ v. (1 ≤ v.printer.slots) × (v.printer.slots ≤ 16) in
    let slots : P (apply (apply w Run) Recv) = subst P (sym got) (let Q : WorldData → Type 0 = λ v. (1 ≤ v.printer.slots) × (v.printer.slots ≤ 16) in subst Q (sym ran) (i.some, i.few)) in
    record {
      reply = reply;
      front = down;
      heard = run_heard w.printer.oks.numbered (wire_number place) free text (small_number place few) (omega (arith, i.few));
      runs = ap is_empty i.queue;
      received = record {
        linked = ap (λ (v : WorldData). v.linked) got ∙ open_still;
        queue = ap (λ (v : WorldData). v.printer.queue) got ∙ ap (λ (v : WorldData). v.printer.queue) ran;
        up = ap (λ (v : WorldData). v.up) got ∙ ap (λ (v : WorldData). v.up) ran ∙ i.up ∙ ap (λ (k : ℕ). map bytes_in (pieces_from k flying)) (omega arith);
        down = ap (λ (v : WorldData). v.down) got ∙ ap (drop 1) down;
        next = ap wire_number (omega arith) ∙ i.next
            ∙ ap (λ (k : ℕ). k + 1) (sym (ap (λ (v : WorldData). v.printer.last) got ∙ ap (λ (v : WorldData). v.printer.last) ran ∙ kept));
        some = slots.0;
        few = slots.1;
      };
    }

-- a receiving with something unacknowledged brings the `ok` of the next line
pub prompt_heard : (place : ℕ) (text : List ℕ) (texts queued flying : List (List ℕ)) (w : WorldData) → Each IsFit (text ∷ texts) →
    place + length (text ∷ texts) ≤ 2000000000 → queued ++ flying ≡ text ∷ texts → IsInStep place queued flying w → HasHeard place texts w
prompt_heard place text texts queued flying w fit few all i =
    let E : List (List ℕ) → Type 0 = λ l. Each IsFit l in
    let fits : Each IsFit flying = each_behind queued flying (subst E (sym all) fit) in
    let arrived_all = arrive_all place queued flying w fits (omega (arith, few, ap length all)) i in
    heard_by arrived_all.there arrived_all.coming (arrived_all.all ∙ all) (arrived_all.waits (omega (arith, ap length all))) arrived_all.in_step
  where
    each_behind : (xs ys : List (List ℕ)) → Each IsFit (xs ++ ys) → Each IsFit ys
    each_behind [] ys fit = fit
    each_behind (x ∷ xs) ys fit = each_behind xs ys fit.1

    tail_same : (a b : List ℕ) (xs ys : List (List ℕ)) → a ∷ xs ≡ b ∷ ys → xs ≡ ys
    tail_same a b xs ys is = ap (drop 1) is

    heard_by : (there coming : List (List ℕ)) → there ++ coming ≡ text ∷ texts → 1 ≤ length there →
        IsInStep place there coming (world_from w (arrivals w w.up)) → HasHeard place texts w
    heard_by [] coming all_there some step = absurd (omega (arith, some))
    heard_by (front ∷ there) coming all_there some step =
        let v : WorldData = world_from w (arrivals w w.up) in
        let same : front ≡ text = head_of front text (there ++ coming) texts all_there in
        let S : List ℕ → Type 0 = λ t. IsInStep place (t ∷ there) coming v in
        let ran = run_one place text there coming v fit.0 (omega (arith, few)) (subst S same step) in
        let run : due_run true v ≡ Run ∷ [] = ap (λ (b : Bool). if b then [] else Run ∷ []) ran.runs in
        let events : List WorldEvent = arrivals w w.up ++ Run ∷ [] in
        let printer : printer_events true w ≡ events = ap (λ (es : List WorldEvent). arrivals w w.up ++ es) run in
        let after : world_from w events ≡ apply v Run = world_from-push w (arrivals w w.up) Run in
        let down : (world_from w events).down ≡ ran.reply ∷ [] = ap (λ (u : WorldData). u.down) after ∙ ran.front in
        let recv : due_recv (world_from w events) ≡ Recv ∷ [] = ap (λ (d : List (List ℕ)). if is_empty d then [] else Recv ∷ []) down in
        let is : recv_events true w ≡ events ++ Recv ∷ [] =
        ap (λ (es : List WorldEvent). es ++ due_recv (world_from w es)) printer ∙ ap (λ (es : List WorldEvent). events ++ es) recv
        in
        let last : world_from w (recv_events true w) ≡ apply (apply v Run) Recv =
        ap (world_from w) is ∙ world_from-push w events Recv ∙ ap (λ (u : WorldData). apply u Recv) after
        in
        let I : WorldData → Type 0 = λ u. IsInStep (suc place) there coming u in
        record {
          reply = ran.reply;
          first = events;
          is = is;
          free = list_all-append is_free (arrivals w w.up) (Run ∷ []) ∙ ap (λ (b : Bool). b && list_all is_free (Run ∷ [])) (arrivals_free w w.up);
          front = down;
          heard = ran.heard;
          there = there;
          coming = coming;
          all = tail_same front text (there ++ coming) texts all_there;
          in_step = subst I (sym last) ran.received;
        }
