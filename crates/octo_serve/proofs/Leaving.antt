-- A host that has ended without a shutdown: each worker has left, once, so no connection of its door will come any more.
use Rattle.std.proofs.Common.{◌≡◌, ◌≢◌, ◌⊎◌, inl, inr, ℕ, zero, suc, ◌+◌, ◌≤◌, Bool, true, false, ◌&&◌, ◌||◌, nat_lt, List, [], ◌∷◌, ◌++◌, Option, Some, None, IfSome, refl, sym, ap, subst, ◌∙◌, arith}
use Rattle.std.specs.Prelude.{All, ◌==◌, if◌then◌else◌}
use Rattle.std.proofs.lemmas.Bool.{false≢true}
use Rattle.std.proofs.lemmas.Bool.Decides.{nat_tests}
use Rattle.std.proofs.lemmas.List.Elements.{All-head, All-tail}
use Rattle.octo_outside.specs.Recorded.{Became}
use Rattle.octo_outside.specs.Conns.{ConnState}
use Rattle.octo_outside_doors.specs.declared.door.Doors.{Doors}
use Rattle.octo_asks.specs.declared.answer.Answer.{Answer}
use Rattle.octo_asks.specs.declared.request.Ask.{Ask}
use Rattle.octo_asks.specs.declared.request.Request.{Request}
use Rattle.octo_asks.specs.declared.request.Request.TheVariants.{Leave, AutoConnect}
use Rattle.octo_asks.specs.declared.entry.Entry.TheVariants as entry
use Rattle.octo_asks.specs.History.{History, calls_of}
use Rattle.octo_api_worker.specs.declared.terms.Terms.{Terms}
use Rattle.octo_api_worker.specs.Served.{IsServed}
use Rattle.octo_api_worker.specs.Worked.{Served, none_served, one_more, Leaves, no_leave, one_leave, IsAsk, HasReturned, HasWorked}
use Rattle.octo_api_worker.proofs.Asked.{served_asks}
use Rattle.octo_serve.specs.Ends.{HistoryData}
use Rattle.octo_serve.specs.Views.{AreCalls, has_close, is_own, all_of_four}
use Rattle.octo_house_rules.specs.Counted.{is_leave, leaves_made, is_shut}
use Rattle.octo_house_run.specs.Runs.{IsOver}
use Rattle.octo_house_run.proofs.Tallying.{leaves_append}
use Rattle.octo_outside_doors.specs.Doors.{DoorState}
use Rattle.octo_serve.specs.Doors.{IsServedBy, AreServed, HasNoMore, AllHaveNoMore}
use Rattle.octo_serve.specs.Hosted.{Setting, Ran, HasHosted}
use Rattle.std.proofs.lemmas.Option.{same_Some}

not_leave : (r : Request) → r ≢ Leave → is_leave r ≡ false
not_leave Leave callers = absurd (callers refl)
not_leave _ callers = refl

-- connections lead to no leave
asks_leave_none : (calls : History) → All IsAsk calls → leaves_made calls ≡ 0
asks_leave_none [] all = refl
asks_leave_none (entry.Call worker ask moment x ∷ es) all =
    let no : is_leave ask.request ≡ false = not_leave ask.request (All-head IsAsk (entry.Call worker ask moment x) es all).0 in
    rw no (asks_leave_none es (All-tail IsAsk (entry.Call worker ask moment x) es all))
asks_leave_none (entry.Note note ∷ es) all = absurd (All-head IsAsk (entry.Note note) es all)
asks_leave_none (entry.Close ∷ es) all = absurd (All-head IsAsk entry.Close es all)

conn_leaves_none : (terms : Terms) (input : List ℕ) (conn : ConnState) (is_open : Bool) (calls : History) → IsServed terms input conn is_open calls
    → leaves_made calls ≡ 0
conn_leaves_none terms input conn is_open calls served = asks_leave_none calls (served_asks terms input conn is_open calls served)

walk_leaves_none : (terms : Terms) (inputs : List (List ℕ)) (conns : List ConnState) (is_open : Bool) (calls : History)
    → Served terms inputs conns is_open calls → leaves_made calls ≡ 0
walk_leaves_none terms inputs conns is_open calls none_served = refl
walk_leaves_none terms inputs conns is_open calls (one_more before others made input conn is more walk served) =
    leaves_append made more ∙ (λ i. walk_leaves_none terms before others true made walk i + conn_leaves_none terms input conn is_open more served i)

leaves_once : (last : History) → Leaves last → leaves_made last ≤ 1
leaves_once last no_leave = omega arith
leaves_once last (one_leave worker moment a) = omega arith

-- a worker leaves at most once
returned_once : (calls : History) (saw : Bool) → HasReturned (Some []) (Some calls) saw → leaves_made calls ≤ 1
returned_once calls saw returned =
    let got = returned calls refl in
    let r = got.4 in
    let all : calls ≡ r.calls ++ r.last = got.3 ∙ (ap (λ (p : History). p ++ got.1) (sym (same_Some [] got.0 got.2)) ∙ r.split) in
    let count : leaves_made calls ≡ leaves_made r.calls + leaves_made r.last = ap leaves_made all ∙ leaves_append r.calls r.last in
    omega (arith, count, asks_leave_none r.calls r.asks, leaves_once r.last r.leave)

-- a worker that has left has nothing more to come
work_is_done : (terms : Terms) (inputs : List (List ℕ)) (coming : Option (List (List ℕ))) (served served' : Option (List ConnState)) (calls : History)
    (held : Bool) → HasWorked terms inputs coming served served' (Some []) (Some calls) true held → 1 ≤ leaves_made calls → coming ≡ Some []
work_is_done terms inputs coming served served' calls false w once = w.left
work_is_done terms inputs coming served served' calls true w once = elim (w.over refl) [
  | inl seen ↦ absurd (let none : leaves_made w.last ≡ 0 = ap leaves_made seen.1 in omega (arith, once, count, asked, none))
  | inr ended ↦ w.left ∙ ap Some ended.1
]
  where
    made : calls ≡ w.calls ++ w.last
    made = let got = w.made calls refl in got.3 ∙ (λ i. sym (same_Some [] got.0 got.2) i ++ got.4 i)

    count : leaves_made calls ≡ leaves_made w.calls + leaves_made w.last
    count = ap leaves_made made ∙ leaves_append w.calls w.last

    asked : leaves_made w.calls ≡ 0
    asked = walk_leaves_none terms w.taken w.conns w.is_open w.calls w.walk

door_is_done : (terms : Terms) (old new : DoorState) (calls : History) (held : Bool) → IsServedBy terms old new calls held → 1 ≤ leaves_made calls
    → HasNoMore old new
door_is_done terms old new calls held by once = each old.coming refl
  where
    each : (coming : Option (List (List ℕ))) → old.coming ≡ coming → IfSome coming (λ _. new.coming ≡ Some [])
    each (Some inputs) is = work_is_done terms inputs new.coming old.served new.served calls held (by.conns inputs is) once
    each None is = tt

leaves_more : (worker : ℕ) (ask : Ask) (moment : ℕ) (x : Answer) (es : History)
    → leaves_made (entry.Call worker ask moment x ∷ es) ≡ leaves_made (entry.Call worker ask moment x ∷ []) + leaves_made es
leaves_more worker ask moment x es = leaves_append (entry.Call worker ask moment x ∷ []) es

is_far : (worker : ℕ) → nat_lt (suc (suc (suc (suc worker)))) 4 ≡ false
is_far worker = grind (arith, nat_tests)

neither : (near others : Bool) → near ≡ false → ((near || false) && others) ≡ true → ⊥
neither true others far e = false≢true (sym far)
neither false others far e = false≢true e

both : (b others : Bool) → (b && others) ≡ true → others ≡ true
both true others e = e
both false others e = absurd (false≢true e)

-- a call of no worker is the house's own, and no leave
far : (worker : ℕ) (asked : Request) (others : Bool)
    → ((nat_lt (suc (suc (suc (suc worker)))) 4 || is_own (suc (suc (suc (suc worker)))) asked) && others) ≡ true
    → (is_leave asked ≡ false) × (others ≡ true)
far worker AutoConnect others e = (refl, both _ others e)
far worker _ others e = absurd (neither (nat_lt (suc (suc (suc (suc worker)))) 4) others (is_far worker) e)

-- the house's number is none of a worker's
not_first : (worker : ℕ) → (suc (suc (suc (suc worker))) == 0) ≡ false
not_first worker = grind (arith, nat_tests)

not_second : (worker : ℕ) → (suc (suc (suc (suc worker))) == 1) ≡ false
not_second worker = grind (arith, nat_tests)

not_third : (worker : ℕ) → (suc (suc (suc (suc worker))) == 2) ≡ false
not_third worker = grind (arith, nat_tests)

not_fourth : (worker : ℕ) → (suc (suc (suc (suc worker))) == 3) ≡ false
not_fourth worker = grind (arith, nat_tests)

-- a call of another number is left out of a worker's
left_out : (n worker : ℕ) (ask : Ask) (moment : ℕ) (x : Answer) (es : History) → (worker == n) ≡ false
    → leaves_made (calls_of n (entry.Call worker ask moment x ∷ es)) ≡ leaves_made (calls_of n es)
left_out n worker ask moment x es other =
    ap (λ (b : Bool). leaves_made (if b then entry.Call worker ask moment x ∷ calls_of n es else calls_of n es)) other

-- the leaves of a history are those of the four workers
leaves_of_four : (h : History) → all_of_four h ≡ true
    → leaves_made h ≡ leaves_made (calls_of 0 h) + (leaves_made (calls_of 1 h) + (leaves_made (calls_of 2 h) + leaves_made (calls_of 3 h)))
leaves_of_four [] all = refl
leaves_of_four (entry.Note note ∷ es) all = leaves_of_four es all
leaves_of_four (entry.Close ∷ es) all = leaves_of_four es all
leaves_of_four (entry.Call zero ask moment x ∷ es) all =
    omega (arith, leaves_more 0 ask moment x es, leaves_more 0 ask moment x (calls_of 0 es), leaves_of_four es all)
leaves_of_four (entry.Call (suc zero) ask moment x ∷ es) all =
    omega (arith, leaves_more 1 ask moment x es, leaves_more 1 ask moment x (calls_of 1 es), leaves_of_four es all)
leaves_of_four (entry.Call (suc (suc zero)) ask moment x ∷ es) all =
    omega (arith, leaves_more 2 ask moment x es, leaves_more 2 ask moment x (calls_of 2 es), leaves_of_four es all)
leaves_of_four (entry.Call (suc (suc (suc zero))) ask moment x ∷ es) all =
    omega (arith, leaves_more 3 ask moment x es, leaves_more 3 ask moment x (calls_of 3 es), leaves_of_four es all)
leaves_of_four (entry.Call (suc (suc (suc (suc worker)))) ask moment x ∷ es) all =
    let own = far worker ask.request (all_of_four es) all in
    let far_one : ℕ = suc (suc (suc (suc worker))) in
    let none : leaves_made (entry.Call far_one ask moment x ∷ es) ≡ leaves_made es = rw own.0 refl in
    omega (
      arith,
      none,
      left_out 0 far_one ask moment x es (not_first worker),
      left_out 1 far_one ask moment x es (not_second worker),
      left_out 2 far_one ask moment x es (not_third worker),
      left_out 3 far_one ask moment x es (not_fourth worker),
      leaves_of_four es own.1,
    )

-- four leaves, of which no worker made two
module _ (terms : Terms) (old new : Doors DoorState) (history : History) (held : Bool) (by : AreServed terms old new history held)
    (four : all_of_four history ≡ true) (many : 4 ≤ leaves_made history) where
  sum : leaves_made history ≡ leaves_made (calls_of 0 history)
      + (leaves_made (calls_of 1 history) + (leaves_made (calls_of 2 history) + leaves_made (calls_of 3 history)))
  sum = leaves_of_four history four

  a_once : leaves_made (calls_of 0 history) ≤ 1
  a_once = returned_once (calls_of 0 history) true by.a.returned

  b_once : leaves_made (calls_of 1 history) ≤ 1
  b_once = returned_once (calls_of 1 history) true by.b.returned

  c_once : leaves_made (calls_of 2 history) ≤ 1
  c_once = returned_once (calls_of 2 history) true by.c.returned

  d_once : leaves_made (calls_of 3 history) ≤ 1
  d_once = returned_once (calls_of 3 history) true by.d.returned

  all_are_done : AllHaveNoMore old new
  all_are_done = record {
    a = door_is_done terms old.a new.a (calls_of 0 history) by.held_a by.a (omega (arith, many, sum, b_once, c_once, d_once));
    b = door_is_done terms old.b new.b (calls_of 1 history) by.held_b by.b (omega (arith, many, sum, a_once, c_once, d_once));
    c = door_is_done terms old.c new.c (calls_of 2 history) by.held_c by.c (omega (arith, many, sum, a_once, b_once, d_once));
    d = door_is_done terms old.d new.d (calls_of 3 history) by.held_d by.d (omega (arith, many, sum, a_once, b_once, c_once));
  }

-- why a host has ended
ends_by : (terms : Terms) (old new : Doors DoorState) (history : History) (held : Bool) (calls : ℕ) (active : Bool)
    → AreServed terms old new history held → all_of_four history ≡ true → Became (Some []) (Some history) (λ _ added. IsOver calls active added)
    → (is_shut history ≡ true) ⊎ AllHaveNoMore old new
ends_by terms old new history held calls active by four over =
    let got = over history refl in
    let same : got.1 ≡ history = sym (got.3 ∙ ap (λ (p : History). p ++ got.1) (sym (same_Some [] got.0 got.2))) in
    elim got.4.why [
      | inl shut ↦ inl (subst (λ (h : History). is_shut h ≡ true) same shut)
      | inr left ↦ inr (all_are_done terms old new history held by four (subst (λ (h : History). 4 ≤ leaves_made h) same left.0))
    ]

-- what a host did, from what its parts did
pub hosts : (terms : Terms) (old new : Setting) (doors doors' : Doors DoorState) (calls : ℕ) (held : Bool) (known : HistoryData)
    → Ran old new (Some []) (Some known.history) calls → has_close known.history ≡ true → AreCalls known.history 0 known.mines
    → all_of_four known.history ≡ true → AreServed terms doors doors' known.history held
    → HasHosted terms old new doors doors' calls held known
hosts terms old new doors doors' calls held known ran ended mines four served = record {
  ran = ran;
  ended = ended;
  of_four = four;
  mines = mines;
  served = served;
  why = ends_by terms doors doors' known.history held calls _ served four ran.over;
}
