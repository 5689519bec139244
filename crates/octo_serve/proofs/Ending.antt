-- What four workers' work says once their calls are those of a finished history.
use Rattle.std.proofs.Common.{◌≡◌, ℕ, Bool, true, List, [], ◌∷◌, ◌++◌, Option, Some, inl, inr, sym, refl, ap, subst, ◌∙◌}
use Rattle.std.proofs.lemmas.Option.{same_Some}
use Rattle.octo_outside.specs.Conns.{ConnState}
use Rattle.octo_outside_doors.specs.declared.door.Doors.{Doors}
use Rattle.octo_asks.specs.History.{History, calls_of}
use Rattle.octo_outside.specs.Recorded.{Became}
use Rattle.octo_outside.proofs.Recorded.{became_so}
use Rattle.octo_house_run.specs.Own.{ConnectsItself}
use Rattle.octo_api_worker.specs.declared.terms.Terms.{Terms}
use Rattle.octo_api_worker.specs.Worked.{AreOfReturned, HasReturned, HasWorked}
use Rattle.octo_serve.specs.declared.workers.Workers.{Workers}
use Rattle.octo_serve.specs.Views.{AreCalls}
use Rattle.octo_outside_doors.specs.Doors.{DoorState}
use Rattle.octo_serve.specs.Hosted.{Setting, Ran}
use Rattle.octo_serve.specs.Doors.{AtDoor, AllWork, IsServedBy, AreServed}

-- a worker may have seen the end of a host that has ended
pub may_have_seen : (terms : Terms) (inputs : List (List ℕ)) (coming : Option (List (List ℕ))) (served served' : Option (List ConnState))
    (mine mine' : Option History) (saw held : Bool)
    → HasWorked terms inputs coming served served' mine mine' saw held → HasWorked terms inputs coming served served' mine mine' true held
may_have_seen terms inputs coming served served' mine mine' saw held w = record {
  taken = w.taken;
  rest = w.rest;
  conns = w.conns;
  calls = w.calls;
  last = w.last;
  is_open = w.is_open;
  split = w.split;
  walk = w.walk;
  leave = w.leave;
  kept = w.kept;
  made = w.made;
  left = w.left;
  unheard = λ _. refl;
  parted = λ _. refl;
  over = λ h. elim (w.over h) [ inl p ↦ inl (refl, p.1) | inr p ↦ inr p ];
  failed = w.failed;
}

-- the same of its calls alone
returned_seeing : (mine mine' : History) (saw : Bool) → HasReturned (Some mine) (Some mine') saw → HasReturned (Some mine) (Some mine') true
returned_seeing mine mine' saw returned = became_so (Some mine) (Some mine') (λ _ added. AreOfReturned saw added) (λ _ added. AreOfReturned true added) returned
    (λ past added r. record { calls = r.calls; last = r.last; split = r.split; asks = r.asks; leave = r.leave; parted = λ _. refl })

-- a worker that began without calls, and whose calls are these in the history
pub served_by : (terms : Terms) (old new : DoorState) (mine mine' calls : History) (saw held : Bool) → mine ≡ [] → calls ≡ mine'
    → AtDoor terms old new (Some mine) (Some mine') saw held → IsServedBy terms old new calls held
served_by terms old new mine mine' calls saw held begins same w =
    let go : AtDoor terms old new (Some mine) (Some mine') true held = record {
      conns = λ inputs at. may_have_seen terms inputs new.coming old.served new.served (Some mine) (Some mine') saw held (w.conns inputs at);
      returned = returned_seeing mine mine' saw w.returned;
      steady = w.steady;
      failed = w.failed;
    } in
    subst (λ (c : History). AtDoor terms old new (Some []) (Some c) true held) (sym same)
    (subst (λ (m : History). AtDoor terms old new (Some m) (Some mine') true held) begins go)

-- the calls of all four
pub all_served : {R : Type 0} (terms : Terms) (old new : Doors DoorState) (workers workers' : Workers R) (history : History) (held : Bool)
    → workers.a.view.mine ≡ [] → workers.b.view.mine ≡ [] → workers.c.view.mine ≡ [] → workers.d.view.mine ≡ []
    → AreCalls history 0 (workers'.a.view.mine ∷ workers'.b.view.mine ∷ workers'.c.view.mine ∷ workers'.d.view.mine ∷ [])
    → AllWork terms old new workers workers' held → AreServed terms old new history held
all_served {R} terms old new workers workers' history held none_a none_b none_c none_d calls w = record {
  held_a = w.held_a;
  held_b = w.held_b;
  held_c = w.held_c;
  held_d = w.held_d;
  all = w.all;
  a = served_by terms old.a new.a workers.a.view.mine workers'.a.view.mine (calls_of 0 history)
      workers'.a.view.saw_close w.held_a none_a calls.0 w.a.served;
  b = served_by terms old.b new.b workers.b.view.mine workers'.b.view.mine (calls_of 1 history)
      workers'.b.view.saw_close w.held_b none_b calls.1.0 w.b.served;
  c = served_by terms old.c new.c workers.c.view.mine workers'.c.view.mine (calls_of 2 history)
      workers'.c.view.saw_close w.held_c none_c calls.1.1.0 w.c.served;
  d = served_by terms old.d new.d workers.d.view.mine workers'.d.view.mine (calls_of 3 history)
      workers'.d.view.saw_close w.held_d none_d calls.1.1.1.0 w.d.served;
}

-- a run of a history that was empty
pub ran_from_nothing : (old new : Setting) (before after history : History) (calls : ℕ) → before ≡ [] → history ≡ after
    → Ran old new (Some before) (Some after) calls → Ran old new (Some []) (Some history) calls
ran_from_nothing old new before after history calls none same ran =
    subst (λ (h : History). Ran old new (Some []) (Some h) calls) (sym same)
    (subst (λ (h : History). Ran old new (Some h) (Some after) calls) none ran)

-- the same of the calls of its own
pub own_from_nothing : (connects : Bool) (before after history : History) → before ≡ [] → history ≡ after
    → Became (Some before) (Some after) (λ _ added. ConnectsItself connects added) → ConnectsItself connects history
own_from_nothing connects before after history none same own =
    let got = own after refl in
    let front : got.0 ≡ [] = sym (same_Some before got.0 got.2) ∙ none in
    subst (λ (h : History). ConnectsItself connects h) (sym (same ∙ (got.3 ∙ ap (λ (h : History). h ++ got.1) front))) got.4
