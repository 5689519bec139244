-- A worker's looks at its door, one after the other.
use Rattle.std.proofs.Common.{◌≡◌, ◌⊎◌, inl, inr, ℕ, Bool, true, false, List, [], ◌∷◌, ◌++◌, Option, Some, None, refl, sym, ap, subst, ◌∙◌, append_assoc, append-nil}
use Rattle.octo_outside.specs.Recorded.{Adds}
use Rattle.octo_outside.proofs.Recorded.{adds_then, adds_none}
use Rattle.octo_asks.specs.History.{History}
use Rattle.octo_outside_doors.specs.declared.door.Knock.TheVariants as knock
use Rattle.octo_outside.specs.Conns.{ConnState}
use Rattle.octo_outside_doors.specs.Doors.{fresh_conn, Comes}
use Rattle.octo_api_worker.specs.declared.at_door.Visit.{Visit}
use Rattle.octo_api_worker.specs.declared.at_door.Visit.TheVariants as visit
use Rattle.octo_api_worker.specs.declared.terms.Terms.{Terms}
use Rattle.octo_api_worker.specs.Served.{IsServed}
use Rattle.octo_api_worker.proofs.Calls.{added_none}
use Rattle.octo_api_worker.specs.Worked.{Served, none_served, one_more, is_open, Leaves, no_leave, IsVisit, one_served, last_served, none_came, host_ended, door_ended, door_failed, HasVisited, HasLeft, IsWorking, HasWorked}

-- a connection came and was served
pub visit_served : {C : Type 0} (state : C → ConnState) (terms : Terms) (conn : C) (inputs : List (List ℕ)) (coming coming' : Option (List (List ℕ)))
    (kept kept' : Option (List ConnState)) (mine mine' : Option History) (v : Visit)
    → Comes state inputs (knock.Conn conn) coming → coming' ≡ coming → (v ≡ visit.Open) ⊎ (v ≡ visit.Closed)
    → ((input : List ℕ) → state conn ≡ fresh_conn input → (after : ConnState) × (calls : History)
    × IsServed terms input after (is_open v) calls × Adds kept kept' (after ∷ []) × Adds mine mine' calls)
    → HasVisited terms inputs coming' kept kept' mine mine' v
visit_served state terms conn [] coming coming' kept kept' mine mine' v comes same either serves = absurd comes
visit_served state terms conn (input ∷ inputs) coming coming' kept kept' mine mine' visit.Open comes same either serves =
    let did = serves input comes.0 in
    let At : Option (List (List ℕ)) → Type 0 = λ now. IsVisit terms (input ∷ inputs) now (did.0 ∷ []) did.1 visit.Open in
    (did.0 ∷ [], did.1, subst At (sym (same ∙ comes.1)) (one_served input inputs did.0 did.1 did.2), did.3, did.4)
visit_served state terms conn (input ∷ inputs) coming coming' kept kept' mine mine' visit.Closed comes same either serves =
    let did = serves input comes.0 in
    let At : Option (List (List ℕ)) → Type 0 = λ now. IsVisit terms (input ∷ inputs) now (did.0 ∷ []) did.1 visit.Closed in
    (did.0 ∷ [], did.1, subst At (sym (same ∙ comes.1)) (last_served input inputs did.0 did.1 did.2), did.3, did.4)
visit_served state terms conn (input ∷ inputs) coming coming' kept kept' mine mine' visit.Ended comes same (inl e) serves = absurd cc
visit_served state terms conn (input ∷ inputs) coming coming' kept kept' mine mine' visit.Ended comes same (inr e) serves = absurd cc
visit_served state terms conn (input ∷ inputs) coming coming' kept kept' mine mine' visit.Failed comes same (inl e) serves = absurd cc
visit_served state terms conn (input ∷ inputs) coming coming' kept kept' mine mine' visit.Failed comes same (inr e) serves = absurd cc

-- a look that neither serves nor asks
idle : (terms : Terms) (inputs : List (List ℕ)) (coming is : Option (List (List ℕ))) (kept kept' : Option (List ConnState)) (mine mine' : Option History)
    (v : Visit) → coming ≡ is → IsVisit terms inputs is [] [] v → kept' ≡ kept → mine' ≡ mine
    → HasVisited terms inputs coming kept kept' mine mine' v
idle terms inputs coming is kept kept' mine mine' v same look k m =
    let At : Option (List (List ℕ)) → Type 0 = λ now. IsVisit terms inputs now [] [] v in
    ([], [], subst At (sym same) look, added_none kept kept' k, added_none mine mine' m)

-- nothing has come yet
pub visit_quiet : {C : Type 0} (state : C → ConnState) (terms : Terms) (inputs : List (List ℕ)) (coming : Option (List (List ℕ)))
    (kept kept' : Option (List ConnState)) (mine mine' : Option History)
    → Comes state inputs knock.Quiet coming → kept' ≡ kept → mine' ≡ mine
    → HasVisited terms inputs coming kept kept' mine mine' visit.Open
visit_quiet state terms [] coming kept kept' mine mine' comes k m = absurd comes
visit_quiet state terms (input ∷ inputs) coming kept kept' mine mine' comes k m =
    idle terms (input ∷ inputs) coming (Some (input ∷ inputs)) kept kept' mine mine' visit.Open comes (none_came (input ∷ inputs)) k m

-- the host has ended
pub visit_closed : (terms : Terms) (inputs : List (List ℕ)) (coming : Option (List (List ℕ)))
    (kept kept' : Option (List ConnState)) (mine mine' : Option History)
    → coming ≡ Some inputs → kept' ≡ kept → mine' ≡ mine
    → HasVisited terms inputs coming kept kept' mine mine' visit.Closed
visit_closed terms inputs coming kept kept' mine mine' same k m =
    idle terms inputs coming (Some inputs) kept kept' mine mine' visit.Closed same (host_ended inputs) k m

-- no connection will come any more
pub visit_ended : {C : Type 0} (state : C → ConnState) (terms : Terms) (inputs : List (List ℕ)) (coming : Option (List (List ℕ)))
    (kept kept' : Option (List ConnState)) (mine mine' : Option History)
    → Comes state inputs knock.Ended coming → kept' ≡ kept → mine' ≡ mine
    → HasVisited terms inputs coming kept kept' mine mine' visit.Ended
visit_ended state terms [] coming kept kept' mine mine' comes k m =
    idle terms [] coming (Some []) kept kept' mine mine' visit.Ended comes door_ended k m
visit_ended state terms (input ∷ inputs) coming kept kept' mine mine' comes k m = absurd comes

-- the door failed
pub visit_failed : (terms : Terms) (inputs : List (List ℕ)) (coming : Option (List (List ℕ)))
    (kept kept' : Option (List ConnState)) (mine mine' : Option History)
    → coming ≡ Some [] → kept' ≡ kept → mine' ≡ mine
    → HasVisited terms inputs coming kept kept' mine mine' visit.Failed
visit_failed terms inputs coming kept kept' mine mine' same k m =
    idle terms inputs coming (Some []) kept kept' mine mine' visit.Failed same (door_failed inputs) k m

-- a worker that begins
pub work_begins : (terms : Terms) (inputs : List (List ℕ)) (coming : Option (List (List ℕ))) (kept : Option (List ConnState)) (mine : Option History)
    → coming ≡ Some inputs → IsWorking terms inputs coming kept kept mine mine
work_begins terms inputs coming kept mine is = record {
  taken = [];
  rest = inputs;
  conns = [];
  calls = [];
  split = refl;
  walk = none_served;
  kept = adds_none kept;
  made = adds_none mine;
  left = is;
}

-- an addition, and then nothing
adds_same : {A : Type 0} (old mid new : Option (List A)) (xs : List A) → Adds old mid xs → Adds mid new [] → Adds old new xs
adds_same {A} old mid new xs first second =
    let At : List A → Type 0 = λ added. Adds old new added in
    subst At (append-nil xs) (adds_then old mid new xs [] first second)

-- an addition, written with nothing at its end
adds_end : {A : Type 0} (old new : Option (List A)) (xs : List A) → Adds old new xs → Adds old new (xs ++ [])
adds_end {A} old new xs adds =
    let At : List A → Type 0 = λ added. Adds old new added in
    subst At (sym (append-nil xs)) adds

-- one look more
step : (terms : Terms) (inputs : List (List ℕ)) (coming : Option (List (List ℕ)))
    (kept mid kept' : Option (List ConnState)) (mine made mine' : Option History)
    (taken rest : List (List ℕ)) (conns conns' : List ConnState) (calls calls' : History)
    → inputs ≡ taken ++ rest → Served terms taken conns true calls → Adds kept mid conns → Adds mine made calls
    → IsVisit terms rest coming conns' calls' visit.Open → Adds mid kept' conns' → Adds made mine' calls'
    → IsWorking terms inputs coming kept kept' mine mine'
step terms inputs coming kept mid kept' mine made mine' taken rest conns conns' calls calls' split walk k m (one_served input left conn more is) k' m' = record {
  taken = taken ++ input ∷ [];
  rest = left;
  conns = conns ++ conn ∷ [];
  calls = calls ++ more;
  split = split ∙ sym (append_assoc taken (input ∷ []) left);
  walk = one_more taken conns calls input conn true more walk is;
  kept = adds_then kept mid kept' conns (conn ∷ []) k k';
  made = adds_then mine made mine' calls more m m';
  left = refl;
}
step terms inputs coming kept mid kept' mine made mine' taken rest conns conns' calls calls' split walk k m (none_came left) k' m' = record {
  taken = taken;
  rest = left;
  conns = conns;
  calls = calls;
  split = split;
  walk = walk;
  kept = adds_same kept mid kept' conns k k';
  made = adds_same mine made mine' calls m m';
  left = refl;
}

-- the last look of a worker whose host has ended
stop : (terms : Terms) (inputs : List (List ℕ)) (coming : Option (List (List ℕ)))
    (kept mid kept' : Option (List ConnState)) (mine made mine' : Option History) (saw_close : Bool)
    (taken rest : List (List ℕ)) (conns conns' : List ConnState) (calls calls' : History)
    → saw_close ≡ true → inputs ≡ taken ++ rest → Served terms taken conns true calls → Adds kept mid conns → Adds mine made calls
    → IsVisit terms rest coming conns' calls' visit.Closed → Adds mid kept' conns' → Adds made mine' calls'
    → HasWorked terms inputs coming kept kept' mine mine' saw_close true
stop terms inputs coming kept mid kept' mine made mine' saw_close taken rest conns conns' calls calls' saw split walk k m (last_served input left conn more is) k' m' = record {
  taken = taken ++ input ∷ [];
  rest = left;
  conns = conns ++ conn ∷ [];
  calls = calls ++ more;
  last = [];
  is_open = false;
  split = split ∙ sym (append_assoc taken (input ∷ []) left);
  walk = one_more taken conns calls input conn false more walk is;
  leave = no_leave;
  kept = adds_then kept mid kept' conns (conn ∷ []) k k';
  made = adds_end mine mine' (calls ++ more) (adds_then mine made mine' calls more m m');
  left = refl;
  unheard = λ _. saw;
  parted = λ _. saw;
  over = λ _. inl (saw, refl);
  failed = λ no. cc;
}
stop terms inputs coming kept mid kept' mine made mine' saw_close taken rest conns conns' calls calls' saw split walk k m (host_ended left) k' m' = record {
  taken = taken;
  rest = left;
  conns = conns;
  calls = calls;
  last = [];
  is_open = true;
  split = split;
  walk = walk;
  leave = no_leave;
  kept = adds_same kept mid kept' conns k k';
  made = adds_end mine mine' calls (adds_same mine made mine' calls m m');
  left = refl;
  unheard = λ no. cc;
  parted = λ _. saw;
  over = λ _. inl (saw, refl);
  failed = λ no. cc;
}

-- the last look of a worker at whose door no connection will come any more
last_ended : (terms : Terms) (inputs : List (List ℕ)) (coming : Option (List (List ℕ)))
    (kept mid kept' : Option (List ConnState)) (mine made told mine' : Option History) (saw_close : Bool) (last : History)
    (taken rest : List (List ℕ)) (conns conns' : List ConnState) (calls calls' : History)
    → inputs ≡ taken ++ rest → Served terms taken conns true calls → Adds kept mid conns → Adds mine made calls
    → IsVisit terms rest coming conns' calls' visit.Ended → Adds mid kept' conns' → Adds made told calls'
    → Leaves last → Adds told mine' last → (last ≡ [] → saw_close ≡ true) → HasWorked terms inputs coming kept kept' mine mine' saw_close true
last_ended terms inputs coming kept mid kept' mine made told mine' saw_close last taken rest conns conns' calls calls' split walk k m door_ended k' m' leaves l parted = record {
  taken = taken;
  rest = [];
  conns = conns;
  calls = calls;
  last = last;
  is_open = true;
  split = split;
  walk = walk;
  leave = leaves;
  kept = adds_same kept mid kept' conns k k';
  made = adds_then mine told mine' calls last (adds_same mine made told calls m m') l;
  left = refl;
  unheard = λ no. cc;
  parted = parted;
  over = λ _. inr (refl, refl);
  failed = λ no. cc;
}

-- the last look of a worker whose door failed
last_failed : (terms : Terms) (inputs : List (List ℕ)) (coming : Option (List (List ℕ)))
    (kept mid kept' : Option (List ConnState)) (mine made told mine' : Option History) (saw_close : Bool) (last : History)
    (taken rest : List (List ℕ)) (conns conns' : List ConnState) (calls calls' : History)
    → inputs ≡ taken ++ rest → Served terms taken conns true calls → Adds kept mid conns → Adds mine made calls
    → IsVisit terms rest coming conns' calls' visit.Failed → Adds mid kept' conns' → Adds made told calls'
    → Leaves last → Adds told mine' last → (last ≡ [] → saw_close ≡ true) → HasWorked terms inputs coming kept kept' mine mine' saw_close false
last_failed terms inputs coming kept mid kept' mine made told mine' saw_close last taken rest conns conns' calls calls' split walk k m (door_failed left) k' m' leaves l parted = record {
  taken = taken;
  rest = left;
  conns = conns;
  calls = calls;
  last = last;
  is_open = true;
  split = split;
  walk = walk;
  leave = leaves;
  kept = adds_same kept mid kept' conns k k';
  made = adds_then mine told mine' calls last (adds_same mine made told calls m m') l;
  left = refl;
  unheard = λ no. cc;
  parted = parted;
  over = λ no. cc;
  failed = λ _. refl;
}

-- a worker that goes on after one look more
pub works_on : (terms : Terms) (inputs : List (List ℕ)) (coming coming' : Option (List (List ℕ)))
    (kept mid kept' : Option (List ConnState)) (mine made mine' : Option History)
    → IsWorking terms inputs coming kept mid mine made
    → ((left : List (List ℕ)) → coming ≡ Some left → HasVisited terms left coming' mid kept' made mine' visit.Open)
    → IsWorking terms inputs coming' kept kept' mine mine'
works_on terms inputs coming coming' kept mid kept' mine made mine' w visits =
    let v = visits w.rest w.left in
    step terms inputs coming' kept mid kept' mine made mine' w.taken w.rest w.conns v.0 w.calls v.1 w.split w.walk w.kept w.made v.2 v.3 v.4

-- a worker whose host has ended
pub works_till_close : (terms : Terms) (inputs : List (List ℕ)) (coming coming' : Option (List (List ℕ)))
    (kept mid kept' : Option (List ConnState)) (mine made mine' : Option History) (saw_close : Bool)
    → IsWorking terms inputs coming kept mid mine made
    → ((left : List (List ℕ)) → coming ≡ Some left → HasVisited terms left coming' mid kept' made mine' visit.Closed)
    → saw_close ≡ true → HasWorked terms inputs coming' kept kept' mine mine' saw_close true
works_till_close terms inputs coming coming' kept mid kept' mine made mine' saw_close w visits saw =
    let v = visits w.rest w.left in
    stop terms inputs coming' kept mid kept' mine made mine' saw_close w.taken w.rest w.conns v.0 w.calls v.1 saw w.split w.walk w.kept w.made v.2 v.3 v.4

-- a worker at whose door no connection will come any more
pub works_to_the_end : (terms : Terms) (inputs : List (List ℕ)) (coming coming' : Option (List (List ℕ)))
    (kept mid kept' : Option (List ConnState)) (mine made told mine' : Option History) (saw_close : Bool)
    → IsWorking terms inputs coming kept mid mine made
    → ((left : List (List ℕ)) → coming ≡ Some left → HasVisited terms left coming' mid kept' made told visit.Ended)
    → HasLeft told mine' saw_close
    → HasWorked terms inputs coming' kept kept' mine mine' saw_close true
works_to_the_end terms inputs coming coming' kept mid kept' mine made told mine' saw_close w visits leave =
    let v = visits w.rest w.left in
    last_ended terms inputs coming' kept mid kept' mine made told mine' saw_close leave.0 w.taken w.rest w.conns v.0 w.calls v.1 w.split w.walk w.kept w.made v.2 v.3 v.4 leave.1 leave.2 leave.3

-- a worker whose door failed
pub works_till_failure : (terms : Terms) (inputs : List (List ℕ)) (coming coming' : Option (List (List ℕ)))
    (kept mid kept' : Option (List ConnState)) (mine made told mine' : Option History) (saw_close : Bool)
    → IsWorking terms inputs coming kept mid mine made
    → ((left : List (List ℕ)) → coming ≡ Some left → HasVisited terms left coming' mid kept' made told visit.Failed)
    → HasLeft told mine' saw_close
    → HasWorked terms inputs coming' kept kept' mine mine' saw_close false
works_till_failure terms inputs coming coming' kept mid kept' mine made told mine' saw_close w visits leave =
    let v = visits w.rest w.left in
    last_failed terms inputs coming' kept mid kept' mine made told mine' saw_close leave.0 w.taken w.rest w.conns v.0 w.calls v.1 w.split w.walk w.kept w.made v.2 v.3 v.4 leave.1 leave.2 leave.3

-- a look that served a connection
pub opens_or_closes : (v : Visit) (Saw : Type 0) → (v ≡ visit.Open) ⊎ ((v ≡ visit.Closed) × Saw) → (v ≡ visit.Open) ⊎ (v ≡ visit.Closed)
opens_or_closes v Saw (inl e) = inl e
opens_or_closes v Saw (inr e) = inr e.0
