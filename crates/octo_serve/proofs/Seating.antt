-- The table at its start, seats that are made, and seats that are joined.
use Rattle.std.proofs.Common.{◌≡◌, ℕ, zero, suc, ◌+◌, ◌<◌, ◌≤◌, true, [], ◌∷◌, ◌++◌, length, replicate, get_or, set, sym, refl, ap, ◌∙◌, subst, arith, None, length-set, length-append}
use Rattle.std.proofs.lemmas.Bool.{true≢false}
use mathlib.Core.Logic.{dite}
use mathlib.Core.Option.{none, some, some-injective, some-ne-none}
use native.Mathlib.Decide.{ℕ_discrete}
use lib.ListN.{get_elem?}
use Rattle.atomic_table.specs.Table.{opening, Splits, Joins}
use Rattle.atomic_table.proofs.Lists.{set_here, set_else, at_longer, at_last}
use Rattle.octo_asks.specs.History.{History, calls_of}
use Rattle.octo_serve.specs.declared.board.Stage.TheVariants.{Resting}
use Rattle.octo_serve.specs.declared.board.WorkerView.{WorkerView}
use Rattle.octo_serve.specs.declared.board.HouseView.{HouseView}
use Rattle.octo_serve.specs.declared.board.View.{View}
use Rattle.octo_serve.specs.declared.board.View.TheVariants.{House, Worker, Spent}
use Rattle.octo_serve.specs.Views.{known_of, new_worker, new_house}
use Rattle.octo_serve.specs.Rule.{Kept, AtStage, AtSeat, Slot}
use Rattle.octo_serve.specs.Steps.{house_left, worker_right, joined_with}
use Rattle.octo_serve.proofs.Lists.{within, beyond, at_end_else}
use Rattle.octo_serve.proofs.Frames.{housed, seated, part, seat_of}

first_seats : (w : ℕ) → w < 4 → AtSeat (known_of new_house w) (get_or (0 ∷ 0 ∷ 0 ∷ 0 ∷ 0 ∷ []) (suc w) 0) (get_elem?
    (some None ∷ some None ∷ some None ∷ some None ∷ []) w) w (get_elem? (House new_house ∷ []) (suc w))
first_seats zero l = (refl, refl, refl, (None, refl))
first_seats (suc zero) l = (refl, refl, refl, (None, refl))
first_seats (suc (suc zero)) l = (refl, refl, refl, (None, refl))
first_seats (suc (suc (suc zero))) l = (refl, refl, refl, (None, refl))
first_seats (suc (suc (suc (suc w)))) l = absurd (omega arith)

pub opens : Kept (opening (0 ∷ 0 ∷ 0 ∷ 0 ∷ 0 ∷ []) (replicate 4 None) (House new_house))
opens = record {
  house = new_house;
  seat = refl;
  made = (refl, omega arith);
  wide = refl;
  deep = refl;
  note = refl;
  close = λ e. absurd (true≢false (sym e));
  ended = refl;
  joined = λ worker mine e. absurd (some-ne-none mine (sym e));
  each = first_seats;
}

pub splits : (id : ℕ) (h : HouseView) → h.made < 4 → Splits Kept id (House h) (house_left (House h)) (worker_right (House h))
splits id h room s k at = let here = housed s k id h at in
    subst (λ (i : ℕ). Kept record { words = s.words; homes = s.homes; views = set s.views i (House new) ++ right ∷ [] }) (sym here.0) record {
      house = new;
      seat = at_longer (set s.views 0 (House new)) (right ∷ []) 0 (House new) (set_here s.views 0 (House new) (within s.views 0 (House k.house) k.seat));
      made = (
        length-append (set s.views 0 (House new)) (right ∷ []) ∙ (let a : length (set s.views 0 (House new)) ≡ suc h.made = long here.1 in
            let g : length (set s.views 0 (House new)) + 1 ≡ suc (h.made + 1) = omega arith in g),
        (let g : h.made + 1 ≤ 4 = omega arith in g),
      );
      wide = k.wide;
      deep = k.deep;
      note = subst (λ (z : HouseView). get_or s.words 0 0 ≡ Rattle.octo_serve.specs.Rule.note_word z.closed) here.1 k.note;
      close = subst (λ (z : HouseView). z.closed ≡ true → z.taken ≡ None) here.1 k.close;
      ended = subst (λ (z : HouseView). Rattle.octo_serve.specs.Views.has_close z.history ≡ z.closed) here.1 k.ended;
      joined = subst (λ (z : HouseView). (worker : ℕ) (mine : History) → get_elem? z.joined worker ≡ some mine
          → (z.closed ≡ true) × (calls_of worker z.history ≡ mine)) here.1 k.joined;
      each = each here.1;
    }
  where
    new : HouseView
    new = record h { made = h.made + 1 }

    right : View
    right = Worker (new_worker h.made)

    long : k.house ≡ h → length (set s.views 0 (House new)) ≡ suc h.made
    long is = length-set s.views 0 (House new) ∙ (k.made.0 ∙ ap (λ (z : HouseView). suc z.made) is)

    fresh : (j : ℕ) (l : j < 4) (is : k.house ≡ h) → j ≡ h.made → AtSeat (known_of h j) (get_or s.words (suc j) 0) (get_elem? s.homes j) j (some right)
    fresh j l is e = let lone : get_elem? s.views (suc j) ≡ none = ap (get_elem? s.views) (ap suc e ∙ sym (k.made.0
        ∙ ap (λ (z : HouseView). suc z.made) is)) ∙ beyond s.views in
        let p = subst (AtSeat (known_of h j) (get_or s.words (suc j) 0) (get_elem? s.homes j) j) lone (seat_of s k h is j l) in
        (sym e, (λ f. absurd (true≢false (sym f))), (p.0, (p.1, p.2), p.3))

    each : k.house ≡ h → (j : ℕ) → j < 4 → AtSeat (known_of new j) (get_or s.words (suc j) 0) (get_elem? s.homes j) j (get_elem? (set s.views 0
        (House new) ++ right ∷ []) (suc j))
    each is j l = dite (ℕ_discrete j h.made)
        (λ e. subst (AtSeat (known_of new j) (get_or s.words (suc j) 0) (get_elem? s.homes j) j) (sym (at_last (set s.views 0 (House new)) right (suc j)
        (long is ∙ ap suc (sym e)))) (fresh j l is e))
        (λ other. subst (AtSeat (known_of new j) (get_or s.words (suc j) 0) (get_elem? s.homes j) j)
        (sym (at_end_else (set s.views 0 (House new)) right (suc j) (λ e. let n = long is in other (omega arith))
        ∙ set_else s.views 0 (suc j) (House new) (λ e. omega arith))) (seat_of s k h is j l))

pub joins : (id : ℕ) (h : HouseView) (other : ℕ) (v : WorkerView) → h.closed ≡ true → v.stage ≡ Resting → v.number ≡ length h.joined
    → Joins Kept id (House h) other (Worker v) (joined_with (House h) (Worker v)) Spent
joins id h other v closed is order s k at apart there =
    subst (λ (i : ℕ). Kept record { words = s.words; homes = s.homes; views = set (set s.views i (House new)) other Spent }) (sym here.0) record {
      house = new;
      seat = set_else (set s.views 0 (House new)) other 0 Spent (λ e. let z = q.1 in omega arith)
          ∙ set_here s.views 0 (House new) (within s.views 0 (House k.house) k.seat);
      made = (
        length-set (set s.views 0 (House new)) other Spent ∙ (length-set s.views 0 (House new) ∙ (k.made.0
            ∙ ap (λ (z : HouseView). suc z.made) here.1)),
        subst (λ (z : HouseView). z.made ≤ 4) here.1 k.made.1,
      );
      wide = k.wide;
      deep = k.deep;
      note = subst (λ (z : HouseView). get_or s.words 0 0 ≡ Rattle.octo_serve.specs.Rule.note_word z.closed) here.1 k.note;
      close = subst (λ (z : HouseView). z.closed ≡ true → z.taken ≡ None) here.1 k.close;
      ended = subst (λ (z : HouseView). Rattle.octo_serve.specs.Views.has_close z.history ≡ z.closed) here.1 k.ended;
      joined = λ worker mine e. (
        closed,
        dite (ℕ_discrete worker (length h.joined))
            (λ last. ap (λ (i : ℕ). calls_of i h.history) (last ∙ sym order) ∙ (calls
            ∙ some-injective _ _ (sym (at_last h.joined v.mine worker (sym last)) ∙ e)))
            (λ before. (old_joined worker mine (sym (at_end_else h.joined v.mine worker before) ∙ e)).1),
      );
      each = λ j l. dite (ℕ_discrete j v.number)
          (λ e. subst (AtSeat (known_of new j) (get_or s.words (suc j) 0) (get_elem? s.homes j) j)
          (sym (ap (get_elem? (set (set s.views 0 (House new)) other Spent)) (ap suc e ∙ sym q.1)
          ∙ set_here (set s.views 0 (House new)) other Spent (within (set s.views 0 (House new)) other (Worker v) there0)))
          (closed, ap (Rattle.octo_serve.specs.Views.taken_of j) untaken))
          (λ apart'. subst (AtSeat (known_of new j) (get_or s.words (suc j) 0) (get_elem? s.homes j) j)
          (sym (set_else (set s.views 0 (House new)) other (suc j) Spent (λ e. let z = q.1 in apart' (omega arith))
          ∙ set_else s.views 0 (suc j) (House new) (λ e. omega arith))) (seat_of s k h here.1 j l));
    }
  where
    here : (id ≡ 0) × (k.house ≡ h)
    here = housed s k id h at

    new : HouseView
    new = record h { joined = h.joined ++ v.mine ∷ [] }

    at' : get_elem? s.views other ≡ some (Worker v)
    at' = sym (set_else s.views id other (House new) apart) ∙ there

    there0 : get_elem? (set s.views 0 (House new)) other ≡ some (Worker v)
    there0 = subst (λ (i : ℕ). get_elem? (set s.views i (House new)) other ≡ some (Worker v)) here.0 there

    q : (v.number < 4) × (other ≡ suc v.number)
    q = seated s k other v at'

    untaken : h.taken ≡ None
    untaken = subst (λ (z : HouseView). z.closed ≡ true → z.taken ≡ None) here.1 k.close closed

    calls : calls_of v.number h.history ≡ v.mine
    calls = subst (λ (z : HouseView). calls_of v.number z.history ≡ v.mine) here.1
        ((subst (AtStage (known_of k.house v.number) (get_or s.words (suc v.number) 0) (get_elem? s.homes v.number) v.number v.mine) is
        (part s k other v at').2).1.1)

    old_joined : (worker : ℕ) (mine : History) → get_elem? h.joined worker ≡ some mine → (h.closed ≡ true) × (calls_of worker h.history ≡ mine)
    old_joined = subst (λ (z : HouseView). (worker : ℕ) (mine : History) → get_elem? z.joined worker ≡ some mine
        → (z.closed ≡ true) × (calls_of worker z.history ≡ mine)) here.1 k.joined
