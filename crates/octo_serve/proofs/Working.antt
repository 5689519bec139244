-- Each step of a worker keeps the rule.
use Rattle.std.proofs.Common.{◌≡◌, ℕ, suc, Bool, true, false, [], ◌∷◌, ◌++◌, get_or, set, sym, refl, ap, ◌∙◌, subst, inl, ⊎_elim, arith, Option, Some, None, length-set}
use Rattle.std.proofs.lemmas.Bool.{true≢false}
use Rattle.std.proofs.lemmas.List.{append-nil}
use mathlib.Core.Logic.{dite}
use mathlib.Core.Option.{none, some}
use native.Mathlib.Decide.{ℕ_discrete}
use lib.ListN.{get_elem?}
use Rattle.atomic_table.specs.Table.{State, Me, step, Act, keeps, takes, gives, Allows}
use Rattle.atomic_table.proofs.Lists.{set_here, set_else}
use Rattle.octo_asks.specs.declared.request.Ask.{Ask}
use Rattle.octo_asks.specs.declared.answer.Answer.{Answer}
use Rattle.octo_serve.specs.declared.board.Letter.{Letter}
use Rattle.octo_serve.specs.declared.board.Letter.TheVariants.{Asked, Answered}
use Rattle.octo_serve.specs.declared.board.Stage.{Stage}
use Rattle.octo_serve.specs.declared.board.Stage.TheVariants.{Resting, Writing, Waiting, Found, Withdrawn}
use Rattle.octo_serve.specs.declared.board.WorkerView.{WorkerView}
use Rattle.octo_serve.specs.declared.board.View.{View}
use Rattle.octo_serve.specs.declared.board.View.TheVariants.{Worker}
use Rattle.octo_serve.specs.Views.{Known, known_of, taken_of}
use Rattle.octo_serve.specs.Rule.{Kept, AtStage, AtSeat, IsOpen, IsTaken, IsAnswered, Slot, note_word}
use Rattle.octo_serve.specs.Steps.{Taken, slot_taken, ask_put, answer_looked_for, idle_put, close_looked_for, found_call, at_rest}
use Rattle.octo_serve.proofs.Frames.{St, seated, part, moves, loads}

-- what the rule says of a worker at this stage
stage_part : (s : St) (k : Kept s) (id : ℕ) (v : WorkerView) (stage : Stage) → get_elem? s.views id ≡ some (Worker v) → v.stage ≡ stage
    → AtStage (known_of k.house v.number) (get_or s.words (suc v.number) 0) (get_elem? s.homes v.number) v.number v.mine stage
stage_part s k id v stage at is = subst (AtStage (known_of k.house v.number) (get_or s.words (suc v.number) 0)
    (get_elem? s.homes v.number) v.number v.mine) is (part s k id v at).2

pub takes_slot : (slots id : ℕ) (v : WorkerView) → v.stage ≡ Resting
    → Allows Kept slots id (Worker v, []) (suc v.number) (λ n. n) (slot_taken (step slots (suc v.number) 0 0 none) (Worker v, []))
takes_slot slots id v is s k deep at fits = let p = part s k id v at in let q = stage_part s k id v Resting at is in let near = (seated s k id v at).0 in
    let w : ℕ = v.number in let long = k.deep in (
      Worker (record v { stage = Writing }),
      takes w q.2.0,
      q.2.1,
      loads s k id (suc w) v (record v { stage = Writing }) (set s.homes w none) at (length-set s.homes w none) (λ j other. set_else s.homes w j none other)
          (p.0, p.1, (q.0, q.1)),
      (q.2.0, refl),
    )

pub puts_ask : (slots id : ℕ) (v : WorkerView) (ask : Ask) → v.stage ≡ Writing
    → Allows Kept slots id (Worker v, (v.number, Some (Asked ask)) ∷ []) (suc v.number) (λ _. 1) (λ _. ask_put (step slots (suc v.number) 1 0 none)
    (Worker v, (v.number, Some (Asked ask)) ∷ []) 1)
puts_ask slots id v ask is s k deep at fits = let p = part s k id v at in let q = stage_part s k id v Writing at is in let near = (seated s k id v at).0 in
    let w : ℕ = v.number in let long = k.deep in
    let letter : Option Letter = Some (Asked ask) in (
      Worker (record v { stage = Waiting ask }),
      gives,
      tt,
      moves s k id v (record v { stage = Waiting ask }) 1 (set s.homes w (some letter)) at (length-set s.homes w (some letter))
          (λ j other. set_else s.homes w j (some letter) other)
          (p.0, p.1, inl (refl, q.1, set_here s.homes w (some letter) (omega arith))),
      refl,
    )

abbrev asked_or : Ask → Stage → Ask
asked_or d (Waiting ask) = ask
asked_or d _ = d

not_taken : (known : Known) (ask : Ask) → known.taken ≡ Some ask → known.taken ≡ None → ⊥
not_taken known ask e f = apart (sym f ∙ e)
  where
    given_by : Option Ask → Type 0
    given_by None = Unit {0}
    given_by (Some _) = ⊥

    apart : None ≡ Some ask → ⊥
    apart e = subst given_by e tt

pub looks_for_answer : (slots id : ℕ) (v : WorkerView) (ask : Ask) → v.stage ≡ Waiting ask
    → Allows Kept slots id (Worker v, []) (suc v.number) (λ n. n) (answer_looked_for (step slots (suc v.number) 0 0 none) (Worker v, []))
looks_for_answer slots id v ask is s k deep at fits = ⊎_elim
    (λ (o : IsOpen known word slot w v.mine ask). unread v.saw_close refl o.0 (λ saw. (o.0, o.1, (Some (Asked ask), o.2), p.1 saw)))
    (λ t. ⊎_elim (λ (o : IsTaken known word slot w v.mine ask). unread v.saw_close refl o.0 (λ saw. absurd (not_taken known ask o.1 (ap (taken_of w)
    (k.close (p.1 saw))))))
    (λ (o : IsAnswered known word slot w v.mine ask). read o) t) q
  where
    w : ℕ
    w = v.number

    word : ℕ
    word = get_or s.words (suc w) 0

    slot : Slot
    slot = get_elem? s.homes w

    known : Known
    known = known_of k.house w

    p : AtSeat known word slot w (some (Worker v))
    p = part s k id v at

    q : AtStage known word slot w v.mine (Waiting ask)
    q = stage_part s k id v (Waiting ask) at is

    Then : View → Taken → Type 0
    Then view taken = answer_looked_for (step slots (suc w) 0 0 none) (Worker v, []) word (view, taken)

    Result : Type 0
    Result = (new : View) × (a : Act (Option Letter)) × Rattle.atomic_table.specs.Table.Valid s.homes [] a
        × Kept (Rattle.atomic_table.specs.Table.stepped s (suc w) word id [] new a)
        × answer_looked_for (step slots (suc w) 0 0 none) (Worker v, []) word (new, Rattle.atomic_table.specs.Table.carried_after [] a)

    same : (a : Ask) → v.stage ≡ Waiting a → ask ≡ a
    same a is' = ap (asked_or ask) (sym is ∙ is')

    unread : (b : Bool) → v.saw_close ≡ b → word ≡ 1 → (v.saw_close ≡ true → AtStage known word slot w v.mine (Withdrawn ask)) → Result
    unread true saw one gone = (
      Worker (record v { stage = Withdrawn ask }),
      keeps,
      tt,
      loads s k id (suc w) v (record v { stage = Withdrawn ask }) s.homes at refl (λ j other. refl) (p.0, p.1, gone saw),
      λ a is'. (
        (λ two. absurd (omega arith)),
        (λ _ _. ap (λ (z : Ask). (Worker (record v { stage = Withdrawn z }), [])) (same a is')),
        λ _ not. absurd (true≢false (sym saw ∙ not)),
      ),
    )
    unread false not one gone = (
      Worker v,
      keeps,
      tt,
      loads s k id (suc w) v v s.homes at refl (λ j other. refl) p,
      λ a is'. ((λ two. absurd (omega arith)), (λ _ saw. absurd (true≢false (sym saw ∙ not))), λ _ _. refl),
    )

    read : IsAnswered known word slot w v.mine ask → Result
    read o = let moment : ℕ = o.1 in let answer : Answer = o.2 in (
      Worker (record v { stage = Found ask moment answer }),
      takes w (Some (Answered moment answer)),
      o.4,
      loads s k id (suc w) v (record v { stage = Found ask moment answer }) (set s.homes w none) at (length-set s.homes w none)
          (λ j other. set_else s.homes w j none other) (p.0, p.1, (o.0, o.3)),
      λ a is'. (
        (λ _. (moment, answer, ap (λ (z : Ask). (Worker (record v { stage = Found z moment answer }), (w, Some (Answered moment answer)) ∷ [])) (same a is'))),
        (λ other _. absurd (other o.0)),
        λ other _. absurd (other o.0),
      ),
    )

pub puts_idle : (slots id : ℕ) (v : WorkerView) (ask : Ask) (moment : ℕ) (answer : Answer) (letter : Option Letter) → v.stage ≡ Found ask moment answer
    → Allows Kept slots id (Worker v, (v.number, letter) ∷ []) (suc v.number) (λ _. 0) (λ _. idle_put (step slots (suc v.number) 0 0 none) (
      Worker v,
      (v.number, letter) ∷ [],
    ) 0)
puts_idle slots id v ask moment answer letter is s k deep at fits = let p = part s k id v at in
    let q = stage_part s k id v (Found ask moment answer) at is in let near = (seated s k id v at).0 in let w : ℕ = v.number in let long = k.deep in (
      Worker (at_rest v),
      gives,
      tt,
      moves s k id v (at_rest v) 0 (set s.homes w (some letter)) at (length-set s.homes w (some letter)) (λ j other. set_else s.homes w j (some letter) other)
          (p.0, p.1, (refl, (q.1.0, q.1.1 ∙ ap (λ (z : Stage). v.mine ++ found_call w z) (sym is)), (letter, set_here s.homes w (some letter) (omega arith)))),
      refl,
    )

pub withdraws : (slots id : ℕ) (v : WorkerView) (ask : Ask) → v.stage ≡ Withdrawn ask
    → Allows Kept slots id (Worker v, []) (suc v.number) (λ _. 0) (λ _. idle_put (step slots (suc v.number) 0 0 none) (Worker v, []) 0)
withdraws slots id v ask is s k deep at fits = let p = part s k id v at in let q = stage_part s k id v (Withdrawn ask) at is in let w : ℕ = v.number in (
  Worker (at_rest v),
  keeps,
  tt,
  moves s k id v (at_rest v) 0 s.homes at refl (λ j other. refl) (
    p.0,
    p.1,
    (
      refl,
      (
        q.1.0,
        q.1.1 ∙ (sym (append-nil v.mine)
            ∙ ap (λ (z : Stage). v.mine ++ found_call w z) (sym is)),
      ),
      q.2,
    ),
  ),
  refl,
)

closed_of : (b : Bool) → note_word b ≡ 1 → b ≡ true
closed_of true e = refl
closed_of false e = absurd (omega arith)

pub looks_for_close : (slots id : ℕ) (v : WorkerView) (taken : Taken)
    → Allows Kept slots id (Worker v, taken) 0 (λ n. n) (close_looked_for (step slots 0 0 0 none) (Worker v, taken))
looks_for_close slots id v taken s k deep at fits = let p = part s k id v at in dite (ℕ_discrete (get_or s.words 0 0) 1)
    (λ one. (
      Worker (record v { saw_close = true }),
      keeps,
      tt,
      loads s k id 0 v (record v { saw_close = true }) s.homes at refl (λ j other. refl) (p.0, (λ _. closed_of k.house.closed (sym k.note ∙ one)), p.2),
      ((λ _. refl), λ other. absurd (other one)),
    ))
    (λ other. (Worker v, keeps, tt, loads s k id 0 v v s.homes at refl (λ j o. refl) p, ((λ one. absurd (other one)), λ _. refl)))
