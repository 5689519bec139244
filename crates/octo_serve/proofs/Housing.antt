-- Each step of the house keeps the rule.
use Rattle.std.proofs.Common.{◌≡◌, ◌≢◌, ℕ, suc, ◌<◌, eqb, true, false, List, [], ◌∷◌, ◌++◌, length, get_or, set, sym, refl, ap, ◌∙◌, subst, inl, inr, ⊎_elim, arith, Option, Some, None, length-set, get_or-set_other, get_or-set_same}
use Rattle.std.proofs.lemmas.Bool.{true≢false}
use mathlib.Core.Logic.{dite}
use mathlib.Core.Option.{none, some}
use native.Mathlib.Decide.{ℕ_discrete}
use lib.ListN.{get_elem?}
use lib.Seq.{set-get_or}
use prog.Atomic.{either}
use Rattle.atomic_table.specs.Table.{State, Me, step, Act, keeps, takes, gives, Allows}
use Rattle.atomic_table.proofs.Lists.{set_here, set_else, set_again, exchanged}
use Rattle.octo_asks.specs.declared.request.Ask.{Ask}
use Rattle.octo_asks.specs.declared.answer.Answer.{Answer}
use Rattle.octo_asks.specs.declared.entry.Entry.{Entry}
use Rattle.octo_asks.specs.declared.entry.Entry.TheVariants as entry
use Rattle.octo_asks.specs.declared.counter.Given.{Given}
use Rattle.octo_asks.specs.History.{History, calls_of}
use Rattle.octo_serve.specs.declared.board.Letter.{Letter}
use Rattle.octo_serve.specs.declared.board.Letter.TheVariants.{Asked, Answered}
use Rattle.octo_serve.specs.declared.board.Stage.TheVariants.{Waiting}
use Rattle.octo_serve.specs.declared.board.HouseView.{HouseView}
use Rattle.octo_serve.specs.declared.board.View.{View}
use Rattle.octo_serve.specs.declared.board.View.TheVariants.{House, Worker}
use Rattle.octo_serve.specs.Views.{known_of, taken_of, has_close}
use Rattle.octo_serve.specs.Rule.{Kept, AtStage, AtSeat, note_word}
use Rattle.octo_serve.specs.Steps.{Taken, worker_looked_at, with_look, ask_from, answer_put, call_with, note_in, note_put, close_put, learnt}
use Rattle.octo_serve.proofs.Lists.{calls_own, calls_other, calls_close, close_call, IsAside, calls_aside, close_aside, close_close, taken_own, taken_other}
use Rattle.octo_serve.proofs.Frames.{Homes, housed, house_moves, seat_of}
use Rattle.octo_serve.proofs.Awaiting.{Asks, asks, taken_word, closes_seat, at_other, first_seat, known}
use Rattle.std.proofs.lemmas.Option.{none-some, same_Some}

pub looks : (slots id : ℕ) (h : HouseView) (w : ℕ) → w < 4 → h.taken ≡ None → h.closed ≡ false
    → Allows Kept slots id (House h, []) (suc w) (λ n. n) (worker_looked_at (step slots (suc w) 0 0 none) (House h, []))
looks slots id h w near untaken running s k deep at fits = dite (ℕ_discrete word 1) hit miss
  where
    word : ℕ
    word = get_or s.words (suc w) 0

    here : (id ≡ 0) × (k.house ≡ h)
    here = housed s k id h at

    p : Kept s
    p = k

    Goal : Type 0
    Goal = (new : View) × (a : Act (Option Letter)) × Rattle.atomic_table.specs.Table.Valid s.homes [] a
        × Kept (Rattle.atomic_table.specs.Table.stepped s (suc w) word id [] new a)
        × worker_looked_at (step slots (suc w) 0 0 none) (House h, []) word (new, Rattle.atomic_table.specs.Table.carried_after [] a)

    words : List ℕ
    words = set s.words (suc w) word

    same : words ≡ s.words
    same = set-get_or s.words (suc w) 0

    keep : (new : HouseView) (homes : Homes) → new.made ≡ h.made → new.closed ≡ h.closed → new.history ≡ h.history → new.joined ≡ h.joined
        → length homes ≡ length s.homes
        → ((j : ℕ) → j < 4 → AtSeat (known_of new j) (get_or s.words (suc j) 0) (get_elem? homes j) j (get_elem? s.views (suc j)))
        → Kept record { words = words; homes = homes; views = set s.views id (House new) }
    keep new homes made closed history joined long each = first_seat s id (House new) words homes here.0
        (subst (λ (ws : List ℕ). Kept record { words = ws; homes = homes; views = set s.views 0 (House new) }) (sym same)
        (house_moves s k new s.words homes (made ∙ ap (λ (z : HouseView). z.made) (sym here.1)) refl long
        (k.note ∙ ap note_word (ap (λ (z : HouseView). z.closed) here.1 ∙ sym closed)) (λ c. absurd (true≢false (sym c ∙ (closed ∙ running))))
        (ap has_close (history ∙ ap (λ (z : HouseView). z.history) (sym here.1)) ∙ (k.ended ∙ (ap (λ (z : HouseView). z.closed) here.1 ∙ sym closed)))
        (λ worker mine e. absurd (true≢false (sym (k.joined worker mine (ap (λ (z : List History). get_elem? z worker) (ap (λ
        (z : HouseView). z.joined) here.1 ∙ sym joined) ∙ e)).0 ∙ (ap (λ (z : HouseView). z.closed) here.1 ∙ running))))
        each))

    miss : word ≢ 1 → Goal
    miss other = let new : HouseView = with_look h w word in (
      House new,
      keeps,
      tt,
      keep new s.homes refl refl refl refl refl (seat_of s k h here.1),
      λ j e. ((λ one. absurd (other one)), λ _. ap (λ (i : ℕ). (House (with_look h i word), [])) (let z : w ≡ j = omega arith in z)),
    )

    hit : word ≡ 1 → Goal
    hit one = let a = asks (known_of h w) word (get_elem? s.homes w) w (get_elem? s.views (suc w)) (seat_of s k h here.1 w near) one running in
        let free : taken_of w h.taken ≡ None = ap (taken_of w) untaken in
        let there : get_elem? s.homes w ≡ some (some (Some (Asked a.ask))) = ⊎_elim (λ t. t.1) (λ t. absurd (none-some a.ask (sym free ∙ t))) a.there in
        let new : HouseView = record (with_look h w word) { taken = ask_from w a.ask } in (
          House new,
          takes w (Some (Asked a.ask)),
          there,
          keep new (set s.homes w none) refl refl refl refl (length-set s.homes w none)
              (λ j l. dite (ℕ_discrete j w)
              (λ e. subst (λ (i : ℕ). AtSeat (known_of new i) (get_or s.words (suc i) 0) (get_elem? (set s.homes w none) i) i (get_elem? s.views (suc i)))
              (sym e)
              (subst (AtSeat (known_of new w) word (get_elem? (set s.homes w none) w) w) (sym a.seat) (
                a.number,
                a.saw,
                subst (AtStage (known_of new w) word (get_elem? (set s.homes w none) w) w a.v.mine) (sym a.stage) (inr (inl (
                  one,
                  taken_own w a.ask,
                  a.calls,
                ))),
              )))
              (λ other. at_other (known_of h j) (known_of new j) (get_or s.words (suc j) 0) (get_or s.words (suc j) 0) (get_elem? s.homes j) (get_elem?
              (set s.homes w none) j) j (get_elem? s.views (suc j))
              (λ i. known (calls_of j h.history) ((ap (taken_of j) untaken
              ∙ sym (taken_other w j a.ask (λ e. other (sym e)))) i) h.closed) refl (sym (set_else s.homes w j none other)) (seat_of s k h here.1 j l))),
          λ j e. let z : w ≡ j = omega arith in (
            (λ _. (
              a.ask,
              ap (λ (x : ℕ × ℕ). (
                House (record (with_look h x.0 x.1) { taken = ask_from x.0 a.ask }),
                (
                  x.0,
                  Some (Asked a.ask),
                ) ∷ [],
              )) (λ i. (z i, word)),
            )),
            λ other. absurd (other one),
          ),
        )

pub answers : (slots id : ℕ) (h : HouseView) (w : ℕ) (ask : Ask) (moment : ℕ) (answer : Answer) → w < 4 → h.taken ≡ ask_from w ask → h.closed ≡ false
    → Allows Kept slots id (House h, (w, Some (Answered moment answer)) ∷ []) (suc w) (λ _. 2)
    (λ _. answer_put (step slots (suc w) 2 0 none) (House h, (w, Some (Answered moment answer)) ∷ []) 2)
answers slots id h w ask moment answer near took running s k deep at fits = (House new, gives, tt, first_seat s id (House new) words homes here.0 kept, refl)
  where
    here : (id ≡ 0) × (k.house ≡ h)
    here = housed s k id h at

    letter : Option Letter
    letter = Some (Answered moment answer)

    words : List ℕ
    words = set s.words (suc w) 2

    homes : Homes
    homes = set s.homes w (some letter)

    new : HouseView
    new = record h { history = h.history ++ call_with h.taken letter; taken = None }

    grown : h.history ++ entry.Call w ask moment answer ∷ [] ≡ new.history
    grown = ap (λ (t : Option Given). h.history ++ call_with t letter) (sym took)

    taken_is : taken_of w h.taken ≡ Some ask
    taken_is = ap (taken_of w) took ∙ taken_own w ask

    one : get_or s.words (suc w) 0 ≡ 1
    one = taken_word (known_of h w) (get_or s.words (suc w) 0) (get_elem? s.homes w) w (get_elem? s.views (suc w)) ask (seat_of s k h here.1 w near) taken_is

    a : Asks (known_of h w) (get_elem? s.homes w) w (get_elem? s.views (suc w))
    a = asks (known_of h w) (get_or s.words (suc w) 0) (get_elem? s.homes w) w (get_elem? s.views (suc w)) (seat_of s k h here.1 w near) one running

    asked : a.ask ≡ ask
    asked = ⊎_elim (λ t. absurd (none-some ask (sym t.0 ∙ taken_is))) (λ t. same_Some a.ask ask (sym t ∙ taken_is)) a.there

    mine : AtSeat (known_of new w) 2 (some (some letter)) w (some (Worker a.v))
    mine = (
      a.number,
      a.saw,
      subst (AtStage (known_of new w) 2 (some (some letter)) w a.v.mine) (sym (a.stage ∙ ap (λ (z : Ask). Waiting z) asked))
          (inr (inr (
            refl,
            moment,
            answer,
            (
              refl,
              sym (ap (calls_of w) grown) ∙ (calls_own h.history w ask moment answer
                  ∙ ap (λ (l : History). l ++ entry.Call w ask moment answer ∷ []) a.calls),
            ),
            refl,
          ))),
    )

    kept : Kept record { words = words; homes = homes; views = set s.views 0 (House new) }
    kept = let wide = k.wide in let long = k.deep in house_moves s k new words homes (ap (λ (z : HouseView). z.made) (sym here.1)) (length-set s.words
        (suc w) 2) (length-set s.homes w (some letter))
        (get_or-set_other s.words (suc w) 0 2 0 (λ e. omega arith) ∙ (k.note ∙ ap (λ (z : HouseView). note_word z.closed) here.1)) (λ _. refl)
        (sym (ap has_close grown) ∙ (close_call h.history w ask moment answer ∙ (ap (λ (z : HouseView). has_close z.history) (sym here.1) ∙ (k.ended
        ∙ ap (λ (z : HouseView). z.closed) here.1))))
        (λ worker m e. absurd (true≢false (sym (k.joined worker m (ap (λ (z : HouseView). get_elem? z.joined worker) here.1 ∙ e)).0
        ∙ (ap (λ (z : HouseView). z.closed) here.1 ∙ running))))
        (λ j l. dite (ℕ_discrete j w)
        (λ e. subst (λ (i : ℕ). AtSeat (known_of new i) (get_or words (suc i) 0) (get_elem? homes i) i (get_elem? s.views (suc i))) (sym e)
        (subst (AtSeat (known_of new w) (get_or words (suc w) 0) (get_elem? homes w) w) (sym a.seat)
        (at_other (known_of new w) (known_of new w) 2 (get_or words (suc w) 0) (some (some letter)) (get_elem? homes w) w (some (Worker a.v)) refl (sym
        (get_or-set_same s.words (suc w) 2 0 (omega arith))) (sym (set_here s.homes w (some letter) (omega arith))) mine)))
        (λ other. at_other (known_of h j) (known_of new j) (get_or s.words (suc j) 0) (get_or words (suc j) 0) (get_elem? s.homes j) (get_elem? homes j) j
        (get_elem? s.views (suc j))
        (λ i. known ((sym (calls_other h.history w j ask moment answer (λ e. other (sym e))) ∙ ap (calls_of j) grown) i) ((ap (taken_of j) took
        ∙ taken_other w j ask (λ e. other (sym e))) i) h.closed)
        (sym (get_or-set_other s.words (suc w) (suc j) 2 0 (λ e. other (omega arith)))) (sym (set_else s.homes w j (some letter) other)) (seat_of s k h here.1 j l)))

-- an entry is said that is no worker's call
pub notes : (slots id : ℕ) (h : HouseView) (letter : Letter) (more : Entry) (taken : Taken) → note_in (some (Some letter)) ≡ more ∷ [] → IsAside more
    → h.closed ≡ false
    → Allows Kept slots id (House h, taken) 0 (λ n. either (eqb n 0) 0 n) (note_put (step slots 0 0 0 (some (Some letter))) (House h, taken))
notes slots id h letter more taken says aside running s k deep at fits = (House new, keeps, tt, first_seat s id (House new) words s.homes here.0 kept, ap (λ (es : History). (House (record h { history = h.history ++ es }), taken)) (sym says))
  where
    here : (id ≡ 0) × (k.house ≡ h)
    here = housed s k id h at

    new : HouseView
    new = record h { history = h.history ++ more ∷ [] }

    word : ℕ
    word = get_or s.words 0 0

    words : List ℕ
    words = set s.words 0 (either (eqb word 0) 0 word)

    same : words ≡ s.words
    same = ap (set s.words 0) (exchanged word 0 0 (λ n. n ≡ word) (λ e. sym e) (λ _. refl)) ∙ set-get_or s.words 0 0

    kept : Kept record { words = words; homes = s.homes; views = set s.views 0 (House new) }
    kept = subst (λ (ws : List ℕ). Kept record { words = ws; homes = s.homes; views = set s.views 0 (House new) }) (sym same)
        (house_moves s k new s.words s.homes (ap (λ (z : HouseView). z.made) (sym here.1)) refl refl (k.note
        ∙ ap (λ (z : HouseView). note_word z.closed) here.1)
        (λ c. absurd (true≢false (sym c ∙ running)))
        (close_aside h.history more aside.0 ∙ (ap (λ (z : HouseView). has_close z.history) (sym here.1) ∙ (k.ended ∙ ap (λ (z : HouseView). z.closed) here.1)))
        (λ worker m e. absurd (true≢false (sym (k.joined worker m (ap (λ (z : HouseView). get_elem? z.joined worker) here.1 ∙ e)).0
        ∙ (ap (λ (z : HouseView). z.closed) here.1 ∙ running))))
        (λ j l. at_other (known_of k.house j) (known_of new j) (get_or s.words (suc j) 0) (get_or s.words (suc j) 0) (get_elem? s.homes j)
        (get_elem? s.homes j) j (get_elem? s.views (suc j))
        (λ i. known ((ap (λ (z : HouseView). calls_of j z.history) here.1
        ∙ sym (calls_aside h.history j more (aside.1 j l))) i) (taken_of j (here.1 i).taken) (here.1 i).closed) refl refl (k.each j l)))

pub closes : (slots id : ℕ) (h : HouseView) (taken : Taken) → h.taken ≡ None → h.closed ≡ false
    → Allows Kept slots id (House h, taken) 0 (λ _. 1) (λ _. close_put (step slots 0 1 0 none) (House h, taken) 1)
closes slots id h taken untaken running s k deep at fits = (House new, keeps, tt, first_seat s id (House new) words s.homes here.0 kept, refl)
  where
    here : (id ≡ 0) × (k.house ≡ h)
    here = housed s k id h at

    new : HouseView
    new = record h { history = h.history ++ entry.Close ∷ []; closed = true }

    words : List ℕ
    words = set s.words 0 1

    kept : Kept record { words = words; homes = s.homes; views = set s.views 0 (House new) }
    kept = let wide = k.wide in house_moves s k new words s.homes (ap (λ (z : HouseView). z.made) (sym here.1)) (length-set s.words 0 1) refl
        (get_or-set_same s.words 0 1 0 (omega arith)) (λ _. untaken)
        (close_close h.history)
        (λ worker m e. absurd (true≢false (sym (k.joined worker m (ap (λ (z : HouseView). get_elem? z.joined worker) here.1 ∙ e)).0
        ∙ (ap (λ (z : HouseView). z.closed) here.1 ∙ running))))
        (λ j l. at_other (record (known_of k.house j) { closed = true }) (known_of new j) (get_or s.words (suc j) 0) (get_or words (suc j) 0)
        (get_elem? s.homes j) (get_elem? s.homes j) j (get_elem? s.views (suc j))
        (λ i. known ((ap (λ (z : HouseView). calls_of j z.history) here.1 ∙ sym (calls_close h.history j)) i) (taken_of j (here.1 i).taken) true)
        (sym (get_or-set_other s.words 0 (suc j) 1 0 (λ e. omega arith))) refl (closes_seat (known_of k.house j) (get_or s.words (suc j) 0)
        (get_elem? s.homes j) j (get_elem? s.views (suc j)) (k.each j l)))

pub learns : (slots id : ℕ) (h : HouseView) → Allows Kept slots id (House h, []) 0 (λ n. n) (learnt (step slots 0 0 0 none) (House h, []))
learns slots id h s k deep at fits = let here = housed s k id h at in (
  House h,
  keeps,
  tt,
  subst (λ (z : List ℕ × List View). Kept record { words = z.0; homes = s.homes; views = z.1 }) (λ i. (
    sym (set-get_or s.words 0 0) i,
    sym (set_again s.views id (House h) at) i,
  )) k,
  (
    refl,
    subst (λ (z : HouseView). has_close z.history ≡ z.closed) here.1 k.ended,
    λ worker mine e. (subst (λ (z : HouseView). (worker : ℕ) (mine : History) → get_elem? z.joined worker ≡ some mine
        → (z.closed ≡ true) × (calls_of worker z.history ≡ mine)) here.1 k.joined worker mine e).1,
  ),
)
