-- The house's calls: what its steps leave of the seat.
use Rattle.std.proofs.Common.{◌≡◌, ◌≢◌, ℕ, ◌<◌, Bool, true, false, [], ◌∷◌, ◌++◌, sym, refl, ap, ◌∙◌, subst, arith, unwrap_or, Option, Some, None, IfSome}
use Rattle.std.proofs.lemmas.Bool.{true≢false}
use Rattle.atomic_table.specs.Table.{rest}
use Rattle.atomic_table.specs.Seated.{TableId}
use Rattle.octo_outside.specs.Recorded.{Adds}
use Rattle.octo_asks.specs.declared.request.Ask.{Ask}
use Rattle.octo_asks.specs.declared.answer.Answer.{Answer}
use Rattle.octo_asks.specs.declared.entry.Entry.{Entry}
use Rattle.octo_asks.specs.declared.entry.Entry.TheVariants as entry
use Rattle.octo_asks.specs.declared.counter.Given.{Given}
use Rattle.octo_asks.specs.History.{History, IsGiven}
use Rattle.octo_serve.specs.declared.board.Letter.{Letter}
use Rattle.octo_serve.specs.declared.board.Letter.TheVariants.{Asked, Answered}
use Rattle.octo_serve.specs.declared.board.HouseView.{HouseView}
use Rattle.octo_serve.specs.declared.board.View.TheVariants.{House}
use Rattle.octo_serve.specs.Views.{house_of, is_of_four, all_of_four}
use Rattle.octo_serve.specs.Steps.{Sitter, Taken, letter_in, ask_in, with_look, ask_from, call_with}
use Rattle.octo_serve.specs.Ends.{IsHouse, IsSized, AfterHouseLook, slots_for}
use Rattle.octo_serve.proofs.Lists.{four_more, near_four}
use Rattle.octo_serve.proofs.Sitting.{is_house, house_at}

-- the house as its seat has it, while no worker is joined
abbrev pub seated_house : Sitter → HouseView
seated_house me = record (house_of me.0) { made = 4; joined = [] }

pub made_four : (me : Sitter) → IsHouse me → (house_of me.0).made ≡ 4
made_four me is = ap (λ (m : Sitter). (house_of m.0).made) is

pub none_joined : (me : Sitter) → IsHouse me → (house_of me.0).joined ≡ []
none_joined me is = ap (λ (m : Sitter). (house_of m.0).joined) is

-- a worker whose ask is taken is one of the four
abbrev pub IsNear : Option Given → Type 0
IsNear taken = IfSome taken (λ one. one.worker < 4)

pub near_at : (taken now : Option Given) → now ≡ taken → IsNear taken → IsNear now
near_at taken now e p = subst IsNear (sym e) p

pub within_words : (a b : TableId) (w : ℕ) → a ≡ b → IsSized a → w < 5 → w < b.words
within_words a b w e sized near = subst (λ (t : TableId). w < t.words) e (let wide : a.words ≡ 5 = sized.0 in let n : w < 5 = near in omega arith)

pub sized_at : (a b : TableId) → b ≡ a → IsSized a → IsSized b
sized_at a b e sized = subst IsSized (sym e) sized

-- while the host runs, nothing is said of its end
pub still_running : (closed : Bool) (taken : Option Given) → closed ≡ false → closed ≡ true → taken ≡ None
still_running closed taken running ended = absurd (true≢false (sym ended ∙ running))

-- a history that stays has the same callers
pub same_four : (old new : History) → new ≡ old → all_of_four old ≡ true → all_of_four new ≡ true
same_four old new e all = ap all_of_four e ∙ all

-- the slot in hand, with the ask
pub in_slot : (me : Sitter) (w : ℕ) (ask : Ask) → me.1 ≡ (w, Some (Asked ask)) ∷ [] → me.1 ≡ (w, Some (Asked ask)) ∷ rest me.1
in_slot me w ask all = all ∙ ap (λ (l : Taken). (w, Some (Asked ask)) ∷ rest l) (sym all)

-- a look that showed no ask
module _ (old new : Sitter) (w found : ℕ) (is : IsHouse old) (untaken : (house_of old.0).taken ≡ None) (e : new ≡ (
  House (with_look
      (house_of old.0) w found),
  [],
)) where
  pub missed_seat : IsHouse new
  missed_seat = is_house new (with_look (house_of old.0) w found) [] e (made_four old is) (none_joined old is) (ap slots_for (sym untaken))

  pub missed_near : IsNear (house_of new.0).taken
  missed_near = near_at None (house_of new.0).taken (ap (λ (m : Sitter). (house_of m.0).taken) e ∙ untaken) tt

  pub missed_look : found ≢ 1 → AfterHouseLook w (house_of old.0) None (house_of new.0)
  missed_look other = (found, other, ap (λ (m : Sitter). house_of m.0) e)

-- a look that showed an ask, which was taken
module _ (old mid new : Sitter) (w found : ℕ) (ask result : Ask) (letter : Option Letter) (is : IsHouse old)
    (e : mid ≡ (House (record (with_look (house_of old.0) w found) { taken = ask_from w ask }), (w, Some (Asked ask)) ∷ []))
    (hand : mid.1 ≡ (w, letter) ∷ rest mid.1) (x : new ≡ (mid.0, (w, None) ∷ rest mid.1)) where
  pub hit_letter : letter ≡ Some (Asked ask)
  hit_letter = ap letter_in (sym hand ∙ ap (λ (m : Sitter). m.1) e)

  pub hit_at : new ≡ (House (record (with_look (house_of old.0) w found) { taken = ask_from w ask }), (w, None) ∷ [])
  hit_at = x ∙ ap (λ (m : Sitter). (m.0, (w, None) ∷ rest m.1)) e

  pub hit_seat : IsHouse new
  hit_seat = is_house new (record (with_look (house_of old.0) w found) { taken = ask_from w ask }) ((
    w,
    None,
  ) ∷ []) hit_at (made_four old is) (none_joined old is) refl

  pub hit_near : w < 4 → IsNear (house_of new.0).taken
  hit_near near = near_at (ask_from w ask) (house_of new.0).taken (ap (λ (m : Sitter). (house_of m.0).taken) hit_at) near

  pub hit_look : found ≡ 1 → ask_in letter ≡ Some result → AfterHouseLook w (house_of old.0) (Some result) (house_of new.0)
  hit_look one read = let some_same : Some ask ≡ Some result = sym (ap ask_in hit_letter) ∙ read in
      let same : ask ≡ result = ap (λ (o : Option Ask). unwrap_or o ask) some_same in
      ap (λ (m : Sitter). house_of m.0) hit_at ∙ (λ i. record (with_look (house_of old.0) w (one i)) { taken = ask_from w (same i) })

-- entries that are added
pub adds_to : (old new list : History) → new ≡ old ++ list → Adds (Some old) (Some new) list
adds_to old new list e = λ now is. (old, list, refl, ap (λ (o : Option History). unwrap_or o []) (sym is) ∙ e, refl)

-- the ask that is answered
module _ (old : Sitter) (w : ℕ) (is : IsHouse old) (asked : IsGiven w (house_of old.0).taken) where
  pub given_is : (house_of old.0).taken ≡ ask_from w asked.0.ask
  given_is = asked.1 ∙ (λ i. Some (record { worker = asked.2 i; ask = asked.0.ask }))

  pub given_at : old ≡ (House (seated_house old), (w, None) ∷ [])
  given_at = house_at old (ask_from w asked.0.ask) is given_is

  pub given_hand : old.1 ≡ (w, None) ∷ rest old.1
  given_hand = let e : old.1 ≡ (w, None) ∷ [] = ap (λ (m : Sitter). m.1) given_at in e ∙ ap (λ (l : Taken). (w, None) ∷ rest l) (sym e)

  pub given_near : IsNear (house_of old.0).taken → w < 4
  given_near near = near_at (house_of old.0).taken (ask_from w asked.0.ask) (sym given_is) near

  module _ (mid new : Sitter) (moment : ℕ) (answer : Answer) (x : mid ≡ (old.0, (w, Some (Answered moment answer)) ∷ rest old.1)) where
    pub answer_at : mid ≡ (House (seated_house old), (w, Some (Answered moment answer)) ∷ [])
    answer_at = x ∙ ap (λ (m : Sitter). (m.0, (w, Some (Answered moment answer)) ∷ rest m.1)) given_at

    abbrev pub answered_house : HouseView
    answered_house = record (seated_house old) { history = (house_of old.0).history ++ entry.Call w asked.0.ask moment answer ∷ []; taken = None }

    module _ (told : new ≡ (
      House (record (house_of mid.0) {
        history = (house_of mid.0).history ++ call_with (house_of mid.0).taken
            (letter_in mid.1);
        taken = None;
      }),
      [],
    )) where
      pub answered_at : new ≡ (House answered_house, [])
      answered_at = told ∙ (ap (λ (m : Sitter). (
        House (record (house_of m.0) {
          history = (house_of m.0).history ++ call_with (house_of m.0).taken
              (letter_in m.1);
          taken = None;
        }),
        [],
      )) answer_at
          ∙ ap (λ (t : Option Given). (
            House (record (seated_house old) {
              history = (house_of old.0).history ++ call_with t (Some
                  (Answered moment answer));
              taken = None;
            }),
            [],
          )) given_is)

      pub answered_seat : IsHouse new
      answered_seat = is_house new answered_house [] answered_at refl refl refl

      pub answered_near : IsNear (house_of new.0).taken
      answered_near = near_at None (house_of new.0).taken (ap (λ (m : Sitter). (house_of m.0).taken) answered_at) tt

      pub answered_four : w < 4 → all_of_four (house_of old.0).history ≡ true → all_of_four (house_of new.0).history ≡ true
      answered_four near all = same_four _ _ (ap (λ (m : Sitter). (house_of m.0).history) answered_at)
          (four_more (house_of old.0).history (entry.Call w asked.0.ask moment answer) (near_four w asked.0.ask moment answer near) all)

      pub answered_past : IfSome (house_of old.0).taken (λ one. Adds (Some (house_of old.0).history) (Some (house_of new.0).history)
          (entry.Call w one.ask moment answer ∷ []))
      answered_past = subst (λ (t : Option Given). IfSome t (λ one. Adds (Some (house_of old.0).history) (Some (house_of new.0).history)
          (entry.Call w one.ask moment answer ∷ [])))
          (sym given_is) (adds_to (house_of old.0).history (house_of new.0).history _ (ap (λ (m : Sitter). (house_of m.0).history) answered_at))

      pub answered_view : house_of new.0 ≡ record (house_of old.0) { history = (house_of new.0).history; taken = None }
      answered_view = let e = ap (λ (m : Sitter). house_of m.0) answered_at in
          let h : (house_of new.0).history ≡ answered_house.history = ap (λ (z : HouseView). z.history) e in
          let f : house_of old.0 ≡ seated_house old = ap (λ (m : Sitter). house_of m.0) is in
          e ∙ (λ i. record (sym f i) { history = sym h i; taken = None })

-- a note, or the end, whatever was taken
module _ (old new : Sitter) (closed : Bool) (list : History) (is : IsHouse old)
    (told : new ≡ (House (record (house_of old.0) { history = (house_of old.0).history ++ list; closed = closed }), old.1)) where
  pub grown_at : new ≡ (House (record (house_of old.0) { history = (house_of old.0).history ++ list; closed = closed }), slots_for (house_of old.0).taken)
  grown_at = told ∙ ap (λ (m : Sitter). (House (record (house_of old.0) { history = (house_of old.0).history ++ list; closed = closed }), m.1)) is

  pub grown_seat : IsHouse new
  grown_seat = is_house new (record (house_of old.0) { history = (house_of old.0).history ++ list; closed = closed }) (slots_for
      (house_of old.0).taken) grown_at (made_four old is) (none_joined old is) refl

  pub grown_taken : (house_of new.0).taken ≡ (house_of old.0).taken
  grown_taken = ap (λ (m : Sitter). (house_of m.0).taken) told

  pub grown_near : IsNear (house_of old.0).taken → IsNear (house_of new.0).taken
  grown_near near = near_at (house_of old.0).taken (house_of new.0).taken grown_taken near

  pub grown_four : (more : Entry) → list ≡ more ∷ [] → is_of_four more ≡ true → all_of_four (house_of old.0).history ≡ true
      → all_of_four (house_of new.0).history ≡ true
  grown_four more is_one one all = same_four _ _ (ap (λ (m : Sitter). (house_of m.0).history) told ∙ ap (λ (l : History). (house_of old.0).history ++ l) is_one)
      (four_more (house_of old.0).history more one all)

  pub grown_past : Adds (Some (house_of old.0).history) (Some (house_of new.0).history) list
  grown_past = adds_to (house_of old.0).history (house_of new.0).history list (ap (λ (m : Sitter). (house_of m.0).history) told)
