-- What holds of a floor after a run's rounds.
use Rattle.std.proofs.Common.{◌≡◌, inl, ℕ, ◌<◌, Bool, true, false, List, [], ◌∷◌, ◌++◌, length, Option, None, Some, refl, sym, ◌∙◌, ap, subst, append-nil, arith}
use Rattle.std.specs.Prelude.{slice_get}
use Rattle.std.proofs.lemmas.Bool.{false≢true}
use Rattle.std.proofs.lemmas.Option.{slice_get_within}
use Rattle.octo_floor_bay.specs.Bay.{BayData}
use Rattle.octo_floor_bay.specs.declared.deed.Deed.{Deed}
use Rattle.octo_floor_bay.specs.declared.deed.Deed.TheVariants as deed
use Rattle.octo_floor_bay.specs.Events.{FloorHistory}
use Rattle.octo_floor_bay.specs.declared.end.FloorFault.{FloorFault}
use Rattle.octo_floor_bay.specs.declared.end.Why.{Why}
use Rattle.octo_floor.specs.Ledger.{LedgerData}
use Rattle.printer_link.specs.Calls.{LinkState}
use Rattle.octo_floor.specs.Objects.{StoreState, FaultsCame}
use Rattle.octo_floor.specs.Phases.{IsAtRest}
use Rattle.octo_floor.proofs.Faults.{none_came}
use Rattle.octo_floor.specs.Floor.{FloorData, IsFloor, Setting, setting, AreUp}
use Rattle.octo_floor.specs.Leaving.{AreIdle, IsDisconnected, AreDisconnected, Leaves, disconnected_unless}
use Rattle.octo_floor.specs.Points.{HaveNotes, TakesCopies, Does, GoesOn}
use Rattle.octo_floor.specs.Tables.{AreKept}
use Rattle.octo_floor.proofs.Opens.{open_round}
use Rattle.octo_floor.specs.Round.{IsRound}
use Rattle.octo_floor.specs.Run.{IsOpen, HaveLeft, NothingToStart, EndsFor, is_lost, reason_of}
use Rattle.octo_floor.proofs.Floors.{all_at}
use Rattle.octo_floor.proofs.Goes.{GoesWell, well_round}
use Rattle.octo_floor.proofs.Going.{goes_then, goes_same}
use Rattle.octo_floor.proofs.Gone.{AllGone, gone_round, nothing_stays, over_nothing}
use Rattle.octo_floor.proofs.Leaves.{IsLeft, bay_left}
use Rattle.octo_floor.proofs.Places.{place, same_place}

-- the printers leave: each is gone, and if they were open at first nothing is left to start
pub record IsLeaving (first now : FloorData) : Type 0 where
  pub began : now.began ≡ true
  pub gone : AllGone now
  pub nothing : IsOpen first → now.ledger.fault ≡ None → NothingToStart now

module _ (x : Setting) (g : FloorData) (f : IsFloor x.floor) (up : AreUp x.floor.bays x.links) (left : AreDisconnected (length x.floor.bays) x.floor g) where
  abbrev y : Setting
  y = setting g x.links x.store

  within : (j : ℕ) (b : BayData) → slice_get g.bays j ≡ Some b → j < length x.floor.bays
  within j b its = let so = slice_get_within g.bays j b its in let same = left.bays in omega (arith, so, same)

  was : (j : ℕ) (b : BayData) → slice_get g.bays j ≡ Some b → (a : BayData) × (slice_get x.floor.bays j ≡ Some a) × IsDisconnected a b × IsLeft a.session b.session
  was j b its =
      let a = place x.floor.bays j (within j b its) in
      let d = left.first j a.0 b (within j b its) a.1 its in
      (a.0, a.1, d, bay_left a.0 b (all_at (λ (c : BayData). IsAtRest c.session) x.floor.bays j a.0 f.at_rest a.1) d)

  -- the deed of a disconnect
  left_deeds : (b c : BayData) → (l : Bool) → c ≡ disconnected_unless l b → (deeds : List Deed) × (c.deeds ≡ b.deeds ++ deeds) × HaveNotes [] deeds
  left_deeds b c true is = ([], ap (λ (d : BayData). d.deeds) is ∙ sym (append-nil b.deeds), refl)
  left_deeds b c false is = (deed.Disconnected ∷ [], ap (λ (d : BayData). d.deeds) is, refl)

  left_does : (j : ℕ) (b c : BayData) (l : LinkState) → IsDisconnected b c → IsLeft b.session c.session → l.up ≡ b.session.up →
      Does x.store.files [] j b c l l
  left_does j b c l d is linked =
      let deeds = left_deeds b c (is_lost b) d.bay_is in
      record {
        deeds = deeds.0;
        deeds_are = deeds.1;
        notes = deeds.2;
        begun = [];
        ended = [];
        runs = d.run;
        begun_are = tt;
        ended_are = tt;
        tied = λ front step. d.tied l.kind front l.past step;
        lost = λ lost. inl (is.lost lost);
        limits = is.limits;
        kind = refl;
        faults = omega arith;
        up = linked ∙ sym is.up;
      }

  ledger_is : g.ledger ≡ x.floor.ledger
  ledger_is = ap (λ (h : FloorData). h.ledger) left.same

  pub left_goes : GoesOn x y []
  left_goes = record {
    copies = subst (λ (l : LedgerData). TakesCopies x (setting (record g { ledger = l }) x.links x.store) []) (sym ledger_is)
        (record { history = sym (append-nil x.floor.ledger.history); came = tt; stock = refl; copies = omega arith });
    tables = λ first kept. subst (λ (l : LedgerData). AreKept first l x.store.tables) (sym ledger_is) kept;
    each = λ j b c l m its its' linked linked'. (
        let a = was j c its' in
        let same : a.0 ≡ b = same_place x.floor.bays j a.0 b a.1 its in
        let same_link : l ≡ m = same_place x.links j l m linked linked' in
        let Of : BayData → Type 0 = λ d. Does x.store.files [] j d c l m in
        let At : LinkState → Type 0 = λ k. Does x.store.files [] j a.0 c l k in
        subst Of same (subst At same_link (left_does j a.0 c l a.2 a.3 (up j a.0 l a.1 linked))));
    passes = tt;
    same = record {
      ports = ap (λ (h : FloorData). h.ports) left.same;
      materials = ap (λ (h : FloorData). h.materials) left.same;
      bays = left.bays;
      links = refl;
      files = refl;
      limits = λ j b c its its'. (let a = was j c its' in
          a.3.limits ∙ ap (λ (d : BayData). d.session.desk.limits) (same_place x.floor.bays j a.0 b a.1 its));
    };
    faults =
        subst (λ (o : Option FloorFault). FaultsCame x.floor.ledger.fault o x.store.keeper_faults x.store.keeper_faults x.store.shelf_faults x.store.shelf_faults)
        (sym (ap (λ (l : LedgerData). l.fault) ledger_is))
        (none_came x.floor.ledger.fault x.store.keeper_faults x.store.keeper_faults x.store.shelf_faults x.store.shelf_faults (omega arith) (omega arith));
  }

  pub left_up : AreUp g.bays x.links
  left_up j c l its linked =
      let a = was j c its in
      up j a.0 l a.1 linked ∙ sym a.3.up

  pub left_gone : AreIdle x.floor → AllGone g
  left_gone idle j c its =
      let a = was j c its in
      let material = place x.floor.materials j (let so = within j c its in let same = f.materials in omega (arith, so, same)) in
      record { gone = a.3.gone; no_print = a.3.active ∙ (idle j a.0 material.0 a.1 material.1).no_print }

-- after a round the printers leave, or go on
pub record IsAfter (first : FloorData) (leaves : Bool) (now : FloorData) : Type 0 where
  pub began : now.began ≡ true
  pub still_open : leaves ≡ false → IsOpen first → IsOpen now
  pub leaving : leaves ≡ true → IsLeaving first now

module _ (first : FloorData) (x y : Setting) (heard : Bool) (events : FloorHistory) (moment : ℕ) (r : IsRound moment x y heard events) (f : IsFloor x.floor)
    (up : AreUp x.floor.bays x.links) where
  well : GoesWell x y events
  well = well_round moment x y heard events r f up

  round_began : y.floor.began ≡ true
  round_began = ap (λ (z : Setting). z.floor.began) r.made

  -- printers that leave go on leaving
  pub leaves_on : IsLeaving first x.floor → IsLeaving first y.floor
  leaves_on is =
      let stays = gone_round moment x y heard events r f up is.began is.gone in
      record {
        began = round_began;
        gone = stays.gone;
        nothing = λ open_first no_fault. nothing_stays x y well.goes.same.bays well.goes.same.materials stays
            (is.nothing open_first (unfaulted x.floor.ledger.fault refl no_fault));
      }
    where
      unfaulted : (o : Option FloorFault) → x.floor.ledger.fault ≡ o → y.floor.ledger.fault ≡ None → x.floor.ledger.fault ≡ None
      unfaulted None none no_fault = none
      unfaulted (Some why) some no_fault = absurd (cc (sym no_fault ∙ well.goes.faults.stays why some))

  -- the leaving after the round
  pub leaves_after : (leaves now : Bool) (g : FloorData) → Leaves leaves y.floor now g → (leaves ≡ false → IsOpen first → IsOpen x.floor) →
      (leaves ≡ true → IsLeaving first x.floor) → GoesWell x (setting g y.links y.store) events × IsAfter first now g
  leaves_after true now g so open_so leaving_so =
      let At : FloorData → Type 0 = λ h. GoesWell x (setting h y.links y.store) events × IsAfter first now h in
      let is = leaves_on (leaving_so refl) in
      subst At (sym so.1) (
        well,
        record {
          began = round_began;
          still_open = λ not. absurd (false≢true (sym not ∙ so.0));
          leaving = λ leaves. is;
        },
      )
  leaves_after false false g so open_so leaving_so =
      let At : FloorData → Type 0 = λ h. GoesWell x (setting h y.links y.store) events × IsAfter first false h in
      subst At (sym so.1) (
        well,
        record {
          began = round_began;
          still_open = λ not open_first. open_round moment x y heard events r f up (open_so refl open_first);
          leaving = λ leaves. absurd (false≢true leaves);
        },
      )
  leaves_after false true g so open_so leaving_so =
      let left = so.1 in
      let goes = goes_then x y (setting g y.links y.store) events [] well.goes (left_goes y g well.floor well.up left) in
      let same_began : g.began ≡ y.floor.began = ap (λ (h : FloorData). h.began) left.same in (
        record {
          goes = subst (λ (es : FloorHistory). GoesOn x (setting g y.links y.store) es) (append-nil events) goes;
          floor = so.2;
          up = left_up y g well.floor well.up left;
        },
        record {
          began = same_began ∙ round_began;
          still_open = λ not. absurd (false≢true (sym not));
          leaving = λ leaves. record {
            began = same_began ∙ round_began;
            gone = left_gone y g well.floor well.up left so.0;
            nothing = λ open_first no_fault. over_nothing y.floor g well.floor so.0 left round_began
                (open_round moment x y heard events r f up (open_so refl open_first)) (sym (ap (λ (h : FloorData). h.ledger.fault) left.same) ∙ no_fault);
          };
        },
      )

-- one more round of a run
pub ran_on : (first x y : Setting) (moment : ℕ) (heard : Bool) (events : FloorHistory) (leaves now : Bool) (g : FloorData) → IsRound moment x y heard events →
    ((es : FloorHistory) × GoesWell first x es) → (leaves ≡ false → IsOpen first.floor → IsOpen x.floor) → (leaves ≡ true → IsLeaving first.floor x.floor) →
    Leaves leaves y.floor now g → ((es : FloorHistory) × GoesWell first (setting g y.links y.store) es) × IsAfter first.floor now g
ran_on first x y moment heard events leaves now g r so_far open_so leaving_so left =
    let after = leaves_after first.floor x y heard events moment r so_far.1.floor so_far.1.up leaves now g left open_so leaving_so in (
      (
        so_far.0 ++ events,
        record {
          goes = goes_then first x (setting g y.links y.store) so_far.0 events so_far.1.goes after.0.goes;
          floor = after.0.floor;
          up = after.0.up;
        },
      ),
      after.1,
    )

-- a run begins
pub run_begins : (f : FloorData) (l : LedgerData) (links : List LinkState) (store : StoreState) → l ≡ record f.ledger { fault = None } → IsFloor f → AreUp f.bays links →
    (es : FloorHistory) × GoesWell (setting (record f { ledger = l }) links store) (setting (record f { ledger = l }) links store) es
run_begins f l links store is floor up =
    let Of : LedgerData → Type 0 = λ m. IsFloor (record f { ledger = m }) in
    let begun : IsFloor (record f { ledger = record f.ledger { fault = None } }) = record {
      some = floor.some;
      few = floor.few;
      ports = floor.ports;
      materials = floor.materials;
      at_rest = floor.at_rest;
      recorded = floor.recorded;
      own = floor.own;
      ended = floor.ended;
      came = record { first = floor.came.first; came = floor.came.came; stock_is = floor.came.stock_is };
    }
    in
    ([], record { goes = goes_same (setting (record f { ledger = l }) links store) up; floor = subst Of (sym is) begun; up = up })

-- how a run ends whose printers have left
pub ends_for : (old first now : FloorData) (why : Why) → why ≡ reason_of now.ledger.fault → HaveLeft now → IsLeaving first now → (IsOpen old → IsOpen first) →
    EndsFor old now why
ends_for old first now why is left leaving same = by now.ledger.fault refl
  where
    by : (o : Option FloorFault) → now.ledger.fault ≡ o → EndsFor old now why
    by None none =
        let At : Why → Type 0 = λ w. EndsFor old now w in
        subst At (sym (is ∙ ap reason_of none)) (left, none, λ open_first. leaving.nothing (same open_first) none)
    by (Some fault) some =
        let At : Why → Type 0 = λ w. EndsFor old now w in
        subst At (sym (is ∙ ap reason_of some)) (left, some)

-- the floor as a run begins
pub run_first : (f now : FloorData) (l : LedgerData) → l ≡ record f.ledger { fault = None } → f ≡ now →
    record f { ledger = l } ≡ record now { ledger = record now.ledger { fault = None } }
run_first f now l is same =
    ap (λ (m : LedgerData). record f { ledger = m }) is ∙ ap (λ (h : FloorData). record h { ledger = record h.ledger { fault = None } }) same
