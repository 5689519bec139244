-- The rounds of a run, one more each time.
use Rattle.std.proofs.Common.{◌≡◌, ◌⊎◌, inl, inr, ℕ, ◌+◌, ◌≤◌, Bool, true, false, List, [], ◌∷◌, length, Option, None, Some, refl, sym, ◌∙◌, ap, arith}
use Rattle.octo_floor_bay.specs.Events.{FloorHistory}
use Rattle.octo_floor_bay.specs.declared.end.FloorFault.{FloorFault}
use Rattle.octo_floor_bay.specs.declared.end.Why.{Why}
use Rattle.octo_floor_bay.specs.declared.end.Why.TheVariants as why
use Rattle.octo_floor.specs.Floor.{FloorData, IsFloor, Setting, setting, AreUp}
use Rattle.octo_floor.specs.Round.{IsRound}
use Rattle.octo_floor.proofs.Goes.{well_round}
use Rattle.octo_floor.proofs.Idle.{idle_round}
use Rattle.octo_floor.specs.Leaving.{Leaves}
use Rattle.octo_floor.specs.Rounds.{RoundMade, StaysOrLeaves, AreRounds, HasRounds}
use Rattle.octo_floor.specs.Run.{HaveLeft, reason_of}

-- this number of rounds lead from one setting to another
pub record HaveMade (n : ℕ) (x y : Setting) : Type 0 where
  pub rounds : List RoundMade
  pub made : AreRounds rounds x y
  pub count : length rounds ≡ n

pub made_first : (x : Setting) → HaveMade 0 x x
made_first x = record { rounds = []; made = refl; count = refl }

-- what is done after a round
stays_or_leaves : (leaves now : Bool) (y : Setting) (g : FloorData) → Leaves leaves y.floor now g → StaysOrLeaves y (setting g y.links y.store)
stays_or_leaves true now y g so = inl (ap (λ (f : FloorData). setting f y.links y.store) so.1)
stays_or_leaves false false y g so = inl (ap (λ (f : FloorData). setting f y.links y.store) so.1)
stays_or_leaves false true y g so = inr (so.0, so.1, refl)

pub made_on : (n moment : ℕ) (first x y : Setting) (heard : Bool) (events : FloorHistory) (leaves now : Bool) (g : FloorData) →
    IsRound moment x y heard events → IsFloor x.floor → AreUp x.floor.bays x.links → HaveMade n first x → Leaves leaves y.floor now g →
    HaveMade (n + 1) first (setting g y.links y.store)
made_on n moment first x y heard events leaves now g r f up so_far left =
    let one : RoundMade = record { before = x; after = y; moment = moment; heard = heard; events = events } in
    record {
      rounds = one ∷ so_far.rounds;
      made = (
        so_far.made,
        record { round = r; goes = (well_round moment x y heard events r f up).goes; idle = idle_round moment x y heard events r f up },
        stays_or_leaves leaves now y g left,
      );
      count = let same = so_far.count in omega (arith, same);
    }

-- a run that is over hasn't used its turns
not_used : (fault : Option FloorFault) → reason_of fault ≡ why.TurnsUsed → ⊥
not_used None is = absurd (cc is)
not_used (Some fault) is = absurd (cc is)

-- the rounds of a run that is over, and of one that has used its turns
pub rounds_over : (n turns : ℕ) (x y : Setting) (end : Why) (fault : Option FloorFault) → n ≤ turns → end ≡ reason_of fault → HaveMade n x y →
    HasRounds turns x y end
rounds_over n turns x y end fault within is m = record {
  rounds = m.rounds;
  made = m.made;
  few = let same = m.count in omega (arith, same, within);
  used = λ used. absurd (not_used fault (sym is ∙ used));
}

pub rounds_used : (n turns : ℕ) (x y : Setting) (end : Why) → n ≤ turns → turns ≤ n → ((n ≡ 0) ⊎ ((y.floor.began ≡ true) × (HaveLeft y.floor → ⊥))) →
    HaveMade n x y → HasRounds turns x y end
rounds_used n turns x y end within all going m =
    let same = m.count in
    record {
      rounds = m.rounds;
      made = m.made;
      few = omega (arith, same, within);
      used = λ used. (omega (arith, same, within, all), by going);
    }
  where
    by : (n ≡ 0) ⊎ ((y.floor.began ≡ true) × (HaveLeft y.floor → ⊥)) → (turns ≡ 0) ⊎ (HaveLeft y.floor → ⊥)
    by (inl none) = inl (omega (arith, none, all))
    by (inr some) = inr some.1
