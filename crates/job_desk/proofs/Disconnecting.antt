-- A second disconnect lets the connection be closed at once.
use Rattle.std.proofs.Common.{◌≡◌, Bool, true, false, ◌||◌, refl, sym, subst}
use Rattle.std.specs.Prelude.{◌&&◌, ◌==◌, nat_le, length}
use Rattle.job_desk.specs.Data.{Data}
use Rattle.job_desk.specs.Table.{closing_line, disconnect_at, hanging_up, is_closable, is_closable_at}
use Rattle.job_desk.specs.declared.state.State.{State}
use Rattle.job_desk.specs.declared.state.State.TheVariants.{Closing}

or_true : (b : Bool) → (b || true) ≡ true
or_true true = refl
or_true false = refl

pub still_closing : (d : Data) → d.state ≡ Closing → (disconnect_at d.state d).state ≡ Closing
still_closing d at = subst (λ s. (disconnect_at s d).state ≡ Closing) (sym at) at

pub closes_at_once : (d : Data) → d.state ≡ Closing → d.stopped ≡ false
    → is_closable_at (disconnect_at d.state d).state (disconnect_at d.state d) ≡ true
closes_at_once d at goes =
    let By : State → Type 0 = λ s. is_closable_at (disconnect_at s d).state (disconnect_at s d) ≡ true in
    let In : State → Type 0 = λ s. is_closable_at s (hanging_up d) ≡ true in
    let On : Bool → Type 0 = λ b. is_closable b (hanging_up d) ≡ true in
    subst By (sym at) (subst In (sym at) (subst On (sym goes) (or_true ((length d.waiting == 0) && nat_le (closing_line d) d.acked))))
