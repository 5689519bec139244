-- Without numbers there is no probe, and a connection is closed only once all lines are acknowledged.
use Rattle.std.proofs.Common.{◌≡◌, ℕ, Bool, false, not, ◌&&◌, nat_le, nat_lt, cond, codes, ap}
use Rattle.job_desk.specs.Data.{Data}
use Rattle.job_desk.specs.Pull.{Drawn, draw_idle, draw_in_order, draw_last, from_probe, from_scripts, is_printing, issue, nothing, poll_is_due, put_off}
use Rattle.job_desk.specs.Table.{closing_line}
use Rattle.job_desk.specs.declared.state.Tag.TheVariants.{Poll}

pub no_probe : (awaited moment : ℕ) (d : Data) → d.numbered ≡ false → ◌≡◌ {A = Drawn} (from_probe awaited moment d) (nothing d)
no_probe awaited moment d plain =
    ap (λ (b : Bool). cond (b && (nat_le d.probe_at moment && nat_lt d.acked awaited))
    (issue (record { text = codes "M400"; tag = Poll }) (put_off moment d)) (nothing d)) plain

pub plain_poll : (moment : ℕ) (d : Data) → d.numbered ≡ false → poll_is_due moment d ≡ (nat_le d.poll_at moment && nat_le d.poll_line d.acked)
plain_poll moment d plain =
    ap (λ (b : Bool). nat_le d.poll_at moment && nat_le (cond (b && not (is_printing d.state)) d.issued d.poll_line) d.acked) plain

pub plain_idle : (moment : ℕ) (d : Data) → d.numbered ≡ false → ◌≡◌ {A = Drawn} (draw_idle moment d) (draw_in_order moment d (nothing d))
plain_idle moment d plain = ap (λ (next : Drawn). draw_in_order moment d next) (no_probe d.issued moment d plain)

pub plain_last : (moment : ℕ) (d : Data) → d.numbered ≡ false → ◌≡◌ {A = Drawn} (draw_last false moment d) (from_scripts d.waiting d (nothing d))
plain_last moment d plain = ap (λ (next : Drawn). from_scripts d.waiting d next) (no_probe d.last_line moment d plain)

pub plain_closing : (d : Data) → d.numbered ≡ false → closing_line d ≡ d.issued
plain_closing d plain = ap (λ (b : Bool). cond b d.last_line d.issued) plain
