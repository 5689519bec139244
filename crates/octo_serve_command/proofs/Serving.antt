-- What serving by settings comes to, from how the host begins and how it ends.
use Rattle.std.proofs.Common.{◌≡◌, ◌∙◌, ◌≤◌, ℕ, Bool, true, false, ◌&&◌, List, Option, None, Some, Err, refl, sym, ap, subst, arith}
use Rattle.octo_outside.specs.Recorded.{Rose}
use Rattle.octo_outside.specs.Traits.{Files}
use Rattle.octo_asks.specs.History.{History, calls_of}
use Rattle.octo_outside_doors.specs.declared.door.Doors.{Doors}
use Rattle.octo_serve.specs.Ends.{HistoryData}
use Rattle.octo_house.specs.declared.faults.BeginFault.{BeginFault}
use Rattle.octo_house.specs.declared.faults.BeginFault.TheVariants as begin
use Rattle.octo_files.specs.Settings.{HaveSettings}
use Rattle.octo_files.specs.declared.report.Report.{Report}
use Rattle.octo_files.specs.declared.report.Report.TheVariants as report
use Rattle.octo_api_worker.specs.declared.terms.Terms.{Terms}
use Rattle.octo_outside_doors.specs.Doors.{DoorState}
use Rattle.octo_serve.specs.Doors.{AreServed}
use Rattle.octo_serve.specs.Hosted.{Setting, HasHosted}
use Rattle.octo_settings.specs.declared.settings.Settings.{Settings}
use Rattle.octo_serve_command.specs.Beginning.{terms_by}
use Rattle.octo_serve_command.specs.Hosting.{Around, AreLater, IsUnserved, HasServed, ServesBy, not_begun, served, Hosts, no_settings, OneRose, at_a, at_b, at_c, at_d, AllHeld, HasHostCauses}
use Rattle.octo_serve_command.specs.Reports.{begin_fault_report, served_report}
use Rattle.octo_serve_command.specs.declared.report.HostReport.{HostReport}
use Rattle.octo_serve_command.specs.declared.report.HostReport.TheVariants as host

-- a host that doesn't begin, as it is reported
pub not_served : (s : Settings) (old new : Around) (fault : BeginFault) (r : HostReport) (known : Option HistoryData) → r ≡ begin_fault_report fault → known ≡ None →
    IsUnserved old new → ServesBy s old new r known
not_served s old new fault r known is none u =
    subst (λ k. ServesBy s old new r k) (sym none) (subst (λ x. ServesBy s old new x None) (sym is) (not_begun fault u))

-- a host that has served, as it is reported
pub has_served : (s : Settings) (old new : Around) (r : HostReport) (known : Option HistoryData) (history : HistoryData) → known ≡ Some history →
    HasServed s old new r history → ServesBy s old new r known
has_served s old new r known history is h = subst (λ k. ServesBy s old new r k) (sym is) (served r history h)

-- a host whose terms are those of the settings
pub hosted_by : (terms : Terms) (s : Settings) (old new : Setting) (doors doors' : Doors DoorState) (calls : ℕ) (held : Bool) (known : HistoryData)
    → terms ≡ terms_by s → HasHosted terms old new doors doors' calls held known → HasHosted (terms_by s) old new doors doors' calls held known
hosted_by terms s old new doors doors' calls held known are hosted =
    subst (λ (t : Terms). HasHosted t old new doors doors' calls held known) are hosted

-- if not all held, one failed
one_failed : (terms : Terms) (old new : Doors DoorState) (history : History) (a b c d : Bool) → (false ≡ (a && (b && (c && d)))) →
    (a ≡ false → Rose old.a.faults new.a.faults) → (b ≡ false → Rose old.b.faults new.b.faults) → (c ≡ false → Rose old.c.faults new.c.faults) →
    (d ≡ false → Rose old.d.faults new.d.faults) → OneRose old new
one_failed terms old new history false b c d is ra rb rc rd = at_a (ra refl)
one_failed terms old new history true false c d is ra rb rc rd = at_b (rb refl)
one_failed terms old new history true true false d is ra rb rc rd = at_c (rc refl)
one_failed terms old new history true true true d is ra rb rc rd = at_d (rd (sym is))

-- and if all did, each held
all_held : (terms : Terms) (old new : Doors DoorState) (history : History) (a b c d : Bool) → (true ≡ (a && (b && (c && d)))) →
    (a ≡ true → new.a.faults ≡ old.a.faults) → (b ≡ true → new.b.faults ≡ old.b.faults) → (c ≡ true → new.c.faults ≡ old.c.faults) →
    (d ≡ true → new.d.faults ≡ old.d.faults) → AllHeld old new
all_held terms old new history true true true true is sa sb sc sd =
    record { at_a = sa refl; at_b = sb refl; at_c = sc refl; at_d = sd refl }
all_held terms old new history false b c d is sa sb sc sd = absurd (cc)
all_held terms old new history true false c d is sa sb sc sd = absurd (cc)
all_held terms old new history true true false d is sa sb sc sd = absurd (cc)
all_held terms old new history true true true false is sa sb sc sd = absurd (cc)

module _ (terms : Terms) (old new : Doors DoorState) (history : History) where
  pub door_failed : AreServed terms old new history false → OneRose old new
  door_failed x = one_failed terms old new history x.held_a x.held_b x.held_c x.held_d x.all x.a.failed x.b.failed x.c.failed x.d.failed

  pub doors_held : AreServed terms old new history true → AllHeld old new
  doors_held x = all_held terms old new history x.held_a x.held_b x.held_c x.held_d x.all x.a.steady x.b.steady x.c.steady x.d.steady

-- the causes of what is reported of a host that has served
caused : (terms : Terms) (calls : ℕ) (old new : Around) (history : History) (held : Bool) → AreServed terms old.doors new.doors history held → AreLater old new →
    HasHostCauses old new (served_report calls held)
caused terms calls old new history true x later = record {
  keeper = λ is. absurd (cc);
  shelf = λ is. absurd (cc);
  door = λ n is. absurd (cc);
  doors = λ n is. doors_held terms old.doors new.doors history x;
  counted = later;
}
caused terms calls old new history false x later = record {
  keeper = λ is. absurd (cc);
  shelf = λ is. absurd (cc);
  door = λ n is. door_failed terms old.doors new.doors history x;
  doors = λ n is. absurd (cc);
  counted = later;
}

pub served_causes : (s : Settings) (old new : Around) (r : HostReport) (known : HistoryData) → HasServed s old new r known → HasHostCauses old new r
served_causes s old new r known h =
    let u = h.begun.unserved in
    let ran = h.hosted.ran in
    let lf : old.link.faults ≤ new.link.faults = subst (λ l. l.faults ≤ new.link.faults) u.link ran.link in
    let later : AreLater old new = record {
      link = lf;
      keeper = omega (arith, u.later.keeper, ran.keeper);
      shelf = omega (arith, u.later.shelf, ran.shelf);
    } in
    let doors = subst (λ d. AreServed (terms_by s) d new.doors known.history h.held) u.doors h.hosted.served in
    subst (λ x. HasHostCauses old new x) (sym h.is) (caused (terms_by s) h.calls old new known.history h.held doors later)

-- settings that can't be read, as it is reported
pub without_settings : (files : Option Files) (settings : List ℕ) (old new : Around) (why : Report) (r : HostReport) (known : Option HistoryData) →
    r ≡ host.Command why → known ≡ None → HaveSettings files (Some settings) (Err why) → IsUnserved old new → Hosts files settings old new r known
without_settings files settings old new why r known is none have u =
    subst (λ k. Hosts files settings old new r k) (sym none) (subst (λ x. Hosts files settings old new x None) (sym is) (no_settings why have u))
