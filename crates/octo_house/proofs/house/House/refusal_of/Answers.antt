use Rattle.std.proofs.Common.{◌≡◌, Bool, true, false, ◌&&◌, cond, not, Option, None, Some, sym, ap, ◌∙◌}
use Rattle.octo_asks.specs.declared.answer.PrintRefusal.{PrintRefusal}
use Rattle.octo_house_rules.specs.Uploads.{is_selected, is_printed}
use Rattle.job_desk.specs.Data.{named_file}
use Rattle.octo_house.specs.State.{known_of}
use Rattle.octo_house.proofs.house.House.refusal_of.Goals as goal
use Rattle.octo_house.proofs.house.House.refusal_of.Goals.{then-granted, else-granted}

-- a print that is asked for and isn't granted is refused
refused : (print granted : Bool) (said told : PrintRefusal) → print ≡ true → granted ≡ false → said ≡ told
    → Some said ≡ cond (print && not granted) (Some told) None
refused true false said told on off same = ap (λ (p : PrintRefusal). Some p) same
refused true true said told on off same = absurd (cc off)
refused false granted said told on off same = absurd (cc on)

both-off : (one two select starts : Bool) → one ≡ select → two ≡ starts → (one && two) ≡ false → (select && starts) ≡ false
both-off one two select starts first second off =
    sym (ap (λ b. b && starts) first) ∙ sym (ap (λ b. one && b) second) ∙ off

pub returns-then-not-granted : goal.returns-then-not-granted
returns-then-not-granted c name select starts =
    let value : c.if-granted.value ≡ (c.args.granted.select && c.args.granted.print) = elim c.if-granted.branch [
      | then-granted w ↦ rw w.if-granted.true w.value-is
      | else-granted w ↦ rw w.if-granted.false (w.value-is ∙ w.if-granted.false)
    ] in
    refused c.args.asked.print (is_selected c.args.user.now c.args.asked.select c.args.asked.print (known_of c.args.self.now)
    && is_printed c.args.user.now c.args.asked.print (named_file name c.args.job.now) (known_of c.args.self.now)) _ _ c.if-asked.true
    (both-off c.args.granted.select c.args.granted.print _ _ select starts (sym value ∙ c.if-not-granted.true))
    (c.print_refusal.ensures name)
