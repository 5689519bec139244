-- Each end of a session comes exactly if its rule says.
use Rattle.std.proofs.Common.{◌≡◌, ◌↔◌, ℕ, arith, sym, ap, subst}
use Rattle.std.specs.Prelude.{Option, None, Some}
use Rattle.std.proofs.lemmas.Grind.{common_steps}
use Rattle.marlin_reply.specs.declared.reply.Reply.{Reply}
use Rattle.send_window.specs.declared.session_end.SessionEnd.{SessionEnd}
use Rattle.send_window.specs.declared.session_end.SessionEnd.TheVariants.{NoAnswer, AskedBack, AskedAhead, Counts, Restarted, LostOk, NumbersUsed}
use Rattle.send_window.specs.Data.{SenderData}
use Rattle.send_window.specs.Hearing.{hear_step, tick_step, heard_reply, unless_ended}
use Rattle.send_window.specs.Laws.{IsEndedBy, IsEndedAt, EndsByRule}

back : (heard_line : Reply) (moment : ℕ) (s : SenderData) (a b : ℕ) → s.ended ≡ None → ((heard_reply heard_line moment s).ended ≡ Some (AskedBack a b)) ↔ IsEndedBy (AskedBack a b) heard_line s
back heard_line moment s a b none_yet = (grind (arith, common_steps), grind (arith, common_steps))

ahead : (heard_line : Reply) (moment : ℕ) (s : SenderData) (a b : ℕ) → s.ended ≡ None → ((heard_reply heard_line moment s).ended ≡ Some (AskedAhead a b)) ↔ IsEndedBy (AskedAhead a b) heard_line s
ahead heard_line moment s a b none_yet = (grind (arith, common_steps), grind (arith, common_steps))

counts : (heard_line : Reply) (moment : ℕ) (s : SenderData) (a b : ℕ) → s.ended ≡ None → ((heard_reply heard_line moment s).ended ≡ Some (Counts a b)) ↔ IsEndedBy (Counts a b) heard_line s
counts heard_line moment s a b none_yet = (grind (arith, common_steps), grind (arith, common_steps))

restarted : (heard_line : Reply) (moment : ℕ) (s : SenderData) → s.ended ≡ None → ((heard_reply heard_line moment s).ended ≡ Some Restarted) ↔ IsEndedBy Restarted heard_line s
restarted heard_line moment s none_yet = (grind (arith, common_steps), grind (arith, common_steps))

used : (heard_line : Reply) (moment : ℕ) (s : SenderData) (a : ℕ) → s.ended ≡ None → ((heard_reply heard_line moment s).ended ≡ Some (NumbersUsed a)) ↔ IsEndedBy (NumbersUsed a) heard_line s
used heard_line moment s a none_yet = (grind (arith, common_steps), grind (arith, common_steps))

silence : (heard_line : Reply) (moment : ℕ) (s : SenderData) (a : ℕ) → s.ended ≡ None → ((heard_reply heard_line moment s).ended ≡ Some (NoAnswer a)) ↔ IsEndedBy (NoAnswer a) heard_line s
silence heard_line moment s a none_yet = (grind (arith, common_steps), grind (arith, common_steps))

lost : (heard_line : Reply) (moment : ℕ) (s : SenderData) (a : ℕ) → s.ended ≡ None → ((heard_reply heard_line moment s).ended ≡ Some (LostOk a)) ↔ IsEndedBy (LostOk a) heard_line s
lost heard_line moment s a none_yet = (grind (arith, common_steps), grind (arith, common_steps))

pub tick_ends : (why : SessionEnd) (moment : ℕ) (s : SenderData) → s.ended ≡ None → ((tick_step moment s).ended ≡ Some why) ↔ IsEndedAt why moment s
tick_ends why moment s none_yet = (grind (arith, common_steps), grind (arith, common_steps))

reply_ends : (why : SessionEnd) (heard_line : Reply) (moment : ℕ) (s : SenderData) → s.ended ≡ None → ((heard_reply heard_line moment s).ended ≡ Some why) ↔ IsEndedBy why heard_line s
reply_ends (NoAnswer a) heard_line moment s none_yet = silence heard_line moment s a none_yet
reply_ends (AskedBack a b) heard_line moment s none_yet = back heard_line moment s a b none_yet
reply_ends (AskedAhead a b) heard_line moment s none_yet = ahead heard_line moment s a b none_yet
reply_ends (Counts a b) heard_line moment s none_yet = counts heard_line moment s a b none_yet
reply_ends Restarted heard_line moment s none_yet = restarted heard_line moment s none_yet
reply_ends (LostOk a) heard_line moment s none_yet = lost heard_line moment s a none_yet
reply_ends (NumbersUsed a) heard_line moment s none_yet = used heard_line moment s a none_yet

open_step : (heard_line : Reply) (moment : ℕ) (s : SenderData) → s.ended ≡ None → hear_step heard_line moment s ≡ heard_reply heard_line moment s
open_step heard_line moment s none_yet = ap (λ (e : Option SessionEnd). unless_ended e (heard_reply heard_line moment s) s) none_yet

hear_ends : (why : SessionEnd) (heard_line : Reply) (moment : ℕ) (s : SenderData) → s.ended ≡ None → ((hear_step heard_line moment s).ended ≡ Some why) ↔ IsEndedBy why heard_line s
hear_ends why heard_line moment s none_yet =
    let P : SenderData → Type 0 = λ after. (after.ended ≡ Some why) ↔ IsEndedBy why heard_line s in
    subst P (sym (open_step heard_line moment s none_yet)) (reply_ends why heard_line moment s none_yet)

pub ends_by_rule : EndsByRule
ends_by_rule why s moment none_yet = (λ heard_line. hear_ends why heard_line moment s none_yet, tick_ends why moment s none_yet)
