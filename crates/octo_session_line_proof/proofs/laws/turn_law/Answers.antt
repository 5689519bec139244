use Rattle.octo_session_line_proof.proofs.Recorded.{kept_by_note, turn_linked, turn_opened, turn_tied, turn_former_tied, turn_end_caused}
use Rattle.octo_session_line_proof.proofs.laws.turn_law.Goals as goal

pub returns-clause-linked : goal.returns-clause-linked
returns-clause-linked c kind past later x y turned issued t linked =
    turn_linked t.moment kind past later t.old_calls t.new_calls x y turned t.turn (kept_by_note t.by_note) issued linked

pub returns-clause-opened : goal.returns-clause-opened
returns-clause-opened c kind past later x y turned issued t opening =
    turn_opened t.moment kind past later t.old_calls t.new_calls x y turned t.turn (kept_by_note t.by_note) issued opening

pub returns-clause-tied : goal.returns-clause-tied
returns-clause-tied c kind past later x y turned issued t opening =
    turn_tied t.moment kind past later t.old_calls t.new_calls x y turned t.turn (kept_by_note t.by_note) issued opening

pub returns-clause-former : goal.returns-clause-former
returns-clause-former c kind past later x y turned issued t opens_now linked =
    turn_former_tied t.moment kind past later t.old_calls t.new_calls x y turned t.turn (kept_by_note t.by_note) opens_now issued linked

pub returns-clause-caused : goal.returns-clause-caused
returns-clause-caused c kind past later x y turned issued end t ends linked =
    turn_end_caused t.moment kind past later t.old_calls t.new_calls x y turned t.turn (kept_by_note t.by_note) end ends issued linked
