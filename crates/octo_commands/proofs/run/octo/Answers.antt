use Rattle.octo_outside.proofs.Recorded.{steady_not_rose}
use Rattle.octo_commands.proofs.Ended.{asked_same, asks_none, asks_one, asks_them, floor_ended, host_ended, no_memory_ended, other_floor, words_ended, words_may}
use Rattle.octo_commands.proofs.Printed.{comes_printed, printed_code, prints_alone}
use Rattle.octo_commands.proofs.run.octo.Goals as goal

-- arguments that are no command
pub returns-in-Err-clause-comes : goal.returns-in-Err-clause-comes
returns-in-Err-clause-comes g c alone =
    words_ended _ _ _ _ c.in-Err.fault c.words_fault_end.result _ _ _ _ c.words_fault_end.ensures c.end_host.ensures.history c.in-Err.ensures.read
    c.end_host.ensures.written

pub returns-in-Err-clause-floors : goal.returns-in-Err-clause-floors
returns-in-Err-clause-floors g c asked is =
    no_memory_ended _ _ asked _ _ c.in-Err.fault c.words_fault_end.result _ _ _ _ is c.words_fault_end.ensures c.end_host.ensures.floor c.in-Err.ensures.read
    c.end_host.ensures.written

pub end_host-requires : goal.end_host-requires
end_host-requires g c = words_may c.in-Err.fault c.words_fault_end.result c.words_fault_end.ensures

pub returns-in-Err-clause-prompt : goal.returns-in-Err-clause-prompt
returns-in-Err-clause-prompt g c e steady written =
    let ended = returns-in-Err-clause-comes g c (prints_alone _ _ _ _ e) in
    printed_code e.job ended.0 _ _ _ _ _
    (comes_printed _ _ _ _ ended.0 _ e (λ failed. steady_not_rose _ _ steady (ended.2.source_failed failed)) ended.1) ended.3
    c.end_host.ensures.sink.rose written

-- a floor
pub returns-in-Some-clause-comes : goal.returns-in-Some-clause-comes
returns-in-Some-clause-comes g c none =
    absurd (asks_one _ c.in-Ok.command c.in-Ok.ensures.read (c.in-Some.settings.now, c.in-Some.turns) c.in-Some.ensures none)

pub returns-in-Some-clause-no_floor : goal.returns-in-Some-clause-no_floor
returns-in-Some-clause-no_floor g c none =
    absurd (asks_one _ c.in-Ok.command c.in-Ok.ensures.read (c.in-Some.settings.now, c.in-Some.turns) c.in-Some.ensures none)

pub returns-in-Some-clause-floors : goal.returns-in-Some-clause-floors
returns-in-Some-clause-floors g c asked is =
    floor_ended _ asked (c.in-Some.settings.now, c.in-Some.turns) _ _ _ _ c.run_floor-done.result.report c.run_floor-done.result.floor _ _ _ _
    (asked_same _ c.in-Ok.command c.in-Ok.ensures.read asked (c.in-Some.settings.now, c.in-Some.turns) c.in-Some.ensures is) c.end_floor.ensures.floor
    c.run_floor-done.ensures.floors c.run_floor-done.ensures.source.rose c.run_floor-done.ensures.causes c.end_floor.ensures.written

pub returns-in-Some-clause-prompt : goal.returns-in-Some-clause-prompt
returns-in-Some-clause-prompt g c e steady written =
    absurd (asks_one _ c.in-Ok.command c.in-Ok.ensures.read (c.in-Some.settings.now, c.in-Some.turns) c.in-Some.ensures (prints_alone _ _ _ _ e))

pub run_floor-done-requires-clause-suits : goal.run_floor-done-requires-clause-suits
run_floor-done-requires-clause-suits g c κs lives =
    c.requires.links_suit (c.in-Some.settings.now, c.in-Some.turns)
    (asks_them _ c.in-Ok.command c.in-Ok.ensures.read (c.in-Some.settings.now, c.in-Some.turns) c.in-Some.ensures)

pub end_floor-requires : goal.end_floor-requires
end_floor-requires g c = other_floor c.run_floor-done.result.report c.run_floor-done.ensures.refusal

-- another command
pub returns-clause-comes : goal.returns-clause-comes
returns-clause-comes g c alone =
    host_ended _ _ _ _ _ _ c.run-end.result.report c.run-end.result.history _ _ _ _ c.end_host-in-None.ensures.history
    (c.run-end.ensures.comes _ c.in-Ok.ensures.read) c.run-end.ensures.causes c.end_host-in-None.ensures.written

pub returns-clause-floors : goal.returns-clause-floors
returns-clause-floors g c asked is = absurd (asks_none _ c.in-Ok.command c.in-Ok.ensures.read asked c.in-None.ensures is)

pub returns-clause-floor_alone : goal.returns-clause-floor_alone
returns-clause-floor_alone g c asked is = absurd (asks_none _ c.in-Ok.command c.in-Ok.ensures.read asked c.in-None.ensures is)

pub returns-clause-prompt : goal.returns-clause-prompt
returns-clause-prompt g c e steady written =
    printed_code e.job c.run-end.result.report _ _ _ _ _
    (comes_printed _ _ _ _ c.run-end.result.report c.run-end.result.history e
    (λ failed. steady_not_rose _ _ steady (c.run-end.ensures.causes.source_failed failed)) (c.run-end.ensures.comes _ c.in-Ok.ensures.read))
    c.end_host-in-None.ensures.written c.end_host-in-None.ensures.sink.rose written

pub run-end-requires-clause-suits : goal.run-end-requires-clause-suits
run-end-requires-clause-suits g c κs lives past is = c.requires.suits past is c.in-Ok.command c.in-Ok.ensures.read
