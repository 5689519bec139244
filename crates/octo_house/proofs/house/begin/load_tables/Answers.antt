use Rattle.octo_house.proofs.house.begin.load_tables.Goals as goal

pub returns-in-Ok-clause-read : goal.returns-in-Ok-clause-read
returns-in-Ok-clause-read g c =
    record { loaded = c.in-Ok.tables; same = c.in-Ok.ensures.ok; sound = c.in-Ok.ensures.sound; read = c.new.ensures }
