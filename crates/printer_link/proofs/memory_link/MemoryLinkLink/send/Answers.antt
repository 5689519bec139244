use Rattle.std.proofs.lemmas.Grind.{common_steps}
use Rattle.std.proofs.Common.{arith, refl, rules}
use Rattle.printer_link.specs.Memory.{next_fate}
use Rattle.printer_link.proofs.Links.{send_past, send_failed}
use Rattle.printer_link.proofs.memory_link.MemoryLinkLink.send.Goals as goal

pub returns-in-Ok-clause-sends : goal.returns-in-Ok-clause-sends
returns-in-Ok-clause-sends c = record {
  past =
      let mid = c.begin-fails.new.self in
      send_past c.args.self.now mid c.transmit.new.self c.args.line.now (next_fate mid.story) c.begin-fails.ensures.counts c.in-Ok.ensures.ok c.requires.open c.requires.short;
  past_failed = search rules;
  past_prompt = grind (arith, common_steps);
  no_port = search rules;
  up = grind (arith, common_steps);
  down = search rules;
  is_open = search rules;
  kind = search rules;
  calls = search rules;
  counts = search rules;
}

pub returns-in-Err-clause-sends : goal.returns-in-Err-clause-sends
returns-in-Err-clause-sends c = record {
  past = search rules;
  past_failed =
      send_failed c.args.self.now c.begin-fails.new.self c.transmit.new.self c.fail-in-Err.new.self c.begin-fails.ensures.counts c.in-Err.ensures.err c.fail-in-Err.ensures.after c.requires.open;
  past_prompt = search rules;
  no_port = search rules;
  up = search rules;
  down = grind (arith, common_steps);
  is_open = search rules;
  kind = search rules;
  calls = search rules;
  counts = search rules;
}

pub returns-then-fails-clause-sends : goal.returns-then-fails-clause-sends
returns-then-fails-clause-sends c = record {
  past = search rules;
  past_failed =
      send_failed c.args.self.now c.begin-fails.new.self c.begin-fails.new.self c.fail.new.self c.begin-fails.ensures.counts refl c.fail.ensures.after c.requires.open;
  past_prompt = search rules;
  no_port = search rules;
  up = search rules;
  down = grind (arith, common_steps);
  is_open = search rules;
  kind = search rules;
  calls = search rules;
  counts = search rules;
}
