use Rattle.std.proofs.lemmas.Grind.{common_steps}
use Rattle.std.proofs.Common.{arith, rules}
use Rattle.printer_link.specs.Memory.{opening_last}
use Rattle.printer_link.proofs.Links.{dial_past, dial_up, dial_failed, dial_failed_at_once}
use Rattle.printer_link.proofs.memory_link.MemoryLinkLink.dial.Goals as goal

pub returns-in-Ok-clause-dials : goal.returns-in-Ok-clause-dials
returns-in-Ok-clause-dials c = record {
  past =
      let mid = c.begin-fails.new.self in
      dial_past c.args.self.now mid c.make_link.new.self (opening_last mid.story mid.last) c.begin-fails.ensures.counts c.in-Ok.ensures.ok c.requires;
  past_no_port = search rules;
  past_failed = search rules;
  past_prompt = search rules;
  no_port = search rules;
  up =
      let mid = c.begin-fails.new.self in
      dial_up c.args.self.now mid c.make_link.new.self (opening_last mid.story mid.last) c.begin-fails.ensures.counts c.in-Ok.ensures.ok c.requires;
  down = search rules;
  is_open = search rules;
  slots = search rules;
  kind = search rules;
  calls = search rules;
  counts = search rules;
}

pub returns-in-Err-clause-dials : goal.returns-in-Err-clause-dials
returns-in-Err-clause-dials c = record {
  past = search rules;
  past_no_port = search rules;
  past_failed =
      λ _. dial_failed c.args.self.now c.begin-fails.new.self c.make_link.new.self c.fail-in-Err.new.self c.begin-fails.ensures.counts c.in-Err.ensures.err c.fail-in-Err.ensures.after c.requires;
  past_prompt = search rules;
  no_port = search rules;
  up = search rules;
  down = grind (arith, common_steps);
  is_open = search rules;
  slots = search rules;
  kind = search rules;
  calls = search rules;
  counts = search rules;
}

pub returns-then-fails-clause-dials : goal.returns-then-fails-clause-dials
returns-then-fails-clause-dials c = record {
  past = search rules;
  past_no_port = search rules;
  past_failed =
      λ _. dial_failed_at_once c.args.self.now c.begin-fails.new.self c.fail.new.self c.begin-fails.ensures.counts c.fail.ensures.after c.requires;
  past_prompt = search rules;
  no_port = search rules;
  up = search rules;
  down = search rules;
  is_open = search rules;
  slots = search rules;
  kind = search rules;
  calls = search rules;
  counts = search rules;
}
