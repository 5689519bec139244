use Rattle.octo_serve.proofs.Owning.{asks_of_worker}
use Rattle.octo_serve.proofs.serving.run_house.Goals as goal

pub returns-clause-ran : goal.returns-clause-ran
returns-clause-ran g c = record {
  history = c.run.ensures.history;
  contents = c.run.ensures.contents;
  laws = c.run.ensures.laws;
  over = c.run.ensures.over;
  listed = c.run.ensures.listed;
  kept = c.run.ensures.kept;
  moments = c.run.ensures.moments;
  link_use = c.run.ensures.link_use;
  temps = c.run.ensures.temps;
  tied = c.run.ensures.tied;
  prints = c.run.ensures.prints;
  down = c.run.ensures.down;
  kind = c.run.ensures.kind;
  recorded = c.run.ensures.recorded;
  faults = c.run.ensures.faults;
  link = c.run.ensures.link;
  keeper = c.run.ensures.keeper;
  shelf = c.run.ensures.shelf;
}

pub returns-clause-own : goal.returns-clause-own
returns-clause-own g c = c.run.ensures.own (λ logged. asks_of_worker logged.counter.end.view.taken logged.counter.of_worker)
