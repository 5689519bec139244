use Rattle.std.proofs.Common.{sym, ap, ◌∙◌, map}
use Rattle.marlin_sim.proofs.Places.{places_cut}
use Rattle.marlin_sim.proofs.plan.read_places.Goals as goal

pub returns : goal.returns
returns c =
    places_cut c.args.word.now _ c.listed_places.result (sym c.eq.ensures ∙ c.if-eq.false)
    (ap (λ l. map (λ p. p.now) l) c.as_slice.ensures.value ∙ c.in_ok-pieces.ensures) c.listed_places.ensures
