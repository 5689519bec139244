-- What holds of each of a floor's links.
use Rattle.octo_floor.specs.declared.links.Links.{Links}

-- this holds of each of eight links
pub record EachLink {L : Type 0} (Holds : L → Type 0) (links : Links L) : Type 0 where
  pub a : Holds links.a
  pub b : Holds links.b
  pub c : Holds links.c
  pub d : Holds links.d
  pub e : Holds links.e
  pub f : Holds links.f
  pub g : Holds links.g
  pub h : Holds links.h
