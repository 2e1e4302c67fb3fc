-- A call apart makes nothing join or leave, begins and stores nothing.
use mathlib.Core.List.{[]}
use mathlib.Core.Path.{◌≡◌, refl, ap}
use Rattle.protocol.specs.Calls.{Call, nobody, Effects, effect}
use Rattle.condition3.specs.World.{World, does, without_all, joining, leaving, staying, begun}
use Rattle.condition3.specs.World.{storing}
use Rattle.protocol.proofs.Sorts.{aside, Apart}

module _ (w : World) (c : Call) (a : Apart w.tables c) where
  pub apart-tables : effect w.tables c ≡ aside w.tables a.view a.versions
  unfolding effect
  apart-tables = ap (λ (x : Effects). x.tables) a.does

  pub apart-origin : (does w c).origin ≡ nobody
  apart-origin = ap (λ (x : Effects). x.origin) a.does

  pub apart-begins : (does w c).begins ≡ []
  apart-begins = ap (λ (x : Effects). x.begins) a.does

  pub apart-joining : joining w c ≡ []
  unfolding joining
  apart-joining = rw (ap (λ (x : Effects). x.joins) a.does) refl

  pub apart-leaving : leaving w c ≡ []
  unfolding leaving
  apart-leaving = rw (ap (λ (x : Effects). x.leaves) a.does) refl

  pub apart-staying : staying w c ≡ w.in_flight
  unfolding staying without_all
  apart-staying = rw (ap (λ (x : Effects). x.leaves) a.does) refl

  pub apart-begun : begun w c ≡ []
  unfolding begun
  apart-begun = rw apart-begins refl

  pub apart-storing : storing w c ≡ []
  unfolding storing
  apart-storing = rw (ap (λ (x : Effects). x.stores) a.does) refl
