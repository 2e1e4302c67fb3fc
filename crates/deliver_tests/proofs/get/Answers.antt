-- `deliver_tests::get` meets its contract: one search tells whether it is stored, and which it is.
use mathlib.Core.Path.{◌≡◌, refl, sym, ap, ◌∙◌}
use mathlib.Core.Bool.{true, false}
use native.Mathlib.Omega.{arith}
use borrow.Author.Rules.{rules}
use borrow.Author.Tests.{eq-eqb, ne_eqb}
use Rattle.std.specs.Prelude.{Some, is_some, Ok}
use Rattle.basics.specs.Lists.{table}
use Rattle.protocol.specs.declared.Version.{Version}
use Rattle.protocol.specs.Steps.{alike, stored, found}
use Rattle.layout.specs.Decode.{version_in}
use Rattle.versions.specs.Found.{first_alike}
use Rattle.versions.proofs.First.{first_below, found_at, stored-first, found_first}
use Rattle.deliver_tests.proofs.get.Goals as goal

pub version-requires : goal.version-requires
version-requires c = let a = c.args in
    let l = first_below (λ j. alike a.item a.stamp (version_in a.b.now j)) a.n c.in-Some.i
    (sym c.find.ensures ∙ c.in-Some.is) in
    (omega (arith, l), search rules)

pub returns-in-Some : goal.returns-in-Some
returns-in-Some c = let a = c.args in
    let f = version_in a.b.now in
    let e : first_alike a.b.now a.n a.item a.stamp ≡ Some c.in-Some.i =
    sym c.find.ensures ∙ c.in-Some.is in
    let s : stored (table a.n f) a.item a.stamp ≡ true =
    stored-first a.n f a.item a.stamp ∙ ap is_some e in
    let v : found (table a.n f) a.item a.stamp ≡ f c.in-Some.i =
    found_first a.n f a.item a.stamp ∙ ap (found_at f a.item a.stamp) e in
    rw (s, v) (ap (λ (x : Version). Ok (Some x)) c.version.ensures)

pub returns-in-None : goal.returns-in-None
returns-in-None c = let a = c.args in
    let s : stored (table a.n (version_in a.b.now)) a.item a.stamp ≡ false =
    stored-first a.n (version_in a.b.now) a.item a.stamp
    ∙ ap is_some (sym c.find.ensures ∙ c.in-None.is) in
    rw (s, eq-eqb a.stamp 0 c.if-stamp-eq0.true) refl

pub returns-in-None-2 : goal.returns-in-None-2
returns-in-None-2 c = let a = c.args in
    let s : stored (table a.n (version_in a.b.now)) a.item a.stamp ≡ false =
    stored-first a.n (version_in a.b.now) a.item a.stamp
    ∙ ap is_some (sym c.find.ensures ∙ c.in-None-2.is) in
    rw (s, ne_eqb a.stamp 0 c.if-stamp-eq0.false) refl
