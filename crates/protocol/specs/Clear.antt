-- Clearing (document 02, P5): it 'drops exactly those stored versions whose stamp occurs in no
-- view, no latest, no message and no write still under way, keeps the others in their order, and
-- returns how many went'. Of first replies that have come it 'spares their stamps until the read
-- ends' (P7).
use Rattle.std.specs.Prelude.{Bool, not, ◌&&◌, ◌||◌, ℕ, eqb}
use Rattle.basics.specs.Lists.{every, all, counted, dropped}
use Rattle.protocol.specs.declared.Version.{Version}
use Rattle.protocol.specs.declared.Message.{Message}
use Rattle.protocol.specs.Tables.{Tables, with_versions}
use Rattle.protocol.specs.Message.{parts_of}
use Rattle.protocol.specs.Range.{is_writing, has_first, every_client}

-- the stamp of message m or of its latest is s
unfoldable pub mentions : ℕ → Message → Bool
mentions s m = eqb (parts_of m).stamp s || eqb (parts_of m).latest.stamp s

-- stamp s occurs in no view, no latest, no message, no write still under way and no first reply
-- that a read under way keeps
unfoldable pub unused : Tables → ℕ → Bool
unused t s =
    let z = t.sizes in
    every_client z (λ d. every z.items (λ k. not (eqb (t.view d k).stamp s)))
    && every z.items (λ k. not (eqb (t.latest k).stamp s))
    && all (λ m. not (mentions s m)) t.messages
    && every_client z (λ d. not (is_writing (t.client d)) || not (eqb (t.client d).write.stamp s))
    && every_client z (λ d. every z.items (λ k. not (has_first (t.client d).read k)
    || not (eqb ((t.client d).read.firsts k).stamp s)))

-- a stored version goes by its stamp, whatever its item
abbrev pub goes : Tables → Version → Bool
goes t v = unused t v.stamp

abbrev pub cleared : Tables → Tables
cleared t = with_versions t (dropped (goes t) t.versions)

-- how many went
abbrev pub gone : Tables → ℕ
gone t = counted (goes t) t.versions
