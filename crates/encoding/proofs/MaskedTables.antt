-- The decoder's tables are initial outside their sizes and sets.
use mathlib.Core.List.{List}
use mathlib.Core.Bool.{true, false, ◌||◌}
use mathlib.Core.Path.{◌≡◌, refl, sym, ◌∙◌}
use Prim.Native.Nat.{ℕ}
use Rattle.basics.proofs.Cases.{by-test, not-both, between}
use Rattle.protocol.specs.Tables.{ReadPart, WritePart, Client, Ended, nothing, shows_read}
use Rattle.protocol.specs.Tables.{shows_write, resting, rested}
use Rattle.protocol.specs.Range.{is_client, is_writing}
use Rattle.protocol.proofs.Put.{by_cond}
use Rattle.layout.specs.Layout.{at, scalars, mode_at, last_kind_at, is_write_mode, is_mixed_mode}
use Rattle.layout.specs.Decode.{sizes_in, within, ended_in, client_in, tables_of, valid_block}
use Rattle.layout.specs.Encodes.{writes_alone}
use Rattle.layout.proofs.FirstWords.{reply-none}
use Rattle.layout.proofs.Masked.{Only, OnlyCome, MaskedEnded, MaskedClient, Masked}
use Rattle.encoding.proofs.WellFormed.{client-range, tells-valid-block}
use Rattle.encoding.proofs.Encoded.{holds-client}
use Rattle.encoding.proofs.Decoded.{tells-alone, tells-writing}

only-within : (s : ℕ) (f : ℕ → ℕ) → Only s (within s f)
only-within s f k e = rw e

-- by the test of a kind: what is shown has only its set's items, and what isn't is empty
masked-ended : (b : List ℕ) (d : ℕ) → MaskedEnded (ended_in b d)
masked-ended b d =
    let kind = at b scalars (last_kind_at d) in
    record {
      asked = by_cond (λ (p : ReadPart). Only p.set p.asked) (shows_read kind) _ _
          (λ s. only-within _ _) (λ s k e. refl);
      answers = by_cond (λ (p : ReadPart). Only p.set p.values) (shows_read kind) _ _
          (λ s. only-within _ _) (λ s k e. refl);
      firsts = by_cond OnlyCome (shows_read kind) _ _ (λ s. reply-none _ _ _ _ _ _) (λ s k e. refl);
      values = by_cond (λ (p : WritePart). Only p.set p.values) (shows_write kind) _ _
          (λ s. only-within _ _) (λ s k e. refl);
      hidden_read = λ s. rw s refl;
      hidden_write = λ s. rw s refl;
    }

pub masked-nothing : MaskedEnded nothing
masked-nothing = record {
  asked = λ k e. refl;
  answers = λ k e. refl;
  firsts = λ k e. refl;
  values = λ k e. refl;
  hidden_read = λ s. refl;
  hidden_write = λ s. refl;
}

masked-client : (b : List ℕ) (d : ℕ)
    → (is_write_mode (at b scalars (mode_at d)) || is_mixed_mode (at b scalars (mode_at d)) ≡ true
    → is_writing (client_in b d) ≡ true)
    → (is_write_mode (at b scalars (mode_at d)) ≡ false → writes_alone (client_in b d) ≡ false)
    → MaskedClient (client_in b d)
unfolding client_in
masked-client b d writes reads =
    let mode = at b scalars (mode_at d) in
    let alone = is_write_mode mode in
    let writing = is_write_mode mode || is_mixed_mode mode in
    record {
      asked = by_cond (λ (p : ReadPart). Only p.set p.asked) alone _ _ (λ m k e. refl)
          (λ m. only-within _ _);
      answers = by_cond (λ (p : ReadPart). Only p.set p.values) alone _ _ (λ m k e. refl)
          (λ m. only-within _ _);
      firsts = by_cond OnlyCome alone _ _ (λ m k e. refl) (λ m. reply-none _ _ _ _ _ _);
      values = by_cond (λ (p : WritePart). Only p.set p.values) writing _ _
          (λ m. only-within _ _) (λ m k e. refl);
      writing = λ w. by-test alone (λ m. rw m refl) (λ m. not-both w (reads m));
      others = λ w. by-test writing (λ m. not-both (writes m) w) (λ m. rw m refl);
      last = masked-ended b d;
    }

pub masked-rested : (c : Client) (last : Ended) → MaskedEnded last → MaskedClient (rested c last)
masked-rested c last m =
    record {
      asked = λ k e. refl;
      answers = λ k e. refl;
      firsts = λ k e. refl;
      values = λ k e. refl;
      writing = λ w. not-both w refl;
      others = λ w. refl;
      last = m;
    }

pub masked-tables : (b : List ℕ) → valid_block b ≡ true → Masked (tables_of b)
unfolding tables_of
masked-tables b v =
    let f = (tells-valid-block b).0 v in
    record {
      latest = λ k e. rw e;
      client_view = λ d k e. rw e;
      item_view = λ d k e. by-test (is_client (sizes_in b) d) (λ c. rw (c, e)) (λ c. rw c);
      absent = λ d e. rw e;
      client = λ d. by_cond MaskedClient (is_client (sizes_in b) d) _ _
          (λ c. let i = between 1 (sizes_in b).clients d c in
          let h = holds-client b (sizes_in b) d (client-range b f d i) (f.well_formed.mode d i)
          (f.well_formed.idle d i) (f.well_formed.parts d i) in
          masked-client b d
          (λ m. sym (tells-writing b d (sizes_in b) (client_in b d) h (client-range b f d i)) ∙ m)
          (λ m. sym (tells-alone b d (sizes_in b) (client_in b d) h (client-range b f d i)) ∙ m))
          (λ c. masked-rested (resting 0 nothing) nothing masked-nothing);
    }
