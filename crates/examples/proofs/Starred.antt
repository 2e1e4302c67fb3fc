-- Document 01's starred bench examples, of the store and of the judge, and its whole session: one
-- table, in that paper's order, proved by computing every answer through the whole definitions.
use mathlib.Core.Bool.{Bool, true}
use mathlib.Core.List.{List, [], ◌∷◌}
use mathlib.Core.Path.{◌≡◌, refl}
use Rattle.basics.specs.Lists.{all}
use Rattle.hexadecimal.specs.Digit.{hex_digit}
use Rattle.hexadecimal.specs.Number.{big_endian}
use Rattle.hexadecimal.specs.Text.{hex_text}
use Rattle.protocol.proofs.Examples.{fresh_largest, fresh_too_large, load_two_fit, load_two_too_many}
use Rattle.protocol.proofs.Examples.{versions_two_fit, versions_two_too_many, asks_sibling}
use Rattle.protocol.proofs.Examples.{asks_greater_client, whole_session}
use Rattle.protocol.proofs.Examples.Table as store
use Rattle.log_format.proofs.Rows.{line}
use Rattle.findings.proofs.Examples.{empty_log, half_shown, all_shown}
use Rattle.findings.proofs.Examples as judge

-- calls on tables with their answers and a test of the tables after them, or a log with its verdict
data Row : Type 0 where
  of_store : store.Row → Row
  of_judge : judge.Row → Row

right : Row → Bool
right (of_store r) = store.right r
right (of_judge r) = judge.right r

rows : List Row
rows =
    -- ★ Fresh 8, 8, 64 accepted
    of_store fresh_largest
    -- ★ 9, 8, 64: 2
    ∷ of_store fresh_too_large
    -- ★ Load 126, two lines accepted
    ∷ of_store load_two_fit
    -- ★ 127: 8
    ∷ of_store load_two_too_many
    -- ★ 510 versions, no prepares, two lines accepted
    ∷ of_store versions_two_fit
    -- ★ 511: 9
    ∷ of_store versions_two_too_many
    -- ★ View 0 = (2, desk 1, {0,1}), view 1 = (1, desk 2, {1}): both ask for 2, desk 1
    ∷ of_store asks_sibling
    -- ★ View 0 = (1, desk 2, {0}), view 1 = (1, desk 1, {0,1}): line 0 asks for 1, desk 2; line 1
    -- for 1, desk 1
    ∷ of_store asks_greater_client
    -- ★ Empty log: 00000000
    ∷ of_judge empty_log
    -- ★ Write of {0,1}, number 1, by desk 1, then a read by desk 2 with line 0 from it and line 1
    -- initial: 00020002
    ∷ of_judge half_shown
    -- ★ Same, both from the write: clean
    ∷ of_judge all_shown
    -- a whole session
    ∷ of_store whole_session
    ∷ []

starred : all right rows ≡ true
unfolding all rows right store.right judge.right line hex_text big_endian hex_digit
starred = refl
