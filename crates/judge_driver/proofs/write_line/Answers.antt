-- `judge_driver::write_line` meets its contract.
use Rattle.std.proofs.Common.{◌≡◌, ℕ, ◌+◌, ◌*◌, ◌++◌, ◌∷◌, [], List, length, take, ap, ◌∙◌, arith}
use lib.ListN.{set}
use Rattle.hexadecimal.specs.Number.{big_endian}
use Rattle.hexadecimal.proofs.Number.{length-big_endian}
use Rattle.hexadecimal.specs.Text.{hex_text}
use Rattle.hexadecimal.proofs.Text.{length-hex_text}
use Rattle.judge_driver.proofs.Lines.{line-stored}
use Rattle.judge_driver.proofs.write_line.Goals as goal

pub returns-clause-out_after : goal.returns-clause-out_after
returns-clause-out_after c =
    let a = c.answer_of-a.result in
    let bytes = big_endian a.size a.number in
    let long : length (hex_text bytes) ≡ 2 * a.size =
    omega (arith, length-hex_text bytes, length-big_endian a.size a.number) in
    ap (λ (l : List ℕ). take (2 * a.size + 1) (set l (2 * a.size) 10)) c.put_number.ensures
    ∙ line-stored (hex_text bytes) c.args.out.now (2 * a.size) 10 long (omega arith)
    ∙ ap (λ (l : List ℕ). hex_text l ++ 0x0a ∷ []) c.answer_of-a.ensures.number_value
