-- `judge_driver::answer_of` meets its contract, case by case.
use Rattle.std.proofs.Common.{sym, ap, arith}
use Rattle.hexadecimal.specs.Number.{big_endian}
use Rattle.findings.specs.Findings.{bytes_of}
use Rattle.judge_driver.proofs.Lines.{malformed-number, judged-number}
use Rattle.judge_driver.proofs.answer_of.Goals as goal

pub returns-in-TooLong-clause-number_value : goal.returns-in-TooLong-clause-number_value
unfolding big_endian
returns-in-TooLong-clause-number_value c = sym (ap bytes_of c.in-TooLong.is)

pub returns-in-Malformed-clause-number_value : goal.returns-in-Malformed-clause-number_value
returns-in-Malformed-clause-number_value c =
    rw (c.from.ensures, c.in-Malformed.is) (malformed-number c.in-Malformed.line (omega arith))

pub returns-in-Judged-clause-number_value : goal.returns-in-Judged-clause-number_value
returns-in-Judged-clause-number_value c =
    rw (c.from-in-Judged.ensures, c.from-in-Judged-2.ensures, c.in-Judged.is)
    (judged-number c.in-Judged.finding c.in-Judged.line (omega arith) (omega arith))
