-- `answers::line::Line::answer` writes the line of an answer.
use Rattle.answers.specs.Line.{line}
use Rattle.answers.proofs.Writing.{wrote_nine}
use Rattle.answers.proofs.line.Line.answer.Goals as goal

pub returns-in-Ok-clause-wrote : goal.returns-in-Ok-clause-wrote
unfolding line
returns-in-Ok-clause-wrote c =
    rw (
      c.number-in-Ok-3.ensures.wrote,
      c.text-in-Ok-5.ensures,
      c.number-in-Ok-2.ensures.wrote,
      c.text-in-Ok-4.ensures,
      c.kind.ensures.wrote,
      c.text-in-Ok-3.ensures,
      c.number-in-Ok.ensures.wrote,
      c.text-in-Ok-2.ensures,
      c.text-in-Ok.ensures,
      wrote_nine,
      c.end_word.ensures.value,
      c.end_value.ensures,
      c.end_kind.ensures,
      c.in-Ok.is,
    )
