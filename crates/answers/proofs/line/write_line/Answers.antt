-- `answers::line::write_line` writes the line of an answer and a newline.
use Rattle.std.proofs.Common.{rules}
use Rattle.answers.proofs.Writing.{last_written}
use Rattle.answers.proofs.line.write_line.Goals as goal

pub returns-clause-line_written : goal.returns-clause-line_written
returns-clause-line_written c = last_written _ _ _ _ _ _ c.answer.ensures.wrote c.text.ensures (search rules)
