-- `reader::rows::read_rows` answers as its model says, and so tells what the definition reads. Assumes nothing.
use mathlib.Core.Path.{sym, ◌∙◌}
use Rattle.std.proofs.Common.{rules}
use Rattle.reader.specs.Reads.{expression_rows}
use Rattle.reader.proofs.Whole.{rows_read, part_told}
use Rattle.reader.proofs.rows.read_rows.Goals as goal

pub returns-then-image-gt16384 : goal.returns-then-image-gt16384
unfolding expression_rows
returns-then-image-gt16384 c = rows_read (search rules)

pub returns-then-image-at : goal.returns-then-image-at
unfolding expression_rows
returns-then-image-at c = rows_read (search rules)

pub returns-then-rows-most_rows : goal.returns-then-rows-most_rows
unfolding expression_rows
returns-then-rows-most_rows c = rows_read (search rules)

pub returns-in-Ok : goal.returns-in-Ok
returns-in-Ok c =
    rows_read
    (c.end_rows.ensures
    ∙ sym
    (part_told _ _ _ _ _ c.if-image-gt16384.false c.if-image-at.false (rw c.most_rows.ensures at c.if-rows-most_rows.false)
    (rw (c.outermost.ensures, c.start.ensures, ← c.in-Ok.ensures.is) at c.read_part-answer.ensures)))

pub returns-in-Err : goal.returns-in-Err
returns-in-Err c =
    rows_read
    (rw c.into-in-Err.ensures
    (sym
    (part_told _ _ _ _ _ c.if-image-gt16384.false c.if-image-at.false (rw c.most_rows.ensures at c.if-rows-most_rows.false)
    (rw (c.outermost.ensures, c.start.ensures, ← c.in-Err.ensures.is) at c.read_part-answer.ensures))))
