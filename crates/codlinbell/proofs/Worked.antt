-- The worked images P1 to P14 with their variants, from bytes, in one theorem over their table.
use mathlib.Core.Path.{◌≡◌, refl}
use mathlib.Core.List.{[], map}
use Rattle.choice.specs.Choice.{all_from}
use Rattle.numbers.specs.Reading.{groups, last_group}
use Rattle.cells.specs.Code.{packed}
use Rattle.cells.specs.Same.{same_mode, same_kind}
use Rattle.cells.specs.Heap.{look, update}
use Rattle.cells.specs.Free.{first_run}
use Rattle.cells.specs.Lent.{numbers_of}
use Rattle.calculus.specs.Setting.{size, word_kind, checked_pointer, checked_empty}
use Rattle.calculus.specs.Expr.{nodes}
use Rattle.calculus.specs.Operations.{operation_of}
use Rattle.calculus.specs.Literal.{well_lit, in_scope}
use Rattle.calculus.specs.Judge.{judge}
use Rattle.calculus.specs.Steps.{step, sum_redex, word_then, field_redex, zeroed, malloc_redex, replace}
use Rattle.calculus.specs.Run.{run}
use Rattle.image.specs.Content.{placed}
use Rattle.image.specs.Parsing.{number, below, several}
use Rattle.image.specs.Tables.{read_struct, read_target, read_entry, is_among, read_types}
use Rattle.image.specs.Cells.{read_address, read_cell, read_cells}
use Rattle.image.specs.Nodes.{head_of, read_head, read_parts, read_node}
use Rattle.image.specs.Image.{read_image, read_format, read_tables, read_placed, read_expr}
use Rattle.codlinbell.specs.Answered.{answered}
use Rattle.codlinbell.specs.WorkedImages.{worked_images, worked_answer, image_p2}
use Rattle.codlinbell.specs.Printed.{printed}
use Rattle.answers.specs.Line.{line, text, digits}

-- every worked image is answered as document 01 states, and the runner prints its two lines
pub worked :
    (map worked_answer worked_images ≡ map (λ r. r.stated) worked_images)
    × (printed image_p2 ≡ text "value 0 int steps 4 unchecked 0\n")
    × (printed [] ≡ text "refused 1 at 0\n")
unfolding answered read_image read_format read_tables read_placed read_expr number below several read_struct read_target read_entry is_among read_types read_address read_cell read_cells operation_of head_of read_head read_parts read_node placed groups last_group nodes judge well_lit in_scope all_from size word_kind checked_pointer checked_empty same_mode same_kind look update first_run step sum_redex word_then field_redex zeroed malloc_redex replace run numbers_of packed line digits printed
worked = (refl, refl, refl)
