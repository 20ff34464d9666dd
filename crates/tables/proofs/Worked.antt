-- A worked table: the rows of one expression that has each kind of node once, as numbers worked out by hand.
use mathlib.Core.Path.{refl}
use Prim.Native.Nat.{ℕ}
use mathlib.Core.List.{List, [], ◌∷◌}
use Rattle.cells.specs.Code.{packed, unpacked}
use Rattle.cells.specs.declared.Mode.TheVariants.{Checked}
use Rattle.cells.specs.declared.Kind.TheVariants.{Int}
use Rattle.calculus.specs.Expr.{Expr, lit, var, malloc, bind, one, two, nodes, unchecked, cast, read, field, act, to_word}
use Rattle.calculus.specs.declared.Act.TheVariants.{Assign, Sum}
use Rattle.tables.specs.Heads.{task_in, inside_in, slot_in, left_in, node_in}
use Rattle.tables.specs.Rows.{head_at, datum_at, task_row_at}
use Rattle.tables.specs.Parts.{part_lit, part_var, part_malloc, part_bind, part_one, part_two, HoldsExpr}

-- let x = 30 in *malloc(int) = unchecked { (int) (x + *(&x->1)) }
unfoldable pub worked_expr : Expr
worked_expr =
    bind (lit 30 Int)
    (two (act Assign) (malloc (to_word 0))
    (one unchecked (one (cast Int) (two (act Sum) (var 0) (one read (one (field 1) (var 0)))))))

unfoldable pub worked_rows : List ℕ
worked_rows =
    -- row 0: the literal, node 1
    268435457 ∷ 30 ∷
    -- row 1: the let, node 0: its value is bound
    10 ∷ 0 ∷
    -- row 2: malloc, node 3: 2 is the code of a checked pointer to int
    805306371 ∷ 2 ∷
    -- row 3: the sum's left part, node 7, inside the block
    1879048226 ∷ 0 ∷
    -- row 4: the variable of the field address, node 10
    2684354594 ∷ 0 ∷
    -- row 5: the field address, node 9, of field 1
    2415919143 ∷ 1 ∷
    -- row 6: the read, node 8: the sum's right part
    2147483686 ∷ 0 ∷
    -- row 7: the sum, node 6: its left part's rows end at row 4
    1610743849 ∷ 0 ∷
    -- row 8: the cast, node 5
    1342177317 ∷ 0 ∷
    -- row 9: the block, node 4, itself in checked code
    1073741828 ∷ 0 ∷
    -- row 10: the assign, node 2: its left part's rows end at row 3
    536969224 ∷ 0 ∷
    -- row 11: the let's end, node 0, with its hold's row
    32779 ∷ 0 ∷
    -- row 12: behind the last row
    0 ∷ 0 ∷
    []

-- the table holds them, and a row that stops behind them
pub worked_table : HoldsExpr (1 ∷ []) worked_rows Checked 0 0 worked_expr
unfolding worked_rows worked_expr nodes packed unpacked head_at datum_at task_row_at task_in inside_in slot_in left_in node_in
worked_table =
    record {
      end = 12;
      part =
          part_bind (part_lit refl) refl
          (part_two (part_malloc refl refl)
          (part_one (part_one (part_two (part_var refl) (part_one (part_one (part_var refl) refl) refl) refl) refl) refl)
          refl)
          refl;
      stops = refl;
    }
