-- The expression as it goes into lent rows: the answer, and the numbers then. A node's row stands behind its parts' rows. Where something is
-- refused, the rows written up to there stay.
use Rattle.std.specs.Prelude.{ℕ, zero, suc, ◌+◌, ◌-◌, ◌*◌, Bool, true, false, List, leb, ltb, length, drop, min, Result, Ok, Err}
use Rattle.choice.specs.Choice.{choose}
use Rattle.cells.specs.declared.Mode.TheVariants.{Checked}
use Rattle.calculus.specs.Operations.{operation_of}
use Rattle.calculus.specs.declared.Act.{Act}
use Rattle.calculus.specs.declared.Operation.{Operation}
use Rattle.calculus.specs.declared.Operation.TheVariants as op
use Rattle.calculus.specs.declared.Fault.TheVariants as fault
use Rattle.calculus.specs.declared.Refusal.{Refusal}
use Rattle.tables.specs.Heads.{head_number}
use Rattle.tables.specs.Rows.{whole_rows, put_row}
use Rattle.tables.specs.declared.RowHead.{RowHead}
use Rattle.tables.specs.declared.Task.{Task}
use Rattle.tables.specs.declared.Task.TheVariants as task
use Rattle.image.specs.Parsing.{Parsed, got, refused, then_read, number, below}
use Rattle.image.specs.Tables.{read_target}
use Rattle.image.specs.Answers.{refusal, on_answer, mapped, pointer_code}
use Rattle.image.specs.Tabling.{on_read, on_filled}
use Rattle.image.specs.Filled.{Filled, filled}
use Rattle.reader.specs.Cursors.{ReadingAt, reading_at, behind_head, behind_row, more_lets, crossed}
use Rattle.reader.specs.declared.PartLine.{PartLine}
use Rattle.reader.specs.declared.Expression.{Expression}
use Rattle.reader.specs.declared.NotRead.{NotRead}
use Rattle.reader.specs.declared.NotRead.TheVariants.{Refused, Short}

-- the answer of a reading, and the rows then
abbrev pub Reading : Type 0
Reading = Filled (Result ReadingAt Refusal)

-- a reader of parts: told how many lets it is inside of, whether it lies inside an unchecked block, and where reading stands
abbrev pub PartReader : Type 0
PartReader = (lets : ℕ) (inside : Bool) → ReadingAt → List ℕ → Reading

-- a row behind the rows up to `end`
abbrev pub row_put : (end : ReadingAt) → RowHead → (datum : ℕ) → List ℕ → Reading
row_put end h datum rows =
    filled (Ok (behind_row end)) (put_row rows end.rows (head_number h.task h.inside h.slot h.left h.node) datum)

-- the row of the node at `cursor`, which has the mode of the code around the node
abbrev pub row_head : Task → (inside : Bool) (slot left : ℕ) → (cursor : ReadingAt) → RowHead
row_head t inside slot left cursor = record { task = t; inside = inside; slot = slot; left = left; node = cursor.nodes }

-- ---- nodes without parts, from behind their code on
unfoldable pub literal_rows : (image : List ℕ) (known : ℕ) (inside : Bool) (cursor : ReadingAt) (at : ℕ) → List ℕ → Reading
literal_rows image known inside cursor at t =
    on_read (number image at) t
    (λ n at₁. on_read (below fault.Unknown known image at₁) t
    (λ k at₂. row_put (behind_head cursor at₂) (row_head task.Literal inside k 0 cursor) n t))

unfoldable pub variable_rows : (image : List ℕ) (lets : ℕ) (inside : Bool) (cursor : ReadingAt) (at : ℕ) → List ℕ → Reading
variable_rows image lets inside cursor at t =
    on_read (below fault.Unknown lets image at) t
    (λ k at₁. row_put (behind_head cursor at₁) (row_head task.Variable inside k 0 cursor) 0 t)

unfoldable pub malloc_rows : (image : List ℕ) (known structs : ℕ) (inside : Bool) (cursor : ReadingAt) (at : ℕ) → List ℕ → Reading
malloc_rows image known structs inside cursor at t =
    on_read (mapped (pointer_code Checked) (read_target image structs known at)) t
    (λ k at₁. row_put (behind_head cursor at₁) (row_head task.Malloc inside 0 0 cursor) k t)

-- ---- nodes with parts, from behind their code on: each part is read by `part`
-- what stands between the code of a node with one part and the part: what the row does, its slot and datum, and whether the part lies
-- inside an unchecked block
abbrev pub one_line : Task → (slot datum : ℕ) → (inside : Bool) → PartLine
one_line t slot datum inside = record { task = t; slot = slot; datum = datum; inside = inside }

module _ (image : List ℕ) (known : ℕ) where
  -- by the operation; another is unknown, at the code
  unfoldable pub part_line : (inside : Bool) (first : ℕ) → Operation → (at : ℕ) → Parsed PartLine
  part_line inside first op.Unchecked at = got (one_line task.Unchecked 0 0 true) at
  part_line inside first op.Cast at = then_read (below fault.Unknown known image at) (λ n at₁. got (one_line task.Cast n 0 inside) at₁)
  part_line inside first op.Read at = got (one_line task.Read 0 0 inside) at
  part_line inside first op.Field at = then_read (number image at) (λ f at₁. got (one_line task.Field 0 f inside) at₁)
  part_line inside first op.Literal at = refused fault.Unknown first
  part_line inside first op.Variable at = refused fault.Unknown first
  part_line inside first op.Let at = refused fault.Unknown first
  part_line inside first op.Malloc at = refused fault.Unknown first
  part_line inside first (op.Acts o) at = refused fault.Unknown first
  part_line inside first op.Unknown at = refused fault.Unknown first

module _ (part : PartReader) (lets : ℕ) (inside : Bool) (cursor : ReadingAt) where
  -- a node with one part
  abbrev pub one_into : Parsed PartLine → List ℕ → Reading
  one_into line t =
      on_read line t
      (λ l next. on_filled (part lets l.inside (behind_head cursor next) t)
      (λ end t₁. row_put end (row_head l.task inside l.slot 0 cursor) l.datum t₁))

  -- an act: its row tells where its left part's rows end
  unfoldable pub act_rows : Act → (at : ℕ) → List ℕ → Reading
  act_rows o at t =
      on_filled (part lets inside (behind_head cursor at) t)
      (λ left t₁. on_filled (part lets inside left t₁)
      (λ end t₂. row_put end (row_head (task.Acts o) inside 0 left.rows cursor) 0 t₂))

  -- a let: a row between bound part and body, and one behind the body, which tells the other
  unfoldable pub let_rows : (at : ℕ) → List ℕ → Reading
  let_rows at t =
      on_filled (part lets inside (behind_head cursor at) t)
      (λ bound t₁. on_filled (row_put bound (row_head task.Bind inside 0 0 cursor) 0 t₁)
      (λ body t₂. on_filled (part (more_lets lets) inside body t₂)
      (λ end t₃. row_put end (row_head task.Unbind inside 0 bound.rows cursor) 0 t₃)))

module _ (image : List ℕ) (known : ℕ) where
  unfoldable pub one_rows : PartReader → (lets : ℕ) (inside : Bool) → ReadingAt → Operation → (at : ℕ) → List ℕ → Reading
  one_rows part lets inside cursor o at t = one_into part lets inside cursor (part_line image known inside cursor.offset o at) t

-- a part that is read through the recursive call
abbrev pub crossing : Reading → Reading
crossing F = filled (crossed F.result) F.table

module _ (image : List ℕ) (known structs : ℕ) where
  -- a node from behind its code on, by its operation
  abbrev pub operation_rows : PartReader → (lets : ℕ) (inside : Bool) → ReadingAt → Operation → (at : ℕ) → List ℕ → Reading
  operation_rows part lets inside cursor op.Literal at t = literal_rows image known inside cursor at t
  operation_rows part lets inside cursor op.Variable at t = variable_rows image lets inside cursor at t
  operation_rows part lets inside cursor op.Let at t = let_rows part lets inside cursor at t
  operation_rows part lets inside cursor op.Malloc at t = malloc_rows image known structs inside cursor at t
  operation_rows part lets inside cursor op.Unchecked at t = one_rows image known part lets inside cursor op.Unchecked at t
  operation_rows part lets inside cursor op.Cast at t = one_rows image known part lets inside cursor op.Cast at t
  operation_rows part lets inside cursor op.Read at t = one_rows image known part lets inside cursor op.Read at t
  operation_rows part lets inside cursor (op.Acts o) at t = act_rows part lets inside cursor o at t
  operation_rows part lets inside cursor op.Field at t = one_rows image known part lets inside cursor op.Field at t
  operation_rows part lets inside cursor op.Unknown at t = one_rows image known part lets inside cursor op.Unknown at t

  -- the node at the cursor with its parts, at most `deep` deep
  unfoldable pub node_rows : (deep : ℕ) → PartReader
  node_rows zero lets inside cursor t =
      on_read (number image cursor.offset) t (λ _ _. filled (Err (refusal fault.Limit cursor.offset)) t)
  node_rows (suc deep) lets inside cursor t =
      on_read (number image cursor.offset) t
      (λ code next. choose (leb 2048 cursor.nodes)
      (λ _. filled (Err (refusal fault.Limit cursor.offset)) t)
      (λ _. operation_rows (λ l b s t'. crossing (node_rows deep l b s t')) lets inside cursor (operation_of code) next t))

  abbrev pub part_rows : (deep : ℕ) → PartReader
  part_rows deep lets inside cursor t = crossing (node_rows deep lets inside cursor t)

-- ---- the whole expression
-- behind it: the row that stops; places are told from `at` on
abbrev pub expression_told : (at : ℕ) → ReadingAt → Expression
expression_told at end = record { next = at + end.offset; nodes = end.nodes; rows = end.rows + 1 }

abbrev pub expr_ended : (at : ℕ) (end : ReadingAt) → List ℕ → Filled (Result Expression NotRead)
expr_ended at end t = filled (Ok (expression_told at end)) (put_row t end.rows (head_number task.Stop false 0 0 0) 0)

abbrev pub expr_refused : (at : ℕ) → Refusal → List ℕ → Filled (Result Expression NotRead)
expr_refused at q t = filled (Err (Refused (refusal q.fault (at + q.place)))) t

-- how many rows an expression in so many bytes may take: a node takes a byte at least, "at most 2,048 nodes", and of n nodes there are at
-- most 2n rows, the one that stops counted
abbrev pub most_rows : (bytes : ℕ) → ℕ
most_rows bytes = 2 * min bytes 2048

-- "An image has at most 16,384 bytes." The expression that starts at `at` is read in the part of the image that starts there.
unfoldable pub expression_rows : (image : List ℕ) (known structs at : ℕ) → List ℕ → Filled (Result Expression NotRead)
expression_rows image known structs at t =
    choose (ltb 16384 (length image)) (λ _. filled (Err (Refused (refusal fault.Limit 0))) t) λ _.
    choose (ltb (length image) at) (λ _. filled (Err (Refused (refusal fault.Ends at))) t) λ _.
    choose (ltb (whole_rows t) (most_rows (length image - at))) (λ _. filled (Err Short) t) λ _.
    let F : Reading = part_rows (drop at image) known structs 64 0 false (reading_at 0 0 0) t in
    on_answer F.result (λ q. expr_refused at q F.table) (λ end. expr_ended at end F.table)
