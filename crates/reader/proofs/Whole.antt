-- The whole expression: what is answered, and what the rows hold then, is what the definition reads.
use Prim.Native.Nat.{ℕ, ◌+◌, ◌-◌, ◌≤◌, ◌<◌}
use mathlib.Core.Path.{◌≡◌, refl, sym, ◌∙◌, ap, subst}
use mathlib.Core.Bool.{false}
use mathlib.Core.List.{List, [], ◌∷◌, map}
use native.Mathlib.Omega.{arith}
use native.Mathlib.Nat.{zero-add}
use native.Mathlib.Numerals.{add-one}
use lib.Dec.{ltb}
use lib.ListN.{length, get_or, take, drop, length-drop}
use lib.Seq.{take_all}
use borrow.Author.Tests.{le-ltb, ltb-true, ltb-false}
use Rattle.std.proofs.Common.{Result, Ok, Err}
use Rattle.choice.specs.Choice.{choose_told}
use Rattle.cells.specs.Code.{packed, Small}
use Rattle.cells.specs.declared.Mode.TheVariants.{Checked}
use Rattle.cells.specs.declared.Kind.TheVariants.{Int}
use Rattle.calculus.specs.Expr.{Expr, nodes}
use Rattle.calculus.specs.declared.Fault.TheVariants as fault
use Rattle.calculus.specs.declared.Refusal.{Refusal}
use Rattle.numbers.specs.Reading.{groups}
use Rattle.tables.specs.Heads.{head_number}
use Rattle.tables.specs.Rows.{whole_rows, put_row, TaskRow}
use Rattle.tables.specs.Parts.{PartRows, HoldsExpr}
use Rattle.tables.specs.declared.Task.TheVariants as task
use Rattle.tables.proofs.Laid.{rows_few, kept_put, part_kept}
use Rattle.tables.proofs.Placed.{length_row}
use Rattle.tables.proofs.Written.{row_written}
use Rattle.image.specs.Content.{Tables}
use Rattle.image.specs.Parsing.{Parsed, refused, number, carried}
use Rattle.image.specs.Nodes.{read_head, read_node}
use Rattle.image.specs.Image.{read_expr}
use Rattle.image.specs.Answers.{on_answer}
use Rattle.image.specs.Filled.{Filled, filled}
use Rattle.reader.specs.Cursors.{ReadingAt, reading_at}
use Rattle.reader.specs.Reads.{Reading, part_rows, expr_ended, expr_refused, most_rows, expression_rows}
use Rattle.reader.specs.Told.{BehindKept, TellsRows, tells_expr, tells_refused, tells_short, RowsRead}
use Rattle.reader.specs.declared.Expression.{Expression}
use Rattle.reader.specs.declared.NotRead.{NotRead}
use Rattle.reader.proofs.Into.{RowRoom, IntoRows, into, stopped, crossing_into, put_behind, behind_then}
use Rattle.reader.proofs.Noded.{node_in_lem}

-- an answer with the rows then
abbrev Says : (types : List ℕ) (bytes : ℕ) (t : List ℕ) → Parsed Expr → Filled (Result Expression NotRead) → Type 0
Says types bytes t x F = TellsRows types bytes t F.table F.result x

-- ---- behind the last node: the row that stops
abbrev held : {types rows : List ℕ} {e : Expr} {q : ℕ} → PartRows types rows Checked 0 0 e q → q < whole_rows rows
    → HoldsExpr types (put_row rows q (head_number task.Stop false 0 0 0) 0) Checked 0 0 e
held {types} {rows} {q = q} x there =
    record {
      end = q;
      part = part_kept (kept_put rows {end = q} (head_number task.Stop false 0 0 0) 0 (omega arith)) (omega arith) x;
      stops = ap (λ (r : TaskRow). r.work) (row_written types rows q task.Stop false 0 0 0 0 there (omega arith) (omega arith) (omega arith));
    }

ended_tells : {tail types t : List ℕ} {F : Reading} {r : Parsed Expr} (bytes at : ℕ) → RowRoom tail t
    → IntoRows tail types t false 0 0 0 F r
    → Says types bytes t (carried at r) (on_answer F.result (λ q. expr_refused at q F.table) (λ end. expr_ended at end F.table))
ended_tells {types = types} {t} bytes at room (into {e} {next} {q} {t'} few long end x front back) =
    let f = rows_few x in
    let space = room.space (nodes e) (omega arith) (omega arith) in
    let there : q < whole_rows t' = rw front.long (omega arith) in
    rw zero-add
    (tells_expr {next = at + next} (held x there) (length_row t' q (head_number task.Stop false 0 0 0) 0 ∙ front.long)
    (subst (λ (n : ℕ). BehindKept n t (put_row t' q (head_number task.Stop false 0 0 0) 0)) (sym (add-one q))
    (behind_then back (omega arith) (put_behind t' q (head_number task.Stop false 0 0 0) 0))))
ended_tells bytes at room (stopped w e) = tells_refused e

-- ---- the part of the image that starts at an offset
nothing_left : (image : List ℕ) (at : ℕ) → length image < at → drop at image ≡ []
nothing_left image at h = empty (drop at image) (omega (arith, length-drop at image))
  where
    empty : (l : List ℕ) → length l ≡ 0 → l ≡ []
    empty [] e = refl
    empty (x ∷ l) e = absurd (omega arith)

-- an offset behind the image: it ends there
nothing_there : (image : List ℕ) (tables : Tables) (at : ℕ) → length image < at → read_expr image tables at ≡ refused fault.Ends at
unfolding read_expr read_node read_head number groups
nothing_there image tables at h = let e : at + 0 ≡ at = omega arith in rw (nothing_left image at h, e)

-- rows enough for the bytes are rows enough for the nodes
roomy : {tail t : List ℕ} (bytes : ℕ) → length tail ≡ bytes → most_rows bytes ≤ whole_rows t → RowRoom tail t
roomy bytes e l = record { space = λ n a b. omega arith }

module _ (image : List ℕ) (tables : Tables) (at : ℕ) (t : List ℕ) (not_long : length image ≤ 16384) (types_few : length tables.types ≤ 256)
    (structs_few : length tables.structs ≤ 256) (small : (n : ℕ) → Small (get_or tables.types n Int)) where
  -- the node at the front of the part, and then the row that stops
  read_tells : most_rows (length image - at) ≤ whole_rows t
      → let F : Reading = part_rows (drop at image) (length tables.types) (length tables.structs) 64 0 false (reading_at 0 0 0) t in
      Says (map packed tables.types) (length image - at) t (read_expr image tables at)
      (on_answer F.result (λ q. expr_refused at q F.table) (λ end. expr_ended at end F.table))
  unfolding read_expr
  read_tells l =
      let long = length-drop at image in
      let near : length (drop at image) < 274877906944 = omega (arith, long) in
      let room : RowRoom (drop at image) t = roomy (length image - at) long l in
      ended_tells (length image - at) at room
      (crossing_into (drop at image) (map packed tables.types) near (omega arith)
      (node_in_lem (drop at image) near tables types_few structs_few small 64 0 false 0 0 0 t (omega arith)
      (record { few = omega arith; passed = omega arith; within = omega arith; low = omega arith }) room))

  expression_tells : Says (map packed tables.types) (length image - at) t (read_expr image tables at)
      (expression_rows image (length tables.types) (length tables.structs) at t)
  unfolding expression_rows
  expression_tells =
      rw (le-ltb 16384 (length image) not_long)
      (choose_told (Says (map packed tables.types) (length image - at) t (read_expr image tables at)) (ltb (length image) at) _ _
      (λ e. rw (nothing_there image tables at (ltb-true (length image) at e)) (tells_refused refl))
      (λ e. choose_told (Says (map packed tables.types) (length image - at) t (read_expr image tables at))
      (ltb (whole_rows t) (most_rows (length image - at))) _ _
      (λ l. tells_short (ltb-true (whole_rows t) (most_rows (length image - at)) l) refl)
      (λ l. read_tells (ltb-false (whole_rows t) (most_rows (length image - at)) l))))

-- What the code ensures follows from what it answers.
pub rows_read : {image : List ℕ} {known structs at : ℕ} {t : List ℕ} {r : Result Expression NotRead} {t' : List ℕ}
    → filled r t' ≡ expression_rows image known structs at t → RowsRead image known structs at t r t'
rows_read {image} {known} {structs} {at} {t} {r} {t'} e =
    record {
      model = e;
      definition = λ tables not_long types_are structs_are types_few structs_few small.
          subst (Says (map packed tables.types) (length image - at) t (read_expr image tables at))
          (rw (types_are, structs_are) (sym e))
          (expression_tells image tables at t not_long (rw types_are types_few) (rw structs_are structs_few) small);
    }

-- a part up to the end is all that is left
tail_whole : (image : List ℕ) (at : ℕ) → take (length image - at) (drop at image) ≡ drop at image
tail_whole image at = take_all (length image - at) (drop at image) (omega (arith, length-drop at image))

-- what is answered where the node at the front of the part was read
pub part_told : (image : List ℕ) (known structs at : ℕ) (t : List ℕ) → length image ≤ 16384 → at ≤ length image
    → most_rows (length image - at) ≤ whole_rows t → {r : Result ReadingAt Refusal} {t' : List ℕ}
    → filled r t' ≡ part_rows (take (length image - at) (drop at image)) known structs 64 0 false (reading_at 0 0 0) t
    → expression_rows image known structs at t ≡ on_answer r (λ q. expr_refused at q t') (λ end. expr_ended at end t')
unfolding expression_rows
part_told image known structs at t short in_image enough e =
    rw (
      le-ltb 16384 (length image) short,
      le-ltb (length image) at in_image,
      le-ltb (whole_rows t) (most_rows (length image - at)) enough,
    )
    (ap (λ (F : Reading). on_answer F.result (λ q. expr_refused at q F.table) (λ end. expr_ended at end F.table)) (sym (rw (tail_whole image at) at e)))
