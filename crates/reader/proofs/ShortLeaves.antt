-- A leaf that is read by its bytes is read as any node is.
use Prim.Native.Nat.{ℕ, zero, suc, ◌+◌, ◌-◌, ◌≤◌, ◌<◌}
use mathlib.Core.Path.{◌≡◌, ◌∙◌, ap}
use mathlib.Core.Bool.{Bool, true, false}
use mathlib.Core.List.{List}
use native.Mathlib.Omega.{arith}
use lib.ListN.{length, get_or, take, drop, length-drop}
use lib.Seq.{take_all}
use borrow.Author.Tests.{lt-ltb, lt-leb}
use Rattle.std.proofs.lemmas.List.{get_or-drop}
use Rattle.calculus.specs.Operations.{operation_of}
use Rattle.tables.specs.declared.Task.TheVariants as task
use Rattle.image.specs.Parsing.{got, number, below}
use Rattle.reader.specs.Cursors.{ReadingAt, behind_head}
use Rattle.reader.specs.Reads.{row_put, row_head, literal_rows, variable_rows, node_rows}
use Rattle.reader.proofs.OneByte.{one_byte}

-- the test was not passed
pub not_passed : {A : Type 0} → false ≡ true → A
not_passed e = cc

-- the bytes from an offset on
abbrev bytes_from : List ℕ → (at : ℕ) → List ℕ
bytes_from image at = take (length image - at) (drop at image)

module _ (image : List ℕ) (at : ℕ) where
  all_there : bytes_from image at ≡ drop at image
  all_there = take_all (length image - at) (drop at image) (omega (arith, length-drop at image))

  -- one of them is a number
  number_there : (k : ℕ) → k < length (bytes_from image at) → get_or (bytes_from image at) k 0 < 128 → (j next : ℕ) → j ≡ at + k → next ≡ j + 1
      → number image j ≡ got (get_or (bytes_from image at) k 0) next
  number_there k l h j next e n =
      let same : get_or (bytes_from image at) k 0 ≡ get_or image (at + k) 0 =
      ap (λ (l : List ℕ). get_or l k 0) all_there ∙ get_or-drop at image k 0 in
      let there : at + k < length image = omega (arith, ap length all_there, length-drop at image) in
      rw (same, n, e) (one_byte image (at + k) there (omega arith))

module _ (image : List ℕ) (known structs : ℕ) (deep lets : ℕ) (inside : Bool) (cursor : ReadingAt) (t : List ℕ) where
  -- a literal's code, its value and its word type, in the bytes from the cursor's offset on
  pub short_literal : 3 ≤ length (bytes_from image cursor.offset) → get_or (bytes_from image cursor.offset) 0 0 ≡ 0
      → get_or (bytes_from image cursor.offset) 1 0 < 128
      → get_or (bytes_from image cursor.offset) 2 0 < 128 → get_or (bytes_from image cursor.offset) 2 0 < known → 0 < deep → cursor.nodes < 2048
      → node_rows image known structs deep lets inside cursor t
      ≡ row_put (behind_head cursor (cursor.offset + 3)) (row_head task.Literal inside (get_or (bytes_from image cursor.offset) 2 0) 0 cursor)
      (get_or (bytes_from image cursor.offset) 1 0) t
  unfolding node_rows literal_rows operation_of below
  short_literal l c f s k d few =
      let at : ℕ = cursor.offset in
      let some : deep ≡ suc (deep - 1) = omega arith in
      rw (
        some,
        number_there image at 0 (omega arith) (omega arith) at (at + 1) (omega arith) (omega arith),
        lt-leb 2048 cursor.nodes few,
        c,
        number_there image at 1 (omega arith) f (at + 1) (at + 2) (omega arith) (omega arith),
        number_there image at 2 (omega arith) s (at + 2) (at + 3) (omega arith) (omega arith),
        lt-ltb (get_or (bytes_from image at) 2 0) known k,
      )

  -- a variable's code, and how many lets out it is bound
  pub short_variable : 3 ≤ length (bytes_from image cursor.offset) → get_or (bytes_from image cursor.offset) 0 0 ≡ 1
      → get_or (bytes_from image cursor.offset) 1 0 < 128
      → get_or (bytes_from image cursor.offset) 1 0 < lets → 0 < deep → cursor.nodes < 2048
      → node_rows image known structs deep lets inside cursor t
      ≡ row_put (behind_head cursor (cursor.offset + 2)) (row_head task.Variable inside (get_or (bytes_from image cursor.offset) 1 0) 0 cursor) 0 t
  unfolding node_rows variable_rows operation_of below
  short_variable l c f k d few =
      let at : ℕ = cursor.offset in
      let some : deep ≡ suc (deep - 1) = omega arith in
      rw (
        some,
        number_there image at 0 (omega arith) (omega arith) at (at + 1) (omega arith) (omega arith),
        lt-leb 2048 cursor.nodes few,
        c,
        number_there image at 1 (omega arith) f (at + 1) (at + 2) (omega arith) (omega arith),
        lt-ltb (get_or (bytes_from image at) 1 0) lets k,
      )
