-- Nodes with two parts go into the rows as the definition reads them, if their parts do.
use Prim.Native.Nat.{ℕ, suc, ◌+◌, ◌%◌, ◌^◌, ◌≤◌, ◌<◌}
use mathlib.Core.Path.{◌≡◌, ◌∙◌}
use mathlib.Core.Bool.{Bool}
use mathlib.Core.List.{List}
use native.Mathlib.Omega.{arith}
use lib.ListN.{length}
use Rattle.calculus.specs.Expr.{Expr, bind, two, nodes, act}
use Rattle.calculus.specs.declared.Act.{Act}
use Rattle.tables.specs.Heads.{head_number}
use Rattle.tables.specs.Rows.{put_row}
use Rattle.tables.specs.declared.Task.TheVariants as task
use Rattle.tables.proofs.Laid.{rows_few}
use Rattle.tables.proofs.Placed.{length_row}
use Rattle.image.specs.Parsing.{Parsed, got, then_read}
use Rattle.image.specs.Tabling.{on_filled}
use Rattle.reader.specs.Cursors.{reading_at, more_lets}
use Rattle.reader.specs.Reads.{Reading, PartReader, row_put, row_head, act_rows, let_rows}
use Rattle.reader.proofs.Cursors.{row_more, behind_is}
use Rattle.reader.proofs.Into.{StandsAt, RowRoom, roomy_kept, IntoRows, into, stopped, right_into, body_into}

-- one let more fits
pub more_is : (lets : ℕ) → lets < 128 → more_lets lets ≡ suc lets
more_is lets low = omega arith

-- each part, at most `deep` deep, goes into the rows as it is read
pub record EachPart (image types : List ℕ) (deep : ℕ) (part : PartReader) (get : ℕ → ℕ → ℕ → Parsed Expr) : Type 0 where
  pub goes : (lets : ℕ) (b : Bool) (i p at : ℕ) (t : List ℕ) → lets + deep < 128 → StandsAt image i p at → RowRoom image t
      → IntoRows image types t b i p at (part lets b (reading_at at i p) t) (get lets i at)

module _ (image types : List ℕ) (near : length image < 274877906944) (deep : ℕ) (part : PartReader) (get : ℕ → ℕ → ℕ → Parsed Expr)
    (each : EachPart image types deep part get) (lets : ℕ) (b : Bool) (low : lets + suc deep < 128) (t : List ℕ) (i p at : ℕ)
    (at_node : StandsAt image i p at) (room : RowRoom image t) (more : i < 2048) where
  -- behind the head of the node
  pub first_stands : {start : ℕ} → at < start → start ≤ length image → StandsAt image (suc i) p start
  first_stands l w = record { few = omega arith; passed = omega (arith, at_node.passed); within = w; low = omega (arith, at_node.low) }

  -- behind a part that was read
  act_behind : (o : Act) {F : Reading} {r : Parsed Expr} {start : ℕ} → at < start → IntoRows image types t b (suc i) p start F r
      → IntoRows image types t b i p at
      (on_filled F (λ left t₁. on_filled (part lets b left t₁)
      (λ end t₂. row_put end (row_head (task.Acts o) b 0 left.rows (reading_at at i p)) 0 t₂)))
      (then_read r (λ u at₁. then_read (get lets (suc i + nodes u) at₁) (λ v at₂. got (two (act o) u v) at₂)))
  act_behind o {start = start} l (into {e = u} {next = mid} {q} {t' = t₁} few long end x front back) =
      let f = rows_few x in
      right_into image types near b t i p at at_node room more o (omega arith) x front back
      (each.goes lets b (suc i + nodes u) q mid t₁ (omega arith)
      (record { few = few; passed = omega (arith, at_node.passed); within = end; low = omega (arith, at_node.low) })
      (roomy_kept front.long room))
  act_behind o l (stopped w e) = stopped w e

  pub act_into : (o : Act) (start : ℕ) → at < start → start ≤ length image
      → IntoRows image types t b i p at (act_rows part lets b (reading_at at i p) o start t)
      (then_read (get lets (suc i) start) (λ u at₁. then_read (get lets (suc i + nodes u) at₁) (λ v at₂. got (two (act o) u v) at₂)))
  unfolding act_rows
  act_into o start l w =
      rw (behind_is at i p start (omega arith) (omega arith))
      (act_behind o {r = get lets (suc i) start} l (each.goes lets b (suc i) p start t (omega arith) (first_stands l w) room))

  let_behind : {F : Reading} {r : Parsed Expr} {start : ℕ} → at < start → IntoRows image types t b (suc i) p start F r
      → IntoRows image types t b i p at
      (on_filled F (λ bound t₁. on_filled (row_put bound (row_head task.Bind b 0 0 (reading_at at i p)) 0 t₁)
      (λ body t₂. on_filled (part (more_lets lets) b body t₂)
      (λ end t₃. row_put end (row_head task.Unbind b 0 bound.rows (reading_at at i p)) 0 t₃))))
      (then_read r (λ u at₁. then_read (get (suc lets) (suc i + nodes u) at₁) (λ v at₂. got (bind u v) at₂)))
  let_behind {start = start} l (into {e = u} {next = mid} {q} {t' = t₁} few long end x front back) =
      let f = rows_few x in
      rw (row_more mid (suc i + nodes u) q (omega arith) (omega arith) (omega (arith, at_node.low)), more_is lets (omega arith))
      (body_into image types near b t i p at at_node room more (omega arith) x front back
      (each.goes (suc lets) b (suc i + nodes u) (suc q) mid (put_row t₁ q (head_number task.Bind b 0 0 i) 0) (omega arith)
      (record { few = few; passed = omega (arith, at_node.passed); within = end; low = omega (arith, at_node.low) })
      (roomy_kept (length_row t₁ q (head_number task.Bind b 0 0 i) 0 ∙ front.long) room)))
  let_behind l (stopped w e) = stopped w e

  pub let_into : (start : ℕ) → at < start → start ≤ length image
      → IntoRows image types t b i p at (let_rows part lets b (reading_at at i p) start t)
      (then_read (get lets (suc i) start) (λ u at₁. then_read (get (suc lets) (suc i + nodes u) at₁) (λ v at₂. got (bind u v) at₂)))
  unfolding let_rows
  let_into start l w =
      rw (behind_is at i p start (omega arith) (omega arith))
      (let_behind {r = get lets (suc i) start} l (each.goes lets b (suc i) p start t (omega arith) (first_stands l w) room))
