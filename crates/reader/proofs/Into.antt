-- What went into the rows from p on is what was read: one law for each kind of node, from its parts.
use Prim.Native.Nat.{ℕ, suc, ◌+◌, ◌*◌, ◌/◌, ◌≤◌, ◌<◌}
use mathlib.Core.Path.{◌≡◌, refl, ◌∙◌}
use mathlib.Core.Bool.{Bool}
use mathlib.Core.List.{List}
use native.Mathlib.Omega.{arith}
use lib.Dec.{ltb}
use lib.ListN.{length, get_or, set}
use lib.Seq.{get_or-set_other}
use Rattle.std.proofs.Common.{Ok, Err}
use Rattle.choice.specs.Choice.{choose_case}
use Rattle.calculus.specs.Expr.{Expr, bind, one, two, nodes, One, act, inside}
use Rattle.calculus.specs.declared.Act.{Act}
use Rattle.calculus.specs.declared.Fault.{Fault}
use Rattle.tables.specs.Heads.{head_number}
use Rattle.tables.specs.Rows.{whole_rows, put_row, inside_mode, apply, work_of}
use Rattle.tables.specs.Parts.{PartRows, FrontKept}
use Rattle.tables.specs.declared.Task.{Task}
use Rattle.tables.specs.declared.Task.TheVariants as task
use Rattle.tables.proofs.Laid.{forward, rows_few, kept_then, kept_put, kept_all}
use Rattle.tables.proofs.Placed.{length_row}
use Rattle.tables.proofs.Written.{one_written, act_written, let_written}
use Rattle.image.specs.Answers.{refusal}
use Rattle.image.specs.Tabling.{on_filled}
use Rattle.image.specs.Parsing.{Parsed, got, refused, then_read}
use Rattle.image.specs.Filled.{filled}
use Rattle.reader.specs.Cursors.{reading_at}
use Rattle.reader.specs.Reads.{Reading, row_put, row_head, crossing}
use Rattle.reader.specs.Told.{BehindKept}
use Rattle.reader.proofs.Cursors.{row_more, crossed_read, crossed_refused}

-- what stands behind a row that was put is as it was
pub put_behind : (t : List ℕ) (q head datum : ℕ) → BehindKept (suc q) t (put_row t q head datum)
unfolding put_row
put_behind t q head datum =
    record {
      same = λ k l. choose_case (λ (t' : List ℕ). get_or t' k 0 ≡ get_or t k 0) (ltb q (length t / 2)) _ _
          (get_or-set_other (set t (2 * q) head) (2 * q + 1) k datum 0 (λ e. omega arith) ∙ get_or-set_other t (2 * q) k head 0 (λ e. omega arith))
          refl;
    }

-- one change behind another
pub behind_then : {q r : ℕ} {t t₁ t₂ : List ℕ} → BehindKept q t t₁ → q ≤ r → BehindKept r t₁ t₂ → BehindKept r t t₂
behind_then a n b = record { same = λ k l. b.same k l ∙ a.same k (omega arith) }

pub behind_more : {q r : ℕ} {t t' : List ℕ} → BehindKept q t t' → q ≤ r → BehindKept r t t'
behind_more b n = record { same = λ k l. b.same k (omega arith) }

-- reading stands at an offset behind i nodes and p rows
pub record StandsAt (image : List ℕ) (i p at : ℕ) : Type 0 where
  pub few : i ≤ 2048
  pub passed : i ≤ at
  pub within : at ≤ length image
  pub low : p ≤ 2 * i

-- there is room for the rows of all nodes that the image can hold
pub record RowRoom (image t : List ℕ) : Type 0 where
  pub space : (n : ℕ) → n ≤ 2048 → n ≤ length image → 2 * n ≤ whole_rows t

pub roomy_kept : {image t t' : List ℕ} → length t' ≡ length t → RowRoom image t → RowRoom image t'
roomy_kept l r = record { space = λ n few within. rw l (r.space n few within) }

-- what a node at `at` gave: an expression in its rows, behind which all is as it was, or a refusal
pub data IntoRows (image types t : List ℕ) (b : Bool) (i p at : ℕ) : Reading → Parsed Expr → Type 0 where
  into : {e : Expr} {next q : ℕ} {t' : List ℕ} → i + nodes e ≤ 2048 → at + nodes e ≤ next → next ≤ length image
      → PartRows types t' (inside_mode b) i p e q → FrontKept p t t' → BehindKept q t t'
      → IntoRows image types t b i p at (filled (Ok (reading_at next (i + nodes e) q)) t') (got e next)
  stopped : {f : Fault} {place : ℕ} {t' : List ℕ} → place ≤ length image → length t' ≡ length t
      → IntoRows image types t b i p at (filled (Err (refusal f place)) t') (refused f place)

module _ (image types : List ℕ) (near : length image < 274877906944) where
  -- the same behind the recursive call
  pub crossing_into : {t : List ℕ} {b : Bool} {i p at : ℕ} {F : Reading} {r : Parsed Expr} → p ≤ 2 * i
      → IntoRows image types t b i p at F r → IntoRows image types t b i p at (crossing F) r
  crossing_into {i = i} low (into {e} {next} {q} few long end x front back) =
      let f = rows_few x in
      rw (crossed_read next (i + nodes e) q (omega arith) (omega arith) (omega arith)) (into {e = e} few long end x front back)
  crossing_into low (stopped {f} {place} w l) = rw (crossed_refused f place (omega arith)) (stopped {f = f} w l)

  module _ (b : Bool) (t : List ℕ) (i p at : ℕ) (at_node : StandsAt image i p at) (room : RowRoom image t) (more : i < 2048) where
    -- the node's row was put behind the rows up to q
    row_into : (e : Expr) {next n q : ℕ} {t₁ : List ℕ} (k : Task) (slot left datum : ℕ) → n ≡ i + nodes e → n ≤ 2048 → at + nodes e ≤ next
        → next ≤ length image → suc q ≤ 2 * n → p ≤ q → FrontKept p t t₁ → BehindKept (suc q) t t₁
        → PartRows types (put_row t₁ q (head_number k b slot left i) datum) (inside_mode b) i p e (suc q)
        → IntoRows image types t b i p at (row_put (reading_at next n q) (row_head k b slot left (reading_at at i p)) datum t₁) (got e next)
    row_into e {next} {n} {q} {t₁} k slot left datum m few long end low behind front back x =
        rw (row_more next n q (omega arith) (omega arith) (omega arith), m)
        (into {e = e} (omega arith) long end x
        (kept_then front behind (kept_put t₁ {end = q} (head_number k b slot left i) datum (omega arith)))
        (behind_then back (omega arith) (put_behind t₁ q (head_number k b slot left i) datum)))

    -- a node without parts
    pub leaf_into : (e : Expr) {next : ℕ} (k : Task) (slot datum : ℕ) → nodes e ≡ 1 → at < next → next ≤ length image
        → PartRows types (put_row t p (head_number k b slot 0 i) datum) (inside_mode b) i p e (suc p)
        → IntoRows image types t b i p at (row_put (reading_at next (suc i) p) (row_head k b slot 0 (reading_at at i p)) datum t) (got e next)
    leaf_into e k slot datum n behind end x =
        row_into e k slot 0 datum (omega arith) (omega arith) (omega arith) end (omega (arith, at_node.low)) (omega arith) (kept_all p)
        (record { same = λ k l. refl }) x

    -- a node with one part
    pub one_into_lem : {b' : Bool} {o : One} {F : Reading} {r : Parsed Expr} {start : ℕ} (k : Task) (slot datum : ℕ)
        → slot < 512 → work_of types k slot datum ≡ apply o → inside_mode b' ≡ inside o (inside_mode b) → at < start
        → IntoRows image types t b' (suc i) p start F r
        → IntoRows image types t b i p at (on_filled F (λ end t₁. row_put end (row_head k b slot 0 (reading_at at i p)) datum t₁))
        (then_read r (λ e next. got (one o e) next))
    unfolding nodes
    one_into_lem {o = o} k slot datum s w mode behind (into {e} {next} {q} {t' = t₁} few long end x front back) =
        let f = rows_few x in
        let space = room.space (i + suc (nodes e)) (omega arith) (omega (arith, at_node.passed)) in
        let there : q < whole_rows t₁ = rw front.long (omega (arith, at_node.low)) in
        row_into (one o e) k slot 0 datum (omega arith) few (omega arith) end (omega (arith, at_node.low)) (omega (arith, forward x)) front
        (behind_more back (omega arith))
        (one_written types b i (omega arith) k slot datum s w (rw mode at x) there)
    one_into_lem k slot datum s w mode behind (stopped l e) = stopped l e

    -- the left part of an act was read; the right one is read behind it
    pub right_into : {u : Expr} {mid q : ℕ} {t₁ : List ℕ} {G : Reading} {r : Parsed Expr} (o : Act) → at + suc (nodes u) ≤ mid
        → PartRows types t₁ (inside_mode b) (suc i) p u q → FrontKept p t t₁ → BehindKept q t t₁ → IntoRows image types t₁ b (suc i + nodes u) q mid G r
        → IntoRows image types t b i p at (on_filled G (λ end t₂. row_put end (row_head (task.Acts o) b 0 q (reading_at at i p)) 0 t₂))
        (then_read r (λ v next. got (two (act o) u v) next))
    unfolding nodes
    right_into {u} {mid} {q} {t₁} o long x front back (into {e = v} {next} {q = r} {t' = t₂} few₂ long₂ end₂ y front₂ back₂) =
        let f = rows_few x in
        let g = rows_few y in
        let space = room.space (i + suc (nodes u + nodes v)) (omega arith) (omega (arith, at_node.passed)) in
        let there : r < whole_rows t₂ = rw (front₂.long ∙ front.long) (omega (arith, at_node.low)) in
        row_into (two (act o) u v) (task.Acts o) 0 q 0 (omega arith) few₂ (omega arith) end₂ (omega (arith, at_node.low))
        (omega (arith, forward x, forward y)) (kept_then front (omega (arith, forward x)) front₂)
        (behind_more (behind_then back (omega (arith, forward y)) back₂) (omega arith))
        (act_written types b i (omega arith) o x front₂ y there (omega (arith, at_node.low)))
    right_into o long x front back (stopped l e) = stopped l (e ∙ front.long)

    -- the bound part of a let was read and the row between put; the body is read behind it
    pub body_into : {u : Expr} {mid q : ℕ} {t₁ : List ℕ} {G : Reading} {r : Parsed Expr} → at + suc (nodes u) ≤ mid
        → PartRows types t₁ (inside_mode b) (suc i) p u q → FrontKept p t t₁ → BehindKept q t t₁
        → IntoRows image types (put_row t₁ q (head_number task.Bind b 0 0 i) 0) b (suc i + nodes u) (suc q) mid G r
        → IntoRows image types t b i p at (on_filled G (λ end t₂. row_put end (row_head task.Unbind b 0 q (reading_at at i p)) 0 t₂))
        (then_read r (λ v next. got (bind u v) next))
    unfolding nodes
    body_into {u} {mid} {q} {t₁} long x front back (into {e = v} {next} {q = r} {t' = t₂} few₂ long₂ end₂ y front₂ back₂) =
        let f = rows_few x in
        let g = rows_few y in
        let space = room.space (i + suc (nodes u + nodes v)) (omega arith) (omega (arith, at_node.passed)) in
        let held : length (put_row t₁ q (head_number task.Bind b 0 0 i) 0) ≡ length t₁ = length_row t₁ q (head_number task.Bind b 0 0 i) 0 in
        let there : r < whole_rows t₂ = rw (front₂.long ∙ held ∙ front.long) (omega (arith, at_node.low)) in
        row_into (bind u v) task.Unbind 0 q 0 (omega arith) few₂ (omega arith) end₂ (omega (arith, at_node.low))
        (omega (arith, forward x, forward y))
        (kept_then front (omega (arith, forward x))
        (kept_then (kept_put t₁ {end = q} (head_number task.Bind b 0 0 i) 0 (omega arith)) (omega arith) front₂))
        (behind_more
        (behind_then (behind_then back (omega arith) (put_behind t₁ q (head_number task.Bind b 0 0 i) 0)) (omega (arith, forward y)) back₂)
        (omega arith))
        (let_written types b i (omega arith) x front₂ y there (omega (arith, at_node.low)))
    body_into {q = q} {t₁} long x front back (stopped l e) = stopped l (e ∙ length_row t₁ q (head_number task.Bind b 0 0 i) 0 ∙ front.long)
