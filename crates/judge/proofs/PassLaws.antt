-- The pass over the literals ends at the first one that is not well typed, or behind the last node.
use mathlib.Core.Path.{◌≡◌, refl}
use mathlib.Core.Logic.{⊎_elim}
use mathlib.Core.Bool.{Bool, true, false}
use mathlib.Core.List.{List}
use Prim.Native.Nat.{ℕ, zero, suc, ◌+◌, ◌/◌, ◌≤◌, ◌<◌}
use native.Mathlib.Nat.{eq-or-lt_of_le}
use native.Mathlib.Omega.{arith}
use lib.ListN.{length, length-replicate, get_or, replicate}
use Rattle.choice.specs.Choice.{choose_told}
use Rattle.cells.specs.Code.{unpacked}
use Rattle.cells.specs.Heap.{Heap}
use Rattle.calculus.specs.Setting.{Setting}
use Rattle.calculus.specs.Literal.{literal_well}
use Rattle.calculus.proofs.Same.{as_true, refuted}
use Rattle.tables.specs.Kinds.{HoldsSetting}
use Rattle.judge.specs.Rows.{node_number, operation_at}
use Rattle.judge.specs.Addresses.{entries}
use Rattle.judge.specs.Marks.{Seen, seen}
use Rattle.judge.specs.Literals as model
use Rattle.judge.specs.Literals.{Looking, on, off, is_literal, then_next}
use Rattle.judge.proofs.HeldTables.{HoldsHeap}
use Rattle.judge.proofs.MarkLaws.{blank_most}
use Rattle.judge.proofs.QueueLaws.{Settled, Judges, judges_good, judges_bad, judges}

-- node i is a literal
abbrev pub LiteralNode : List ℕ → ℕ → Type 0
LiteralNode table i = is_literal (operation_at table i) ≡ true

-- what the test says of the literal in row i
abbrev pub well_at : Setting → Heap → List ℕ → ℕ → Bool
well_at S H table i = literal_well S H (node_number table i 1) (unpacked (node_number table i 2))

-- r is the first literal of the table that is not well typed, or the count of nodes if all are
pub record FirstBad (S : Setting) (H : Heap) (table : List ℕ) (r : ℕ) : Type 0 where
  pub within : r ≤ length table / 4
  pub before : (i : ℕ) → i < r → LiteralNode table i → well_at S H table i ≡ true
  pub literal : r < length table / 4 → LiteralNode table r
  pub bad : r < length table / 4 → well_at S H table r ≡ false

module _ {S : Setting} {H : Heap} {structs types cells : List ℕ} (hs : HoldsSetting S structs types) (hh : HoldsHeap H cells)
    (table : List ℕ) where
  -- row i after the look at it
  data Rows (i : ℕ) : Looking → Type 0 where
    rows_good : {s : Seen} → Settled hs hh s → (LiteralNode table i → well_at S H table i ≡ true) → Rows i (on s)
    rows_bad : {marks queue : List ℕ} → LiteralNode table i → well_at S H table i ≡ false → Rows i (off marks queue)

  row : (i : ℕ) (s : Seen) → Settled hs hh s → Rows i (model.node_look structs types cells table i s)
  unfolding model.node_look
  row i s a =
      choose_told (Rows i) (is_literal (operation_at table i))
      (λ _. model.literal_look structs types cells (node_number table i 1) (node_number table i 2) s) (λ _. on s)
      (λ t. is_literal_lem t _ (judges hs hh s (node_number table i 1) (node_number table i 2) a))
      (λ t. rows_good a (λ e. absurd (refuted t (as_true e))))
    where
      is_literal_lem : LiteralNode table i → (l : Looking) → Judges hs hh (node_number table i 1) (node_number table i 2) l → Rows i l
      is_literal_lem e (on s') (judges_good b w) = rows_good b (λ _. w)
      is_literal_lem e (off marks queue) (judges_bad w) = rows_bad e w

  passes : (left i : ℕ) (s : Seen) → i + left ≡ length table / 4
      → ((j : ℕ) → j < i → LiteralNode table j → well_at S H table j ≡ true)
      → Settled hs hh s → FirstBad S H table (model.pass structs types cells table left i s).first
  unfolding model.pass
  passes zero i s e b a =
      record { within = omega arith; before = b; literal = λ h. absurd (omega arith); bad = λ h. absurd (omega arith) }
  passes (suc left) i s e b a = next (passes left (i + 1)) _ (row i s a)
    where
      next : ((s' : Seen) → i + 1 + left ≡ length table / 4 → ((j : ℕ) → j < i + 1 → LiteralNode table j → well_at S H table j ≡ true)
          → Settled hs hh s' → FirstBad S H table (model.pass structs types cells table left (i + 1) s').first)
          → (l : Looking) → Rows i l → FirstBad S H table (then_next i l (model.pass structs types cells table left (i + 1))).first
      next rec (on s') (rows_good a' w) =
          rec s' (omega arith)
          (λ j h z. ⊎_elim (λ f. rw f (w (rw f at z))) (λ k. b j k z) (eq-or-lt_of_le {n = j} {m = i} (omega arith))) a'
      next rec (off marks queue) (rows_bad z w) =
          record { within = omega arith; before = b; literal = λ h. z; bad = λ h. w }

  -- no entry is marked at first
  blank_mark : (n j : ℕ) → ◌≡◌ {A = ℕ} (get_or (replicate n 0) j 0) 0
  blank_mark zero j = refl
  blank_mark (suc n) zero = refl
  blank_mark (suc n) (suc j) = blank_mark n j

  pub first_bad_lem : (marks queue : List ℕ) → entries cells ≤ length marks → entries cells ≤ length queue
      → FirstBad S H table (model.first_bad structs types cells table marks queue).first
  first_bad_lem marks queue m q =
      passes (length table / 4) 0 (seen (replicate (length marks) 0) queue 0) (omega arith) (λ j h. absurd (omega arith))
      (record {
        fit =
            record {
              roomy = record { long = rw length-replicate m; room = omega (arith, blank_most (entries cells) (replicate (length marks) 0)) };
              reach = record { each = λ k i h. absurd (omega (arith, blank_mark (length marks) k)) };
            };
        each = λ j b n. absurd (n (blank_mark (length marks) j));
      })
