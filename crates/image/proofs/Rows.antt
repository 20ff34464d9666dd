-- Rows of the node table: what stands in a row that was written, what stays, and that an expression is held as long as its rows stay.
-- Assumes nothing.
use mathlib.Core.Path.{◌≡◌, ◌∙◌, ap}
use mathlib.Core.List.{List, [], ◌∷◌}
use Prim.Native.Nat.{ℕ, ◌+◌, ◌*◌, ◌<◌, ◌≤◌}
use native.Mathlib.Omega.{arith}
use lib.ListN.{length, get_or, take}
use lib.Seq.{sets, get_or-take}
use Rattle.calculus.specs.Expr.{Expr, nodes}
use Rattle.calculus.specs.Operations.{operation_of}
use Rattle.calculus.specs.declared.Operation.{Operation}
use Rattle.image.specs.Tabled.{Row, Spans, s_lit, s_var, s_malloc, s_bind, s_one, s_two}
use Rattle.image.specs.Filling.{written}
use Rattle.image.proofs.Sets.{sets_there, stored_there, stored_length, stored_before, stored_behind}

-- all but the rows from i up to j is as it was
pub record RowsKept (t : List ℕ) (i j : ℕ) (t' : List ℕ) : Type 0 where
  pub long : length t' ≡ length t
  pub front : (k : ℕ) → k < 4 * i → get_or t' k 0 ≡ get_or t k 0
  pub back : (k : ℕ) → 4 * j ≤ k → get_or t' k 0 ≡ get_or t k 0

-- row i is written, with no second part yet
pub record Opened (t : List ℕ) (i : ℕ) (t' : List ℕ) (operation : Operation) (argument kind : ℕ) : Type 0 where
  pub kept : RowsKept t i (i + 1) t'
  pub row : 4 * i + 3 < length t → Row t' i operation argument kind 0

module _ (t : List ℕ) (i code argument kind : ℕ) {operation : Operation} (is : operation_of code ≡ operation) where
  abbrev numbers : List ℕ
  numbers = code ∷ argument ∷ kind ∷ 0 ∷ []

  row_written : 4 * i + 3 < length t → Row (written t i code argument kind) i operation argument kind 0
  row_written h =
      let z : 4 * i + 0 ≡ 4 * i = omega arith in
      rw (stored_there 4 t i numbers (omega arith)) (
      record {
        operation_is = ap operation_of (rw z at (there 0 (omega arith))) ∙ is;
        argument_is = there 1 (omega arith);
        kind_is = there 2 (omega arith);
        second_is = there 3 (omega arith);
      }
      )
    where
      there : (j : ℕ) → j < 4 → get_or (sets t (4 * i) numbers) (4 * i + j) 0 ≡ get_or numbers j 0
      there j l = sets_there t (4 * i) numbers j (omega arith) l

  pub written_opens : Opened t i (written t i code argument kind) operation argument kind
  written_opens =
      record {
        kept =
            record {
              long = stored_length 4 t i numbers;
              front = stored_before 4 t i numbers;
              back = λ k h. stored_behind 4 t i numbers k (omega arith);
            };
        row = row_written;
      }

-- a row stays as long as its numbers do
pub row_kept : {t t' : List ℕ} {i : ℕ} {operation : Operation} {argument kind second : ℕ} → Row t i operation argument kind second
    → ((k : ℕ) → 4 * i ≤ k → k < 4 * i + 4 → get_or t' k 0 ≡ get_or t k 0) → Row t' i operation argument kind second
row_kept {i = i} r same =
    record {
      operation_is = ap operation_of (same (4 * i) (omega arith) (omega arith)) ∙ r.operation_is;
      argument_is = same (4 * i + 1) (omega arith) (omega arith) ∙ r.argument_is;
      kind_is = same (4 * i + 2) (omega arith) (omega arith) ∙ r.kind_is;
      second_is = same (4 * i + 3) (omega arith) (omega arith) ∙ r.second_is;
    }

-- and so does an expression
pub spans_kept : {t t' : List ℕ} {i : ℕ} {e : Expr} → Spans t i e
    → ((k : ℕ) → 4 * i ≤ k → k < 4 * (i + nodes e) → get_or t' k 0 ≡ get_or t k 0) → Spans t' i e
unfolding nodes
spans_kept (s_lit r) same = s_lit (row_kept r (λ k l h. same k l (omega arith)))
spans_kept (s_var r) same = s_var (row_kept r (λ k l h. same k l (omega arith)))
spans_kept (s_malloc r) same = s_malloc (row_kept r (λ k l h. same k l (omega arith)))
spans_kept (s_bind r a b) same =
    s_bind
    (row_kept r (λ k l h. same k l (omega arith)))
    (spans_kept a (λ k l h. same k (omega arith) (omega arith)))
    (spans_kept b (λ k l h. same k (omega arith) (omega arith)))
spans_kept (s_one r a) same =
    s_one (row_kept r (λ k l h. same k l (omega arith))) (spans_kept a (λ k l h. same k (omega arith) (omega arith)))
spans_kept (s_two r a b) same =
    s_two
    (row_kept r (λ k l h. same k l (omega arith)))
    (spans_kept a (λ k l h. same k (omega arith) (omega arith)))
    (spans_kept b (λ k l h. same k (omega arith) (omega arith)))

-- and it is held by its own rows alone
pub spans_taken : {t : List ℕ} {e : Expr} → Spans t 0 e → Spans (take (4 * nodes e) t) 0 e
spans_taken {t} {e} s = spans_kept s (λ k l h. get_or-take (4 * nodes e) t k 0 (omega arith))
