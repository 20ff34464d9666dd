-- The expression goes into the node table as the definition reads it: the answer is the definition's, an expression that was read is held
-- by its rows, and all other rows are as they were. One induction, whose measure is the depth.
-- Assumes nothing.
use mathlib.Core.Path.{◌≡◌, refl, ◌∙◌, ap, subst}
use mathlib.Core.Bool.{Bool, true, false}
use mathlib.Core.List.{List, map}
use Prim.Native.Nat.{ℕ, zero, suc, ◌+◌, ◌*◌, ◌<◌, ◌≤◌}
use native.Mathlib.Omega.{arith}
use native.Mathlib.Numerals.{add-one}
use lib.Dec.{leb}
use lib.ListN.{length, get_or, set, drop, length-set}
use lib.Seq.{get_or-set_same, get_or-set_other}
use Rattle.std.proofs.Common.{Ok, Err}
use Rattle.choice.specs.Choice.{choose}
use Rattle.cells.specs.Code.{packed}
use Rattle.numbers.specs.declared.Read.{Read}
use Rattle.calculus.specs.Expr.{Expr, bind, one, two, nodes, One}
use Rattle.calculus.specs.Operations.{operation_of}
use Rattle.calculus.specs.declared.Operation.{Operation}
use Rattle.calculus.specs.declared.Operation.TheVariants as op
use Rattle.calculus.specs.declared.Fault.{Fault}
use Rattle.calculus.specs.declared.Fault.TheVariants as fault
use Rattle.calculus.specs.declared.Refusal.{Refusal}
use Rattle.image.specs.Content.{Tables}
use Rattle.image.specs.Parsing.{Parsed, got, refused, then_read, number, carried}
use Rattle.image.specs.Nodes.{Head, read_head, read_parts, read_node}
use Rattle.image.specs.Image.{read_expr}
use Rattle.image.specs.Tabled.{one_operation, one_argument, one_kind, two_operation, Row, Spans, s_lit, s_var, s_malloc, s_bind, s_one, s_two}
use Rattle.image.specs.Answers.{refusal, with_next}
use Rattle.image.specs.Filled.{filled}
use Rattle.image.specs.Tabling.{on_read, on_filled}
use Rattle.image.specs.Filling.{Headed, Noded, written, row_into, expression_answer, parts_into, head_into, node_into, carried_back, expression_into}
use Rattle.image.specs.declared.NodeRow.{NodeRow}
use Rattle.image.proofs.Gives.{Gives, gives, gives_none, given_by}
use Rattle.image.proofs.Rows.{RowsKept, Opened, written_opens, row_kept, spans_kept}
use Rattle.image.proofs.Alike.{Alike, alike, alike_refused, Tells, tells_lit, tells_var, tells_malloc, tells_part, tells_parts, tells_binding, line_alike}

-- what went into the rows from i on is what was read
pub data Into (t : List ℕ) (i : ℕ) : Noded → Parsed Expr → Type 0 where
  into : {e : Expr} {next count : ℕ} {t' : List ℕ} → count ≡ i + nodes e → RowsKept t i count t' → (4 * count ≤ length t → Spans t' i e)
      → Into t i (filled (Ok (with_next count next)) t') (got e next)
  stopped : {f : Fault} {p : ℕ} {t' : List ℕ} → length t' ≡ length t → Into t i (filled (Err (refusal f p)) t') (refused f p)

-- the same of a head in row i
data HeadInto (t : List ℕ) (i : ℕ) : Headed → Parsed Head → Type 0 where
  head_into_lem : (code : ℕ) {next : ℕ} {o : Operation} {l : NodeRow} {h : Head} → operation_of code ≡ o → Tells o l h
      → HeadInto t i (filled (Ok (with_next l.parts next)) (written t i code l.argument l.kind)) (got h next)
  head_stopped : {f : Fault} {p : ℕ} → HeadInto t i (filled (Err (refusal f p)) t) (refused f p)

-- a node without parts
leaf_into : {t t' : List ℕ} {i : ℕ} {operation : Operation} {argument kind next : ℕ} {e : Expr} → nodes e ≡ 1 → Opened t i t' operation argument kind
    → (Row t' i operation argument kind 0 → Spans t' i e) → Into t i (filled (Ok (with_next (i + 1) next)) t') (got e next)
leaf_into {i = i} {e = e} n o span = into {e = e} {count = i + 1} (omega arith) o.kept (λ room. span (o.row (omega arith)))

-- a node with one part, which went into the table behind it
one_into_lem : {t t₁ : List ℕ} {i : ℕ} (o : One) {F : Noded} {r : Parsed Expr} → Opened t i t₁ (one_operation o) (one_argument o) (one_kind o)
    → Into t₁ (i + 1) F r → Into t i F (then_read r (λ e next. got (one o e) next))
unfolding nodes
one_into_lem {t} {t₁} {i} o w (into {e} {next} {count} {t'} c k span) =
    into {e = one o e} {count = count}
    (omega arith)
    (record {
      long = k.long ∙ w.kept.long;
      front = λ x h. k.front x (omega arith) ∙ w.kept.front x h;
      back = λ x h. k.back x h ∙ w.kept.back x (omega arith);
    })
    (λ room. s_one
    (row_kept (w.row (omega arith)) (λ x l h. k.front x (omega arith)))
    (rw (add-one i) at (span (omega (arith, w.kept.long)))))
one_into_lem o w (stopped e) = stopped (e ∙ w.kept.long)

-- a node with two parts, of which `mk` makes the expression
module _ (mk : Expr → Expr → Expr) (operation : Operation) (counts : (a b : Expr) → nodes (mk a b) ≡ suc (nodes a + nodes b))
    (spanned : (t : List ℕ) (i : ℕ) (a b : Expr)
    → Row t i operation 0 0 (suc i + nodes a) → Spans t (suc i) a → Spans t (suc i + nodes a) b → Spans t i (mk a b))
    {t t₁ : List ℕ} {i : ℕ} (w : Opened t i t₁ operation 0 0) where
  -- the first part went into t₂, the second behind it
  second_after : {a : Expr} {count : ℕ} {t₂ : List ℕ} {F : Noded} {r : Parsed Expr}
      → count ≡ suc i + nodes a → RowsKept t₁ (i + 1) count t₂ → (4 * count ≤ length t₁ → Spans t₂ (i + 1) a)
      → Into (set t₂ (4 * i + 3) count) count F r → Into t i F (then_read r (λ b next. got (mk a b) next))
  second_after {a} {count} {t₂} c k span (into {e = b} {count = count₂} {t' = t₄} d m span₂) =
      let other : (x : ℕ) → (x ≡ 4 * i + 3 → ⊥) → get_or (set t₂ (4 * i + 3) count) x 0 ≡ get_or t₂ x 0 = λ x n. get_or-set_other t₂ (4 * i + 3) x count 0 n in
      let n : nodes (mk a b) ≡ suc (nodes a + nodes b) = counts a b in
      let long₃ : length (set t₂ (4 * i + 3) count) ≡ length t₂ = length-set t₂ (4 * i + 3) count in
      into {e = mk a b} {count = count₂}
      (omega arith)
      (record {
        long = m.long ∙ long₃ ∙ k.long ∙ w.kept.long;
        front = λ x h. m.front x (omega arith) ∙ other x (λ e. omega arith) ∙ k.front x (omega arith) ∙ w.kept.front x h;
        back = λ x h. m.back x h ∙ other x (λ e. omega arith) ∙ k.back x (omega arith) ∙ w.kept.back x (omega arith);
      })
      (λ room.
      let lengths : length t₂ ≡ length t = k.long ∙ w.kept.long in
      let row : Row t₁ i operation 0 0 0 = w.row (omega arith) in
      let same : (x : ℕ) → x < 4 * i + 3 → get_or t₄ x 0 ≡ get_or t₁ x 0 =
      λ x h. m.front x (omega arith) ∙ other x (λ e. omega arith) ∙ k.front x (omega arith) in
      spanned t₄ i a b
      (record {
        operation_is = ap operation_of (same (4 * i) (omega arith)) ∙ row.operation_is;
        argument_is = same (4 * i + 1) (omega arith) ∙ row.argument_is;
        kind_is = same (4 * i + 2) (omega arith) ∙ row.kind_is;
        second_is = m.front (4 * i + 3) (omega arith) ∙ get_or-set_same t₂ (4 * i + 3) count 0 (omega arith) ∙ c;
      })
      (spans_kept (rw (add-one i) at (span (omega (arith, w.kept.long)))) (λ x l h. m.front x (omega arith) ∙ other x (λ e. omega arith)))
      (rw c at (span₂ (omega arith))))
  second_after {a} {count} {t₂} c k span (stopped e) = stopped (e ∙ length-set t₂ (4 * i + 3) count ∙ k.long ∙ w.kept.long)

  -- both parts, one behind the other, the second inside as many lets as the definition says
  two_into : {F : Noded} {r : Parsed Expr} (put : ℕ → ℕ → ℕ → List ℕ → Noded) (get : ℕ → ℕ → ℕ → Parsed Expr) (within within' : ℕ)
      → ((count next : ℕ) (t₂ : List ℕ) → Into t₂ count (put within count next t₂) (get within' count next))
      → Into t₁ (i + 1) F r
      → Into t i
      (on_filled F (λ x t'. put within x.value x.next (set t' (4 * i + 3) x.value)))
      (then_read r (λ a at. then_read (get within' (suc i + nodes a) at) (λ b next. got (mk a b) next)))
  two_into put get within within' each (into {e = a} {next} {count} {t' = t₂} c k span) =
      let d : count ≡ suc i + nodes a = omega arith in
      second_after d k span
      (subst (λ (n : ℕ). Into (set t₂ (4 * i + 3) count) count (put within count next (set t₂ (4 * i + 3) count)) (get within' n next))
      d (each count next (set t₂ (4 * i + 3) count)))
  two_into put get within within' each (stopped e) = stopped (e ∙ w.kept.long)

-- the parts of node i, each going into the table as it is read
module _ (image : List ℕ) (tables : Tables) (put : ℕ → ℕ → ℕ → List ℕ → Noded) (get : ℕ → ℕ → ℕ → Parsed Expr)
    (each : (lets i at : ℕ) (t : List ℕ) → Into t i (put lets i at t) (get lets i at)) where
  -- the part behind a node
  next_part : (lets i at : ℕ) (t : List ℕ) → Into t (i + 1) (put lets (i + 1) at t) (get lets (suc i) at)
  next_part lets i at t = subst (λ (n : ℕ). Into t (i + 1) (put lets (i + 1) at t) (get lets n at)) (add-one i) (each lets (i + 1) at t)

  -- the second part of a node that binds nothing, and of a let
  same_lets : (lets count next : ℕ) (t : List ℕ) → Into t count (put (lets + 0) count next t) (get lets count next)
  same_lets lets count next t =
      let e : lets + 0 ≡ lets = omega arith in
      subst (λ (n : ℕ). Into t count (put (lets + 0) count next t) (get n count next)) e (each (lets + 0) count next t)

  more_lets : (lets count next : ℕ) (t : List ℕ) → Into t count (put (lets + 1) count next t) (get (suc lets) count next)
  more_lets lets count next t =
      subst (λ (n : ℕ). Into t count (put (lets + 1) count next t) (get n count next)) (add-one lets) (each (lets + 1) count next t)

  parts_into_lem : {t : List ℕ} {i : ℕ} {F : Headed} {r : Parsed Head} (lets : ℕ) → HeadInto t i F r
      → Into t i (on_filled F (λ x t'. parts_into put lets i x.value x.next t')) (then_read r (λ h next. read_parts image tables get lets i h next))
  unfolding read_parts nodes
  parts_into_lem {t} {i} lets (head_into_lem code {next} {l = l} q tells_lit) = leaf_into refl (written_opens t i code l.argument l.kind q) s_lit
  parts_into_lem {t} {i} lets (head_into_lem code {next} {l = l} q tells_var) = leaf_into refl (written_opens t i code l.argument l.kind q) s_var
  parts_into_lem {t} {i} lets (head_into_lem code {next} {l = l} q tells_malloc) = leaf_into refl (written_opens t i code l.argument l.kind q) s_malloc
  parts_into_lem {t} {i} lets (head_into_lem code {next} {l = l} q (tells_part o)) =
      one_into_lem o (written_opens t i code l.argument l.kind q) (next_part lets i next (written t i code l.argument l.kind))
  parts_into_lem {t} {i} lets (head_into_lem code {next} {l = l} q (tells_parts o)) =
      two_into (two o) (two_operation o) (λ a b. refl) (λ t i a b. s_two) (written_opens t i code l.argument l.kind q) put get (lets + 0) lets (same_lets lets)
      (next_part lets i next (written t i code l.argument l.kind))
  parts_into_lem {t} {i} lets (head_into_lem code {next} {l = l} q tells_binding) =
      two_into bind op.Let (λ a b. refl) (λ t i a b. s_bind) (written_opens t i code l.argument l.kind q) put get (lets + 1) (suc lets) (more_lets lets)
      (next_part lets i next (written t i code l.argument l.kind))
  parts_into_lem lets head_stopped = stopped refl

-- a node's code, and what stands behind it
code_into_lem : (t : List ℕ) (i : ℕ) (r : Parsed ℕ) (go : ℕ → ℕ → Headed) (go' : ℕ → ℕ → Parsed Head)
    → ((code next : ℕ) → HeadInto t i (go code next) (go' code next)) → HeadInto t i (on_read r t go) (then_read r go')
code_into_lem t i (got code next) go go' k = k code next
code_into_lem t i (refused f p) go go' k = head_stopped

row_into_lem : {r : Parsed NodeRow} {s : Parsed Head} (t : List ℕ) (i code : ℕ) → Alike (Tells (operation_of code)) r s → HeadInto t i (row_into t i code r) s
row_into_lem t i code (alike w) = head_into_lem code refl w
row_into_lem t i code alike_refused = head_stopped

test_into : (t : List ℕ) (i : ℕ) (b : Bool) (x y : Unit {0} → Headed) (x' y' : Unit {0} → Parsed Head)
    → HeadInto t i (x tt) (x' tt) → HeadInto t i (y tt) (y' tt) → HeadInto t i (choose b x y) (choose b x' y')
test_into t i true x y x' y' p q = p
test_into t i false x y x' y' p q = q

cut_into : (t : List ℕ) (i at : ℕ) (r : Parsed ℕ)
    → Into t i (on_read r t (λ _ _. filled (Err (refusal fault.Limit at)) t)) (then_read r (λ _ _. refused fault.Limit at))
cut_into t i at (got v next) = stopped refl
cut_into t i at (refused f p) = stopped refl

-- what the relation says of the answer, of the table, and of its length
into_result : {t : List ℕ} {i : ℕ} {F : Noded} {r : Parsed Expr} → Into t i F r → F.result ≡ expression_answer i r
into_result (into {next = next} c k span) = ap (λ n. Ok (with_next n next)) c
into_result (stopped e) = refl

into_length : {t : List ℕ} {i : ℕ} {F : Noded} {r : Parsed Expr} → Into t i F r → length F.table ≡ length t
into_length (into c k span) = k.long
into_length (stopped e) = e

into_kept : {t : List ℕ} {i : ℕ} {F : Noded} {e : Expr} {next : ℕ} → Into t i F (got e next) → RowsKept t i (i + nodes e) F.table
into_kept (into c k span) = rw c at k

into_spans : {t : List ℕ} {i : ℕ} {F : Noded} {e : Expr} {next : ℕ} → Into t i F (got e next) → 4 * (i + nodes e) ≤ length t
    → Spans F.table i e
into_spans (into c k span) room = span (omega arith)

-- The types that the reader is lent are the packed word types, and it is told how many structs there are.
module _ (image : List ℕ) (tables : Tables) (types : List ℕ) (structs : ℕ) (types_are : types ≡ map packed tables.types)
    (structs_are : structs ≡ length tables.structs) where
  head_is : (lets i at : ℕ) (t : List ℕ) → HeadInto t i (head_into image types structs lets i at t) (read_head image tables lets i at)
  unfolding head_into read_head
  head_is lets i at t =
      code_into_lem t i (number image at) _ _
      (λ code next. test_into t i (leb 2048 i) _ _ _ _ head_stopped
      (rw (types_are, structs_are) (row_into_lem t i code (line_alike image tables lets at (operation_of code) next))))

  node_is : (deep lets i at : ℕ) (t : List ℕ) → Into t i (node_into image types structs deep lets i at t) (read_node image tables deep lets i at)
  unfolding node_into read_node
  node_is zero lets i at t = cut_into t i at (number image at)
  node_is (suc deep) lets i at t =
      parts_into_lem image tables (node_into image types structs deep) (read_node image tables deep) (node_is deep) lets (head_is lets i at t)

  -- The answer is the definition's: the same refusal, or the same offset and the nodes counted.
  pub node_result : (deep lets i at : ℕ) (t : List ℕ)
      → (node_into image types structs deep lets i at t).result ≡ expression_answer i (read_node image tables deep lets i at)
  node_result deep lets i at t = into_result (node_is deep lets i at t)

  -- The table keeps its length,
  pub node_length : (deep lets i at : ℕ) (t : List ℕ) → length (node_into image types structs deep lets i at t).table ≡ length t
  node_length deep lets i at t = into_length (node_is deep lets i at t)

  module _ (deep lets i at : ℕ) (t : List ℕ) {e : Expr} {next : ℕ} (q : read_node image tables deep lets i at ≡ got e next) where
    was_read : Into t i (node_into image types structs deep lets i at t) (got e next)
    was_read = rw q at (node_is deep lets i at t)

    -- an expression that was read is held by its rows, if there is room,
    pub node_spans : 4 * (i + nodes e) ≤ length t → Spans (node_into image types structs deep lets i at t).table i e
    node_spans room = into_spans was_read room

    -- and all others are as they were.
    pub node_kept : RowsKept t i (i + nodes e) (node_into image types structs deep lets i at t).table
    node_kept = into_kept was_read

-- The whole expression, from `at` on: what was answered is carried back.
carried_answered : (at : ℕ) (r : Parsed Expr) → carried_back at (expression_answer 0 r) ≡ expression_answer 0 (carried at r)
carried_answered at (got e next) = refl
carried_answered at (refused f p) = refl

-- what the table holds of an expression
record Left (t t' : List ℕ) (e : Expr) (next : ℕ) : Type 0 where
  spans : 4 * nodes e ≤ length t → Spans t' 0 e
  kept : RowsKept t 0 (nodes e) t'

left_behind : {t : List ℕ} {F : Noded} {r : Parsed Expr} (at : ℕ) → Into t 0 F r → Gives (Left t F.table) (carried at r)
left_behind at (into {e} {next} {count} c k span) =
    let d : count ≡ nodes e = omega arith in gives (record { spans = λ room. span (omega arith); kept = rw d at k })
left_behind at (stopped e) = gives_none

module _ (image : List ℕ) (tables : Tables) (types : List ℕ) (structs : ℕ) (types_are : types ≡ map packed tables.types)
    (structs_are : structs ≡ length tables.structs) (at : ℕ) (t : List ℕ) where
  -- The answer is the definition's.
  pub expression_result : (expression_into image types structs at t).result ≡ expression_answer 0 (read_expr image tables at)
  unfolding expression_into read_expr
  expression_result =
      ap (carried_back at) (node_result (drop at image) tables types structs types_are structs_are 64 0 0 0 t)
      ∙ carried_answered at (read_node (drop at image) tables 64 0 0 0)

  pub expression_length : length (expression_into image types structs at t).table ≡ length t
  unfolding expression_into
  expression_length = node_length (drop at image) tables types structs types_are structs_are 64 0 0 0 t

  left : {e : Expr} {next : ℕ} → read_expr image tables at ≡ got e next → Left t (expression_into image types structs at t).table e next
  unfolding expression_into read_expr
  left q = given_by (left_behind at (node_is (drop at image) tables types structs types_are structs_are 64 0 0 0 t)) q

  -- An expression that was read is held by the table from its first row on, if there is room, and the rows behind it are as they were.
  pub expression_spans : {e : Expr} {next : ℕ} → read_expr image tables at ≡ got e next → 4 * nodes e ≤ length t
      → Spans (expression_into image types structs at t).table 0 e
  expression_spans q room = (left q).spans room

  pub expression_kept : {e : Expr} {next : ℕ} → read_expr image tables at ≡ got e next
      → RowsKept t 0 (nodes e) (expression_into image types structs at t).table
  expression_kept q = (left q).kept

-- from the code's answer back to what the definition reads
pub data ReadBack (r : Parsed Expr) (i next count : ℕ) : Type 0 where
  read_back : (e : Expr) → r ≡ got e next → count ≡ i + nodes e → ReadBack r i next count

pub was_read_as : (r : Parsed Expr) {i next count : ℕ} → Ok (with_next count next) ≡ expression_answer i r → ReadBack r i next count
was_read_as (got e n) {i} {next} {count} q =
    let s : with_next count next ≡ with_next (i + nodes e) n = cc in
    let p : next ≡ n = ap (λ (x : Read ℕ). x.next) s in
    read_back e (rw p) (ap (λ (x : Read ℕ). x.value) s)
was_read_as (refused f p) q = cc

pub was_refused_as : (r : Parsed Expr) (i : ℕ) {q : Refusal} → Err q ≡ expression_answer i r → r ≡ refused q.fault q.place
was_refused_as (got e n) i q = cc
was_refused_as (refused f p) i {q} e = let s : q ≡ refusal f p = cc in rw s
