-- Of the rows of an expression: they go forward, they are within the table, they stay as long as nothing before their end changes, and
-- there are at least as many as nodes, and with the row that stops at most twice as many.
use Prim.Native.Nat.{ℕ, suc, ◌+◌, ◌*◌, ◌<◌, ◌≤◌}
use mathlib.Core.Path.{◌≡◌, refl, sym, ◌∙◌, ap}
use mathlib.Core.List.{List}
use native.Mathlib.Omega.{arith}
use Rattle.cells.specs.declared.Mode.{Mode}
use Rattle.calculus.specs.Expr.{Expr, nodes}
use Rattle.tables.specs.Rows.{whole_rows, head_at, datum_at, put_row, Work, push, fetch, take, apply, join, hold, drop, stop, TaskRow, task_row, task_row_at}
use Rattle.tables.specs.Parts.{PartRows, part_lit, part_var, part_malloc, part_bind, part_one, part_two, FrontKept}
use Rattle.tables.proofs.Placed.{length_row, head_elsewhere, datum_elsewhere, row_inside}

-- ---- where the rows stand
pub forward : {types rows : List ℕ} {m : Mode} {i p q : ℕ} {e : Expr} → PartRows types rows m i p e q → p < q
forward (part_lit x) = omega arith
forward (part_var x) = omega arith
forward (part_malloc x d) = omega arith
forward (part_bind a x b y) = omega (arith, forward a, forward b)
forward (part_one e x) = omega (arith, forward e)
forward (part_two a b x) = omega (arith, forward a, forward b)

pub rows_many : {types rows : List ℕ} {m : Mode} {i p q : ℕ} {e : Expr} → PartRows types rows m i p e q → p + nodes e ≤ q
unfolding nodes
rows_many (part_lit x) = omega arith
rows_many (part_var x) = omega arith
rows_many (part_malloc x d) = omega arith
rows_many (part_bind a x b y) = omega (arith, rows_many a, rows_many b)
rows_many (part_one e x) = omega (arith, rows_many e)
rows_many (part_two a b x) = omega (arith, rows_many a, rows_many b)

pub rows_few : {types rows : List ℕ} {m : Mode} {i p q : ℕ} {e : Expr} → PartRows types rows m i p e q → suc q ≤ p + 2 * nodes e
unfolding nodes
rows_few (part_lit x) = omega arith
rows_few (part_var x) = omega arith
rows_few (part_malloc x d) = omega arith
rows_few (part_bind a x b y) = omega (arith, rows_few a, rows_few b)
rows_few (part_one e x) = omega (arith, rows_few e)
rows_few (part_two a b x) = omega (arith, rows_few a, rows_few b)

-- 1 for the work that stops
abbrev stopping : Work → ℕ
stopping (push n κ) = 0
stopping (fetch k) = 0
stopping (take κ) = 0
stopping (apply o) = 0
stopping (join o) = 0
stopping hold = 0
stopping drop = 0
stopping stop = 1

told_inside : (types rows : List ℕ) (p : ℕ) (w : Work) {m : Mode} {l i : ℕ} → task_row_at types rows p ≡ task_row w m l i → stopping w ≡ 0
    → p < whole_rows rows
told_inside types rows p w x z =
    row_inside types rows p
    (λ s. let e : stopping w ≡ 1 = sym (ap (λ (r : TaskRow). stopping r.work) x) ∙ ap stopping s in omega (arith, e, z))

pub part_inside : {types rows : List ℕ} {m : Mode} {i p q : ℕ} {e : Expr} → PartRows types rows m i p e q → q ≤ whole_rows rows
part_inside (part_lit {n} {κ} x) = omega (arith, told_inside _ _ _ (push n κ) x refl)
part_inside (part_var {k} x) = omega (arith, told_inside _ _ _ (fetch k) x refl)
part_inside (part_malloc x d) = omega (arith, told_inside _ _ _ _ x refl)
part_inside (part_bind a x b y) = omega (arith, told_inside _ _ _ drop y refl)
part_inside (part_one {o} e x) = omega (arith, told_inside _ _ _ (apply o) x refl)
part_inside (part_two {o} a b x) = omega (arith, told_inside _ _ _ (join o) x refl)

-- ---- rows that stay
-- the numbers of row j are as they were
abbrev pub SameRow : (rows rows' : List ℕ) (j : ℕ) → Type 0
SameRow rows rows' j = (head_at rows' j ≡ head_at rows j) × (datum_at rows' j ≡ datum_at rows j)

says_same : (types rows rows' : List ℕ) (j : ℕ) → SameRow rows rows' j → task_row_at types rows' j ≡ task_row_at types rows j
unfolding task_row_at
says_same types rows rows' j (h, d) = rw (h, d)

-- a part stays if its rows stay
pub part_same : {types rows rows' : List ℕ} {m : Mode} {i p q : ℕ} {e : Expr} (a b : ℕ)
    → ((j : ℕ) → a ≤ j → j < b → SameRow rows rows' j) → a ≤ p → q ≤ b → PartRows types rows m i p e q → PartRows types rows' m i p e q
part_same a b same l n (part_lit {p} x) = part_lit (says_same _ _ _ p (same p l n) ∙ x)
part_same a b same l n (part_var {p} x) = part_var (says_same _ _ _ p (same p l n) ∙ x)
part_same a b same l n (part_malloc {p} x d) = part_malloc (says_same _ _ _ p (same p l n) ∙ x) ((same p l n).1 ∙ d)
part_same a b same l n (part_bind {q} {r} u x v y) =
    let f = forward u in
    let g = forward v in
    part_bind (part_same a b same l (omega arith) u) (says_same _ _ _ q (same q (omega arith) (omega arith)) ∙ x)
    (part_same a b same (omega arith) (omega arith) v)
    (says_same _ _ _ r (same r (omega arith) (omega arith)) ∙ y)
part_same a b same l n (part_one {q} u x) =
    let f = forward u in
    part_one (part_same a b same l (omega arith) u) (says_same _ _ _ q (same q (omega arith) (omega arith)) ∙ x)
part_same a b same l n (part_two {q} {r} u v x) =
    let f = forward u in
    let g = forward v in
    part_two (part_same a b same l (omega arith) u) (part_same a b same (omega arith) (omega arith) v)
    (says_same _ _ _ r (same r (omega arith) (omega arith)) ∙ x)

-- ---- the rows before an end stay
pub kept_all : {rows : List ℕ} (end : ℕ) → FrontKept end rows rows
kept_all end = record { heads = λ p l. refl; datums = λ p l. refl; long = refl }

pub kept_then : {end end' : ℕ} {rows rows' rows'' : List ℕ} → FrontKept end rows rows' → end ≤ end' → FrontKept end' rows' rows''
    → FrontKept end rows rows''
kept_then k n k' =
    record {
      heads = λ p l. k'.heads p (omega arith) ∙ k.heads p l;
      datums = λ p l. k'.datums p (omega arith) ∙ k.datums p l;
      long = k'.long ∙ k.long;
    }

pub kept_put : (rows : List ℕ) {end p : ℕ} (head datum : ℕ) → end ≤ p → FrontKept end rows (put_row rows p head datum)
kept_put rows {p = p} head datum n =
    record {
      heads = λ j l. head_elsewhere rows p head datum j (λ e. omega arith);
      datums = λ j l. datum_elsewhere rows p head datum j (λ e. omega arith);
      long = length_row rows p head datum;
    }

pub front_row : {end : ℕ} {rows rows' : List ℕ} (types : List ℕ) (p : ℕ) → FrontKept end rows rows' → p < end
    → task_row_at types rows' p ≡ task_row_at types rows p
front_row types p k l = says_same types _ _ p (k.heads p l, k.datums p l)

pub part_kept : {end : ℕ} {types rows rows' : List ℕ} {m : Mode} {i p q : ℕ} {e : Expr} → FrontKept end rows rows' → q ≤ end
    → PartRows types rows m i p e q → PartRows types rows' m i p e q
part_kept {end} k n x = part_same 0 end (λ j _ l. (k.heads j l, k.datums j l)) (omega arith) n x
