-- How many steps a run takes: "If a run ends with Value, its steps equal the count of nodes of codes 2 to 9; no run takes more."
use Prim.Native.Nat.{ℕ, zero, suc, ◌+◌, ◌<◌}
use mathlib.Core.Path.{◌≡◌, refl, sym, ap, ◌∙◌}
use native.Mathlib.Omega.{arith}
use lib.Dec.{eqb, ltb}
use Rattle.choice.specs.Choice.{choose_case}
use Rattle.cells.specs.Heap.{Heap}
use Rattle.cells.specs.declared.Mode.{Mode}
use Rattle.cells.specs.declared.Mode.TheVariants.{Checked}
use Rattle.cells.specs.declared.Kind.{Kind}
use Rattle.cells.specs.declared.Cell.{Cell}
use Rattle.calculus.specs.Setting.{Setting, cell}
use Rattle.calculus.specs.Expr.{Expr, lit, var, malloc, bind, one, two, act, pointer, operators, inside}
use Rattle.calculus.specs.Steps.{Step, done, stuck, halt, next, step, frame, replace, Redex, blocked, halts, gives, redex_step, malloc_redex, one_redex, act_redex}
use Rattle.calculus.specs.declared.Halt.{Halt}
use Rattle.calculus.specs.Run.{Result, run, at_limit, onward}
use Rattle.calculus.specs.Counts.{Counts, Allowed}
use Rattle.calculus.proofs.Apart.{differ}

-- Replacing a variable keeps the operators.
pub replace_operators : (d : ℕ) (c : Cell) (e : Expr) → operators (replace d c e) ≡ operators e
unfolding operators replace
replace_operators d c (lit n κ) = refl
replace_operators d c (var k) =
    choose_case (λ e. operators e ≡ 0) (ltb k d) _ _ refl (choose_case (λ e. operators e ≡ 0) (eqb k d) _ _ refl refl)
replace_operators d c (malloc ω) = refl
replace_operators d c (bind a b) = cc (replace_operators d c a, replace_operators (suc d) c b)
replace_operators d c (one o e) = ap suc (replace_operators d c e)
replace_operators d c (two o a b) = cc (replace_operators d c a, replace_operators d c b)

-- What an expression of n operators does next: a value has none, a halt takes one, and a step lowers them by exactly one.
pub data Lowers (n : ℕ) : Step → Type 0 where
  no_operator : {v : ℕ} {κ : Kind} → n ≡ 0 → Lowers n (done v κ)
  stays : {m : Mode} → Lowers n (stuck m)
  ends : {h : Halt} {m : Mode} → 0 < n → Lowers n (halt h m)
  lower : {H : Heap} {e : Expr} {m : Mode} → n ≡ suc (operators e) → Lowers n (next H e m)

-- A redex is one operator.
redex_lowers : (n : ℕ) (m : Mode) (r : Redex) → n ≡ 1 → Lowers n (redex_step m r)
unfolding operators
redex_lowers n m blocked q = stays
redex_lowers n m (halts h) q = ends (omega arith)
redex_lowers n m (gives H v κ) q = lower q

-- A node of N operators, k of them besides the part that steps and the node's own, is lowered as that part is.
frame_lowers : (n k N : ℕ) (around : Expr → Expr) (s : Step) (go : ℕ → Kind → Step)
    → N ≡ suc (n + k) → ((e : Expr) → operators (around e) ≡ suc (operators e + k))
    → Lowers n s → (N ≡ suc k → (v : ℕ) (κ : Kind) → Lowers N (go v κ)) → Lowers N (frame around s go)
frame_lowers n k N around (done v κ) go whole count (no_operator q) rest = rest (omega arith) v κ
frame_lowers n k N around (stuck m) go whole count stays rest = stays
frame_lowers n k N around (halt h m) go whole count (ends p) rest = ends (omega arith)
frame_lowers n k N around (next H e m) go whole count (lower q) rest = lower {e = around e} (omega (arith, count e))

-- Each step lowers the operators by exactly one.
pub step_lowers : (S : Setting) (m : Mode) (H : Heap) (e : Expr) → Lowers (operators e) (step S m H e)
unfolding operators step
step_lowers S m H (lit n κ) = no_operator refl
step_lowers S m H (var k) = stays
step_lowers S m H (malloc ω) = redex_lowers 1 m (malloc_redex S H (pointer Checked ω)) refl
step_lowers S m H (bind a b) =
    frame_lowers _ (operators b) _ (λ a'. bind a' b) (step S m H a) _ refl (λ a'. refl) (step_lowers S m H a)
    (λ q v κ. lower {e = replace 0 (cell v κ) b} (rw replace_operators q))
step_lowers S m H (one o e) =
    frame_lowers _ 0 _ (one o) (step S (inside o m) H e) _ (omega arith) (λ e'. omega arith) (step_lowers S (inside o m) H e)
    (λ q v κ. redex_lowers _ m (one_redex S H o v κ) q)
step_lowers S m H (two (act o) a b) =
    frame_lowers _ (operators b) _ (λ a'. two (act o) a' b) (step S m H a) _ refl (λ a'. refl) (step_lowers S m H a) λ q v κ.
    frame_lowers _ 0 _ (two (act o) (lit v κ)) (step S m H b) _ (omega arith) (λ b'. omega arith) (step_lowers S m H b)
    (λ q v' κ'. redex_lowers _ m (act_redex S H o v κ v' κ') q)

-- The same of one step by itself.
pub lowered : (S : Setting) (m m' : Mode) (H H' : Heap) (e e' : Expr)
    → step S m H e ≡ next H' e' m' → operators e ≡ suc (operators e')
lowered S m m' H H' e e' q = from (operators e) (step S m H e) (step_lowers S m H e) q
  where
    from : (n : ℕ) (s : Step) → Lowers n s → s ≡ next H' e' m' → n ≡ suc (operators e')
    from n (done v κ) p q = differ cc
    from n (stuck m) p q = differ cc
    from n (halt h m) p q = differ cc
    from n (next H e m) (lower p) q = cc

-- A run that may take no step.
limit_counts : (n : ℕ) (H : Heap) (s : Step) → Lowers n s → Counts n (at_limit H s)
limit_counts n H (done v κ) (no_operator q) = record { few = omega arith; all = λ c e. sym q; left = λ e. differ cc }
limit_counts n H (stuck m) p = record { few = omega arith; all = λ c e. differ cc; left = λ e. differ cc }
limit_counts n H (halt h m) (ends p) = record { few = omega arith; all = λ c e. differ cc; left = λ e. p }
limit_counts n H (next H' e m) (lower q) = record { few = omega arith; all = λ c e. differ cc; left = λ e. omega arith }

-- A run that may take a step, and what comes after it.
onward_counts : (n : ℕ) (H : Heap) (s : Step) (go : Heap → Expr → Result)
    → ((H : Heap) (e : Expr) → Counts (operators e) (go H e)) → Lowers n s → Counts n (onward H s go)
onward_counts n H (done v κ) go rest (no_operator q) = record { few = omega arith; all = λ c e. sym q; left = λ e. differ cc }
onward_counts n H (stuck m) go rest p = record { few = omega arith; all = λ c e. differ cc; left = λ e. differ cc }
onward_counts n H (halt h m) go rest (ends p) = record { few = p; all = λ c e. differ cc; left = λ e. differ cc }
onward_counts n H (next H' e m) go rest (lower q) =
    let r = rest H' e in
    record { few = omega (arith, r.few); all = λ c v. ap suc (r.all c v) ∙ sym q; left = λ v. omega (arith, r.left v) }

-- The theorem: what every run says of its steps.
pub counted : (S : Setting) (limit : ℕ) (H : Heap) (e : Expr) → Counts (operators e) (run S limit H e)
unfolding run
counted S zero H e = limit_counts (operators e) H (step S Checked H e) (step_lowers S Checked H e)
counted S (suc limit) H e =
    onward_counts (operators e) H (step S Checked H e) (run S limit) (counted S limit) (step_lowers S Checked H e)

-- A run that may take no step.
limit_allowed : (H : Heap) (s : Step) → Allowed 0 (at_limit H s)
limit_allowed H (done n κ) = record { most = omega arith; spent = λ e. refl }
limit_allowed H (stuck m) = record { most = omega arith; spent = λ e. refl }
limit_allowed H (halt h m) = record { most = omega arith; spent = λ e. refl }
limit_allowed H (next H' e m) = record { most = omega arith; spent = λ e. refl }

-- A run that may take a step, and what comes after it.
onward_allowed : (limit : ℕ) (H : Heap) (s : Step) (go : Heap → Expr → Result)
    → ((H : Heap) (e : Expr) → Allowed limit (go H e)) → Allowed (suc limit) (onward H s go)
onward_allowed limit H (done n κ) go rest = record { most = omega arith; spent = λ e. differ cc }
onward_allowed limit H (stuck m) go rest = record { most = omega arith; spent = λ e. differ cc }
onward_allowed limit H (halt h m) go rest = record { most = omega arith; spent = λ e. differ cc }
onward_allowed limit H (next H' e m) go rest =
    let r = rest H' e in record { most = omega (arith, r.most); spent = λ v. ap suc (r.spent v) }

-- The theorem: every run takes at most its limit.
pub allowed : (S : Setting) (limit : ℕ) (H : Heap) (e : Expr) → Allowed limit (run S limit H e)
unfolding run
allowed S zero H e = limit_allowed H (step S Checked H e)
allowed S (suc limit) H e = onward_allowed limit H (step S Checked H e) (run S limit) (allowed S limit)
