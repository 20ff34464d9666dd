-- Steps by replacement (section 3.2): "Leftmost part first, nothing under a let's body. A step is unchecked exactly if its redex lies
-- inside an unchecked block; unwrapping a block in checked code is a checked step."
use Rattle.std.specs.Prelude.{ℕ, zero, suc, pred, ◌+◌, ◌-◌, ◌%◌, ◌^◌, Bool, false, eqb, ltb, length, get_or, Option, Some, None}
use Rattle.choice.specs.Choice.{choose, both}
use Rattle.cells.specs.Heap.{Heap, look, update, undefined}
use Rattle.cells.specs.Free.{lowest_in}
use Rattle.cells.specs.declared.Mode.{Mode}
use Rattle.cells.specs.declared.Mode.TheVariants.{Checked, Unchecked}
use Rattle.cells.specs.declared.Kind.{Kind}
use Rattle.cells.specs.declared.Kind.TheVariants.{Int, Word, Struct, Array}
use Rattle.cells.specs.declared.Cell.{Cell}
use Rattle.calculus.specs.Setting.{Setting, cell, fields_of, size, word_kind, is_checked, checked_pointer, checked_empty}
use Rattle.calculus.specs.Expr.{Expr, lit, var, malloc, bind, one, two, One, unchecked, cast, read, field, act, pointer, inside}
use Rattle.calculus.specs.declared.Act.{Act}
use Rattle.calculus.specs.declared.Act.TheVariants.{Assign, Sum}
use Rattle.calculus.specs.declared.Halt.{Halt}
use Rattle.calculus.specs.declared.Halt.TheVariants.{Null, Bounds, Room}

-- what a redex does: nothing fits; it halts; or it gives a value, and the heap is then as told
pub data Redex : Type 0 where
  blocked : Redex
  halts : Halt → Redex
  gives : Heap → ℕ → Kind → Redex

-- "Sums of numbers are taken modulo 2^32"
abbrev pub added : Setting → ℕ → ℕ → ℕ
added S n k = (n + k) % 2 ^ S.width

-- "The result has the left side's type. If that is a checked array pointer of n: .. n falls by the right side, not below 0."
abbrev pub fallen : Kind → ℕ → Kind
fallen Int k = Int
fallen (Word m n) k = Word m n
fallen (Struct m s) k = Struct m s
fallen (Array Checked c n) k = Array Checked (c - k) n
fallen (Array Unchecked c n) k = Array Unchecked c n

abbrev pub checked_array : Kind → Bool
checked_array Int = false
checked_array (Word m n) = false
checked_array (Struct m s) = false
checked_array (Array m c n) = is_checked m

-- E-Binop, X-BinopNull
unfoldable pub sum_redex : Setting → Heap → ℕ → Kind → ℕ → Redex
sum_redex S H n κ k =
    choose (both (checked_array κ) (eqb n 0)) (λ _. halts Null) (λ _. gives H (added S n k) (fallen κ k))

-- no rule fits an undefined word
abbrev pub defined_then : Option Cell → (Cell → Redex) → Redex
defined_then None go = blocked
defined_then (Some c) go = go c

-- the word at v = n for a read or an assign: "a checked pointer with v = 0 halts with Null; then a checked pointer to an array of 0
-- halts with Bounds; then v undefined in the heap is Stuck; otherwise" go on with the word
unfoldable pub word_then : Heap → ℕ → Kind → (Cell → Redex) → Redex
word_then H n κ go =
    choose (both (checked_pointer κ) (eqb n 0)) (λ _. halts Null) λ _.
    choose (checked_empty κ) (λ _. halts Bounds) (λ _. defined_then (look H n) go)

-- E-Amper, X-AmperNull: "The value plus the field number, modulo 2^32. No struct pointer, or no such field: Stuck. Otherwise a checked
-- pointer of 0 halts with Null."
unfoldable pub field_redex : Setting → Heap → ℕ → ℕ → Kind → Redex
field_redex S H f n Int = blocked
field_redex S H f n (Word m t) = blocked
field_redex S H f n (Struct m s) =
    choose (ltb f (length (fields_of S s)))
    (λ _. choose (both (is_checked m) (eqb n 0)) (λ _. halts Null)
    (λ _. gives H (added S n f) (Word m (get_or (fields_of S s) f 0))))
    (λ _. blocked)
field_redex S H f n (Array m k t) = blocked

-- E-Unchecked, E-Cast, E-Deref with X-DerefNull and X-DerefOOB, and the field address
abbrev pub one_redex : Setting → Heap → One → ℕ → Kind → Redex
one_redex S H unchecked n κ = gives H n κ
one_redex S H (cast κ') n κ = gives H n κ'
one_redex S H read n κ = word_then H n κ (λ c. gives H c.value c.kind)
one_redex S H (field f) n κ = field_redex S H f n κ

-- E-Assign with X-AssignNull and X-AssignOOB, and the sum: the word is "replaced by the value with the value's type, which is the result"
abbrev pub act_redex : Setting → Heap → Act → ℕ → Kind → ℕ → Kind → Redex
act_redex S H Assign n κ k κ' = word_then H n κ (λ _. gives (update H n (cell k κ')) k κ')
act_redex S H Sum n κ k κ' = sum_redex S H n κ k

-- k words from address a on, the i-th word of the target and those behind it, become zeros of the target's types
unfoldable pub zeroed : Setting → Kind → (k a i : ℕ) → Heap → Heap
zeroed S κ zero a i H = H
zeroed S κ (suc k) a i H = zeroed S κ k (suc a) (suc i) (update H a (cell 0 (word_kind S κ i)))

-- the run becomes the target's words
abbrev pub taken_from : Setting → Heap → Kind → Option ℕ → Redex
taken_from S H κ (Some a) = gives (zeroed S κ (size S κ) a 0 H) a κ
taken_from S H κ None = halts Room

-- E-Malloc: "the lowest run of k consecutive undefined addresses within 1 to W becomes k zeros of the target's types. Room is given
-- exactly if no such run exists."
unfoldable pub malloc_redex : Setting → Heap → Kind → Redex
malloc_redex S H κ =
    choose (eqb (size S κ) 0) (λ _. blocked)
    (λ _. taken_from S H κ (lowest_in (λ a. undefined (look H a)) (size S κ) S.low S.high))

-- E-Let: "each use of the variable becomes the value"; the variable is the one d lets out
unfoldable pub replace : ℕ → Cell → Expr → Expr
replace d c (lit n κ) = lit n κ
replace d c (var k) =
    choose (ltb k d) (λ _. var k) λ _. choose (eqb k d) (λ _. lit c.value c.kind) (λ _. var (pred k))
replace d c (malloc ω) = malloc ω
replace d c (bind a b) = bind (replace d c a) (replace (suc d) c b)
replace d c (one o e) = one o (replace d c e)
replace d c (two o a b) = two o (replace d c a) (replace d c b)

-- what an expression does next: it is a value; no rule fits its redex; its redex halts; or it takes a step. The mode is the redex's.
pub data Step : Type 0 where
  done : ℕ → Kind → Step
  stuck : Mode → Step
  halt : Halt → Mode → Step
  next : Heap → Expr → Mode → Step

abbrev pub redex_step : Mode → Redex → Step
redex_step m blocked = stuck m
redex_step m (halts h) = halt h m
redex_step m (gives H n κ) = next H (lit n κ) m

-- the step of a part stands under the node around it; a part that is a value hands the step to the node
abbrev pub frame : (Expr → Expr) → Step → (ℕ → Kind → Step) → Step
frame around (done n κ) go = go n κ
frame around (stuck m) go = stuck m
frame around (halt h m) go = halt h m
frame around (next H e m) go = next H (around e) m

-- m is the mode of the code around the expression: unchecked exactly inside an unchecked block
unfoldable pub step : Setting → Mode → Heap → Expr → Step
step S m H (lit n κ) = done n κ
step S m H (var k) = stuck m
step S m H (malloc ω) = redex_step m (malloc_redex S H (pointer Checked ω))
step S m H (bind a b) = frame (λ a'. bind a' b) (step S m H a) (λ n κ. next H (replace 0 (cell n κ) b) m)
step S m H (one o e) = frame (one o) (step S (inside o m) H e) (λ n κ. redex_step m (one_redex S H o n κ))
step S m H (two (act o) a b) =
    frame (λ a'. two (act o) a' b) (step S m H a)
    (λ n κ. frame (two (act o) (lit n κ)) (step S m H b) (λ k κ'. redex_step m (act_redex S H o n κ k κ')))
