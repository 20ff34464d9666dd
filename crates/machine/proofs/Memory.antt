-- Of the lent tables: a row that is not whole is not there; what was put is found again, and all else is as it was.
use Rattle.std.proofs.Common.{◌≡◌, ℕ, suc, ◌+◌, ◌*◌, ◌/◌, ◌<◌, ◌≤◌, Bool, true, false, not, eqb}
use Rattle.std.proofs.Common.{nat_le, Option, Some, None, List, length, get_or, set, refl, ◌∙◌, arith, le-ltb, lt-ltb, ne_eqb}
use Rattle.std.proofs.lemmas.Grind.{common_steps}
use native.Mathlib.Decide.{dec_lt}
use Rattle.std.specs.Int.{from_bool}
use Rattle.std.specs.declared.ops.ControlFlow.TheVariants.{Continue, Break}
use Rattle.choice.specs.Choice.{choose_case}
use Rattle.cells.specs.Lent.{lent_number, put_word}
use Rattle.calculus.specs.Operations.{operation_of}
use Rattle.calculus.specs.Run.{outcome_of}
use Rattle.calculus.specs.declared.End.TheVariants.{Halted}
use Rattle.calculus.specs.declared.Halt.{Halt}
use Rattle.calculus.specs.declared.Operation.{Operation}
use Rattle.calculus.specs.declared.Operation.TheVariants.{Literal}
use Rattle.image.specs.Tabled.{Row}
use Rattle.yields.specs.declared.Yield.{Yield}
use Rattle.yields.specs.Yields.{given_on}
use Rattle.machine.specs.declared.CodedValue.{CodedValue}
use Rattle.machine.specs.declared.State.{State}
use Rattle.machine.specs.States.{Turn, over, first_in, more, halt, contracted, leaving, word_written, settled}
use Rattle.machine.specs.Rows.{in_row, node, node_at, frame_row, first_value, frame_at, framed, kept}

-- ---- a row by the one test that finds it
pub row_here : (t : List ℕ) (i j : ℕ) → i < length t / 4 → in_row t i j ≡ get_or t (4 * i + j) 0
unfolding in_row
row_here t i j l = rw (lt-ltb i (length t / 4) l)

pub row_none : (t : List ℕ) (i j : ℕ) → length t / 4 ≤ i → in_row t i j ≡ 0
unfolding in_row
row_none t i j l = rw (le-ltb i (length t / 4) l)

-- a node that is no literal is there: past the end the code is 0
pub node_there : (t : List ℕ) (i : ℕ) → ((node_at t i).operation ≡ Literal → ⊥) → i < length t / 4
unfolding node_at operation_of in_row
node_there t i n = go (dec_lt i (length t / 4))
  where
    go : Dec (i < length t / 4) → i < length t / 4
    go (yes l) = l
    go (no m) = absurd (n (rw (le-ltb i (length t / 4) (omega arith))))

-- in a table of whole rows a node is as its row says
row_whole : (t : List ℕ) (n i j : ℕ) → length t ≡ 4 * n → j < 4 → in_row t i j ≡ get_or t (4 * i + j) 0
unfolding in_row
row_whole t n i j e l = grind (arith, common_steps)

pub node_whole : {t : List ℕ} {i : ℕ} {o : Operation} {argument kind second : ℕ} (n : ℕ) → length t ≡ 4 * n → Row t i o argument kind second
    → node_at t i ≡ node o argument kind second
unfolding node_at
node_whole {t} {i} n e r =
    let z : 4 * i + 0 ≡ 4 * i = omega arith in
    rw (
      row_whole t n i 0 e (omega arith),
      row_whole t n i 1 e (omega arith),
      row_whole t n i 2 e (omega arith),
      row_whole t n i 3 e (omega arith),
      z,
      r.operation_is,
      r.argument_is,
      r.kind_is,
      r.second_is,
    )

pub framed_here : (t : List ℕ) (i node : ℕ) (inside : Bool) → i < length t / 4
    → framed t i node inside ≡ set (set (set (set t (4 * i) node) (4 * i + 1) (from_bool inside)) (4 * i + 2) 0) (4 * i + 3) 0
unfolding framed
framed_here t i node inside l = rw (lt-ltb i (length t / 4) l)

pub framed_none : (t : List ℕ) (i node : ℕ) (inside : Bool) → length t / 4 ≤ i → framed t i node inside ≡ t
unfolding framed
framed_none t i node inside l = rw (le-ltb i (length t / 4) l)

pub kept_here : (t : List ℕ) (i : ℕ) (v : CodedValue) → i < length t / 4
    → kept t i v ≡ set (set t (4 * i + 2) v.value) (4 * i + 3) v.code
unfolding kept
kept_here t i v l = rw (lt-ltb i (length t / 4) l)

pub kept_none : (t : List ℕ) (i : ℕ) (v : CodedValue) → length t / 4 ≤ i → kept t i v ≡ t
unfolding kept
kept_none t i v l = rw (le-ltb i (length t / 4) l)

-- ---- what was put
pub length_framed : (t : List ℕ) (i node : ℕ) (inside : Bool) → length (framed t i node inside) ≡ length t
unfolding framed
length_framed t i node inside = grind (arith, common_steps)

pub length_kept : (t : List ℕ) (i : ℕ) (v : CodedValue) → length (kept t i v) ≡ length t
unfolding kept
length_kept t i v = grind (arith, common_steps)

-- a frame by the numbers of its row
flag_back : (b : Bool) → not (eqb (from_bool b) 0) ≡ b
flag_back true = refl
flag_back false = refl

frame_of : (t : List ℕ) (i : ℕ) {a c d : ℕ} (b : Bool) → in_row t i 0 ≡ a → in_row t i 1 ≡ from_bool b → in_row t i 2 ≡ c → in_row t i 3 ≡ d
    → frame_at t i ≡ frame_row a b (first_value c d)
unfolding frame_at
frame_of t i b e₀ e₁ e₂ e₃ = rw (e₀, e₁, e₂, e₃, flag_back)

-- the four numbers of a row
pub record Four (t : List ℕ) (i a b c d : ℕ) : Type 0 where
  pub first_is : in_row t i 0 ≡ a
  pub second_is : in_row t i 1 ≡ b
  pub third_is : in_row t i 2 ≡ c
  pub fourth_is : in_row t i 3 ≡ d

-- frames below h are as they were
pub record SameBelow (h : ℕ) (t t' : List ℕ) : Type 0 where
  pub frame_same : (i : ℕ) → i < h → frame_at t' i ≡ frame_at t i

-- rows below h are as they were, and so are their frames
pub record RowsBelow (h : ℕ) (t t' : List ℕ) : Type 0 where
  pub row_same : (i j : ℕ) → i < h → j < 4 → in_row t' i j ≡ in_row t i j
  pub frame_same : (i : ℕ) → i < h → frame_at t' i ≡ frame_at t i

pub frames_below : {h : ℕ} {t t' : List ℕ} → RowsBelow h t t' → SameBelow h t t'
frames_below s = record { frame_same = s.frame_same }

-- the rows' numbers tell it all
pub rows_below : {h : ℕ} {t t' : List ℕ} → ((i j : ℕ) → i < h → j < 4 → in_row t' i j ≡ in_row t i j) → RowsBelow h t t'
unfolding frame_at
rows_below same =
    record {
      row_same = same;
      frame_same = λ i l. rw (same i 0 l (omega arith), same i 1 l (omega arith), same i 2 l (omega arith), same i 3 l (omega arith));
    }

pub four_below : {h i a b c d : ℕ} {t t' : List ℕ} → RowsBelow h t t' → i < h → Four t i a b c d → Four t' i a b c d
four_below {i = i} s l f =
    record {
      first_is = s.row_same i 0 l (omega arith) ∙ f.first_is;
      second_is = s.row_same i 1 l (omega arith) ∙ f.second_is;
      third_is = s.row_same i 2 l (omega arith) ∙ f.third_is;
      fourth_is = s.row_same i 3 l (omega arith) ∙ f.fourth_is;
    }

below : (t t' : List ℕ) (h : ℕ) → length t' ≡ length t → ((k : ℕ) → k < 4 * h → get_or t' k 0 ≡ get_or t k 0) → RowsBelow h t t'
unfolding in_row
below t t' h e same = rows_below (λ i j l m. rw (e, same (4 * i + j) (omega arith)))

module _ (t : List ℕ) (i node : ℕ) (inside : Bool) where
  pub rows_framed : RowsBelow i t (framed t i node inside)
  unfolding framed
  rows_framed = below t (framed t i node inside) i (length_framed t i node inside) (λ k l. grind (arith, common_steps))

  pub framed_below : SameBelow i t (framed t i node inside)
  framed_below = frames_below rows_framed

  pub four_framed : i < length t / 4 → Four (framed t i node inside) i node (from_bool inside) 0 0
  unfolding framed in_row
  four_framed h =
      record {
        first_is = grind (arith, common_steps);
        second_is = grind (arith, common_steps);
        third_is = grind (arith, common_steps);
        fourth_is = grind (arith, common_steps);
      }

  pub frame_put : i < length t / 4 → frame_at (framed t i node inside) i ≡ frame_row node inside None
  frame_put h =
      let f = four_framed h in
      frame_of (framed t i node inside) i {c = 0} {d = 0} inside f.first_is f.second_is f.third_is f.fourth_is

module _ (t : List ℕ) (i : ℕ) (v : CodedValue) where
  pub rows_kept : RowsBelow i t (kept t i v)
  unfolding kept
  rows_kept = below t (kept t i v) i (length_kept t i v) (λ k l. grind (arith, common_steps))

  pub kept_below : SameBelow i t (kept t i v)
  kept_below = frames_below rows_kept

  -- the node and its mode stay, and the value is found again
  row_kept : i < length t / 4 → Four (kept t i v) i (in_row t i 0) (in_row t i 1) v.value v.code
  unfolding kept in_row
  row_kept h =
      record {
        first_is = grind (arith, common_steps);
        second_is = grind (arith, common_steps);
        third_is = grind (arith, common_steps);
        fourth_is = grind (arith, common_steps);
      }

  pub four_kept : {node inside a b : ℕ} → i < length t / 4 → Four t i node inside a b → Four (kept t i v) i node inside v.value v.code
  four_kept h f =
      let k = row_kept h in
      record { first_is = k.first_is ∙ f.first_is; second_is = k.second_is ∙ f.second_is; third_is = k.third_is; fourth_is = k.fourth_is }

  value_kept : i < length t / 4 → (v.code ≡ 0 → ⊥) → frame_at (kept t i v) i ≡ frame_row (frame_at t i).node (frame_at t i).inside (Some v)
  unfolding frame_at
  value_kept h n = let k = row_kept h in rw (k.first_is, k.second_is, k.third_is, k.fourth_is, ne_eqb v.code 0 n)

  pub frame_kept : {node : ℕ} {inside : Bool} {d : Option CodedValue} → i < length t / 4 → (v.code ≡ 0 → ⊥) → frame_at t i ≡ frame_row node inside d
      → frame_at (kept t i v) i ≡ frame_row node inside (Some v)
  frame_kept h n e = value_kept h n ∙ rw e

-- ---- bound values, in words
pub record BoundWord (t : List ℕ) (a value code : ℕ) : Type 0 where
  pub value_is : lent_number t a 0 ≡ value
  pub code_is : lent_number t a 1 ≡ code

module _ (t : List ℕ) (i value code : ℕ) (h : i < length t / 2) where
  pub word_same : BoundWord (put_word t (suc i) value code) (suc i) value code
  unfolding put_word lent_number
  word_same = record { value_is = grind (arith, common_steps); code_is = grind (arith, common_steps) }

  number_other : (j k : ℕ) → j < i → k < 2 → lent_number (put_word t (suc i) value code) (suc j) k ≡ lent_number t (suc j) k
  unfolding put_word lent_number
  number_other j k l m = grind (arith, common_steps)

  pub word_other : {v c : ℕ} (j : ℕ) → j < i → BoundWord t (suc j) v c → BoundWord (put_word t (suc i) value code) (suc j) v c
  word_other j l w =
      record { value_is = number_other j 0 l (omega arith) ∙ w.value_is; code_is = number_other j 1 l (omega arith) ∙ w.code_is }

-- ---- the heap where a transition ends the run, or leaves it as it is
pub written_same : (r : Turn) (ws : List ℕ) → leaving r ws ≡ word_written r ws ws
written_same (Continue s) ws = refl
written_same (Break o) ws = refl

pub settled_same : (limit : ℕ) (s : State) (y : Yield) (ws : List ℕ) → leaving (contracted limit s y) ws ≡ settled limit s ws (given_on y ws)
unfolding settled
settled_same limit s y ws = written_same (contracted limit s y) ws

pub halt_kept : (limit : ℕ) (s : State) (h : Halt) (ws ws' : List ℕ) → word_written (halt limit s h) ws ws' ≡ leaving (halt limit s h) ws
halt_kept limit s h ws ws' =
    choose_case (λ (r : Turn). word_written r ws ws' ≡ leaving r ws) (nat_le limit s.steps) (λ _. more s)
    (λ _. over (outcome_of (Halted h) (s.steps + 1) (first_in s))) refl refl
