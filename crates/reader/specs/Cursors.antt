-- What crosses the recursive call, each as one number: where reading stands (rows, 13 bits; nodes, 12 bits; the offset above them), what is
-- around a node (the depth that is left, 7 bits; whether it lies inside an unchecked block, 1 bit; the lets around it above them), and an
-- answer (where reading stands, or with bit 63 a refusal: its place, 38 bits, and its fault's number, 4 bits). What doesn't fit is cut.
use Rattle.std.specs.Prelude.{ℕ, zero, suc, ◌+◌, ◌*◌, ◌/◌, ◌%◌, ◌^◌, Bool, List, [], ◌∷◌, eqb, ltb, get_or, Option, Some, None, Result, Ok, Err}
use Rattle.std.specs.Int.{from_bool}
use Rattle.choice.specs.Choice.{choose}
use Rattle.calculus.specs.Answers.{fault_number}
use Rattle.calculus.specs.declared.Fault.{Fault}
use Rattle.calculus.specs.declared.Fault.TheVariants.{Ends, Unfit, Format, Limit, Unknown, Repeat, Beyond, Behind, NoRule, IllTyped}
use Rattle.calculus.specs.declared.Refusal.{Refusal}
use Rattle.image.specs.Answers.{refusal}

-- ---- where reading stands: at an offset, behind so many nodes and rows
pub record ReadingAt : Type 0 where
  pub offset : ℕ
  pub nodes : ℕ
  pub rows : ℕ

abbrev pub reading_at : (offset nodes rows : ℕ) → ReadingAt
reading_at offset nodes rows = record { offset = offset; nodes = nodes; rows = rows }

abbrev pub cursor_number : ReadingAt → ℕ
cursor_number s = s.rows + 8192 * s.nodes + 33554432 * s.offset

abbrev pub standing_in : (number : ℕ) → ReadingAt
standing_in number = reading_at (number / 33554432) (number / 8192 % 4096) (number % 8192)

-- behind the head of the node there, which ends at `next`: one node more
unfoldable pub behind_head : ReadingAt → (next : ℕ) → ReadingAt
behind_head s next = reading_at (next % 274877906944) ((s.nodes + 1) % 4096) s.rows

-- behind one row more
unfoldable pub behind_row : ReadingAt → ReadingAt
behind_row s = standing_in ((cursor_number s + 1) % 2 ^ 64)

-- ---- what is around a node: how deep it may nest, how many lets it is inside of, whether it lies inside an unchecked block
pub record Surroundings : Type 0 where
  pub depth : ℕ
  pub lets : ℕ
  pub inside : Bool

abbrev pub surroundings : (depth lets : ℕ) → (inside : Bool) → Surroundings
surroundings depth lets inside = record { depth = depth; lets = lets; inside = inside }

abbrev pub around_number : Surroundings → ℕ
around_number a = a.depth + 128 * from_bool a.inside + 256 * a.lets

abbrev pub surroundings_in : (number : ℕ) → Surroundings
surroundings_in number = surroundings (number % 128) (number / 256) (eqb (number / 128 % 2) 1)

-- around a part of the node: one level less, if there is one
abbrev pub less_deep : (depth lets : ℕ) → (inside : Bool) → Option Surroundings
less_deep zero lets inside = None
less_deep (suc depth) lets inside = Some (surroundings depth lets inside)

abbrev pub deeper : Surroundings → Option Surroundings
deeper a = less_deep a.depth a.lets a.inside

-- around the body of a let
abbrev pub more_lets : (lets : ℕ) → ℕ
more_lets lets = (lets + 1) % 2 ^ 56

abbrev pub under_let : Surroundings → Surroundings
under_let a = surroundings a.depth (more_lets a.lets) a.inside

-- ---- an answer
-- the faults at their numbers; 0, and a number that none has, is the last one's
abbrev pub fault_list : List Fault
fault_list = IllTyped ∷ Ends ∷ Unfit ∷ Format ∷ Limit ∷ Unknown ∷ Repeat ∷ Beyond ∷ Behind ∷ NoRule ∷ []

unfoldable pub fault_of : (number : ℕ) → Fault
fault_of number = get_or fault_list number IllTyped

abbrev pub answer_number : Result ReadingAt Refusal → ℕ
answer_number (Ok s) = cursor_number s
answer_number (Err q) = 9223372036854775808 + 274877906944 * fault_number q.fault + q.place % 274877906944

abbrev pub answer_in : (number : ℕ) → Result ReadingAt Refusal
answer_in number =
    choose (ltb number 9223372036854775808)
    (λ _. Ok (standing_in number))
    (λ _. Err (refusal (fault_of (number / 274877906944 % 16)) (number % 274877906944)))

-- what comes out of the call
unfoldable pub crossed : Result ReadingAt Refusal → Result ReadingAt Refusal
crossed reading = answer_in (answer_number reading)
