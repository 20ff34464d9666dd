-- The lent tables in rows of four numbers, nodes and frames. A row that is not whole is not there.
use Rattle.std.specs.Prelude.{ℕ, ◌+◌, ◌*◌, ◌/◌, Bool, not, ◌==◌, List, length, set, nat_lt, slice_index, slice_set, Option, Some, None}
use Rattle.std.specs.Int.{from_bool}
use Rattle.choice.specs.Choice.{choose}
use Rattle.calculus.specs.Operations.{operation_of}
use Rattle.calculus.specs.declared.Operation.{Operation}
use Rattle.machine.specs.declared.CodedValue.{CodedValue}
use Rattle.machine.specs.declared.Frame.{Frame}
use Rattle.machine.specs.declared.Node.{Node}
use Rattle.machine.specs.States.{coded_value}

-- number j of row i, 0 where there is no such row
unfoldable pub in_row : List ℕ → (i j : ℕ) → ℕ
in_row t i j = choose (nat_lt i (length t / 4)) (λ _. slice_index t (4 * i + j)) (λ _. 0)

-- a node by its operation and the other numbers of its row
abbrev pub node : Operation → (argument kind second : ℕ) → Node
node o argument kind second = record { operation = o; argument = argument; kind = kind; second = second }

-- node i
unfoldable pub node_at : List ℕ → (i : ℕ) → Node
node_at t i = node (operation_of (in_row t i 0)) (in_row t i 1) (in_row t i 2) (in_row t i 3)

-- A frame is a node, whether it lies inside an unchecked block, and the value of its first part with the code of its kind, which is 0 while
-- that part is evaluated.
abbrev pub frame_row : (node : ℕ) (inside : Bool) → Option CodedValue → Frame
frame_row node inside first = record { node = node; inside = inside; first = first }

abbrev pub first_value : (value code : ℕ) → Option CodedValue
first_value value code = choose (code == 0) (λ _. None) (λ _. Some (coded_value value code))

unfoldable pub frame_at : List ℕ → (i : ℕ) → Frame
frame_at t i = frame_row (in_row t i 0) (not (in_row t i 1 == 0)) (first_value (in_row t i 2) (in_row t i 3))

-- the frames after a node was put at a place to wait for its first part
unfoldable pub framed : List ℕ → (i node : ℕ) → (inside : Bool) → List ℕ
framed t i node inside =
    choose (nat_lt i (length t / 4))
    (λ _. set (slice_set (slice_set (slice_set t (4 * i) node) (4 * i + 1) (from_bool inside)) (4 * i + 2) 0) (4 * i + 3) 0) (λ _. t)

-- and after the value of that part was put there
unfoldable pub kept : List ℕ → (i : ℕ) → CodedValue → List ℕ
kept t i v = choose (nat_lt i (length t / 4)) (λ _. set (slice_set t (4 * i + 2) v.value) (4 * i + 3) v.code) (λ _. t)
