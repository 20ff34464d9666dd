-- The transition at a node: a literal or a variable is a value, malloc contracts, and any other node waits in a frame for its first part.
use Rattle.std.specs.Prelude.{ℕ, ◌+◌, ◌-◌, ◌/◌, Bool, true, List, length, nat_le}
use Rattle.choice.specs.Choice.{choose}
use Rattle.cells.specs.Lent.{lent_number}
use Rattle.calculus.specs.declared.Operation.{Operation}
use Rattle.calculus.specs.declared.Operation.TheVariants as op
use Rattle.machine.specs.declared.Node.{Node}
use Rattle.machine.specs.declared.State.{State}
use Rattle.yields.specs.declared.Terms.{Terms}
use Rattle.machine.specs.States.{Turn, goes, Leaving, Moved, leaving, moved, on_heap, on_frames, stuck, with_node, with_value, at_height}
use Rattle.machine.specs.Rows.{node_at, framed}
use Rattle.machine.specs.Malloc.{room_at}

-- inside an unchecked block, or as before
abbrev pub inside_of : Operation → (inside : Bool) → Bool
inside_of op.Unchecked inside = true
inside_of op.Literal inside = inside
inside_of op.Variable inside = inside
inside_of op.Let inside = inside
inside_of op.Malloc inside = inside
inside_of op.Cast inside = inside
inside_of op.Read inside = inside
inside_of (op.Acts o) inside = inside
inside_of op.Field inside = inside
inside_of op.Unknown inside = inside

-- the value of a variable, by how many lets out it is: bound values stand in the list as words in a heap, the outermost at address 1
unfoldable pub variable_at : List ℕ → State → (out : ℕ) → Turn
variable_at bound s out =
    choose (nat_le s.lets out) (λ _. stuck s)
    (λ _. goes (with_value s (lent_number bound (s.lets - out) 0) (lent_number bound (s.lets - out) 1)))

-- the node waits in a frame for its first part, which is the next node
unfoldable pub first_part : List ℕ → State → (at : ℕ) → Operation → Leaving
first_part frames s at o =
    choose (nat_le (length frames / 4) s.height) (λ _. leaving (stuck s) frames)
    (λ _. leaving (goes (at_height (with_node s (at + 1)) (s.height + 1) (inside_of o s.inside))) (framed frames s.height at s.inside))

-- the node in focus, with that number, does that; the argument and the kind are its own
module _ (structs types : List ℕ) (T : Terms) (ws frames bound : List ℕ) (s : State) (at : ℕ) where
  unfoldable pub entered : Operation → (argument kind : ℕ) → Moved
  entered op.Literal argument kind = moved (goes (with_value s argument kind)) ws frames bound
  entered op.Variable argument kind = moved (variable_at bound s argument) ws frames bound
  entered op.Malloc argument kind = on_heap frames bound (room_at structs types T ws s kind)
  entered op.Let argument kind = on_frames ws bound (first_part frames s at op.Let)
  entered op.Unchecked argument kind = on_frames ws bound (first_part frames s at op.Unchecked)
  entered op.Cast argument kind = on_frames ws bound (first_part frames s at op.Cast)
  entered op.Read argument kind = on_frames ws bound (first_part frames s at op.Read)
  entered (op.Acts o) argument kind = on_frames ws bound (first_part frames s at (op.Acts o))
  entered op.Field argument kind = on_frames ws bound (first_part frames s at op.Field)
  entered op.Unknown argument kind = on_frames ws bound (first_part frames s at op.Unknown)

  abbrev pub entered_node : Node → Moved
  entered_node n = entered n.operation n.argument n.kind

abbrev pub entering : (nodes structs types : List ℕ) → Terms → (ws frames bound : List ℕ) → State → (at : ℕ) → Moved
entering nodes structs types T ws frames bound s at = entered_node structs types T ws frames bound s at (node_at nodes at)
