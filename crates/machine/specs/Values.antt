-- The transition at a value: it is the whole expression's, or it is handed back to the node in the topmost frame.
use Rattle.std.specs.Prelude.{ℕ, ◌+◌, ◌-◌, ◌/◌, Bool, List, length, ◌==◌, nat_le, Option, Some, None}
use Rattle.choice.specs.Choice.{choose}
use Rattle.cells.specs.Lent.{put_word}
use Rattle.calculus.specs.declared.Act.{Act}
use Rattle.calculus.specs.declared.Operation.{Operation}
use Rattle.calculus.specs.declared.Operation.TheVariants as op
use Rattle.machine.specs.declared.CodedValue.{CodedValue}
use Rattle.machine.specs.declared.Frame.{Frame}
use Rattle.machine.specs.declared.Node.{Node}
use Rattle.machine.specs.declared.State.{State}
use Rattle.yields.specs.declared.Terms.{Terms}
use Rattle.machine.specs.States.{goes, over, turned, Leaving, Stacked, Moved, leaving, stacked, moved, on_heap, on_stack, beside}
use Rattle.machine.specs.States.{stuck, done, contracted, settled, step_within, with_node, at_height, popped, with_lets}
use Rattle.machine.specs.Rows.{node_at, frame_at, kept}
use Rattle.yields.specs.declared.ArrayCounts.TheVariants.{Whole}
use Rattle.yields.specs.Yields.{act_gives}
use Rattle.machine.specs.Redexes.{one_yield}

-- by the parts that an operation has: a let's two, two values to act on, or any other
abbrev pub by_parts : {A : Type 0} → Operation → (Unit {0} → A) → (Act → A) → (Unit {0} → A) → A
by_parts op.Let binds acts other = binds tt
by_parts (op.Acts o) binds acts other = acts o
by_parts op.Literal binds acts other = other tt
by_parts op.Variable binds acts other = other tt
by_parts op.Malloc binds acts other = other tt
by_parts op.Unchecked binds acts other = other tt
by_parts op.Cast binds acts other = other tt
by_parts op.Read binds acts other = other tt
by_parts op.Field binds acts other = other tt
by_parts op.Unknown binds acts other = other tt

-- the value of a node's first part is kept in its frame, and its second part is entered
unfoldable pub second_part : List ℕ → State → CodedValue → (part : ℕ) → Leaving
second_part frames s v part = leaving (goes (with_node s part)) (kept frames (s.height - 1) v)

-- the value of a let's bound part is bound, a step, and its body is entered
unfoldable pub binding : (limit : ℕ) (frames bound : List ℕ) → State → CodedValue → (body : ℕ) → Stacked
binding limit frames bound s v body =
    choose (nat_le (length bound / 2) s.lets) (λ _. stacked (stuck s) frames bound)
    (λ _. turned (step_within limit s)
    (λ t. beside (put_word bound (s.lets + 1) v.value v.code) (second_part frames (with_lets t (s.lets + 1)) v body))
    (λ o. stacked (over o) frames bound))

-- v is the value of the node's first part
unfoldable pub after_first : (structs : List ℕ) → Terms → (ws frames bound : List ℕ) → State → CodedValue → Node → Stacked
after_first structs T ws frames bound s v n =
    by_parts n.operation (λ _. binding T.limit frames bound s v n.second) (λ _. beside bound (second_part frames s v n.second))
    (λ _. stacked (contracted T.limit (popped s) (one_yield structs T.words ws v n.operation n.argument n.kind)) frames bound)

-- it is that of the second part, or of a let's body; d is the first part's
unfoldable pub after_second : Terms → List ℕ → State → CodedValue → Operation → (d : CodedValue) → Leaving
after_second T ws s v o d =
    by_parts o (λ _. leaving (goes (with_lets s (s.lets - 1))) ws) (λ a. settled T.limit s ws (act_gives Whole T.words ws a v.value v.code d.value d.code))
    (λ _. leaving (stuck s) ws)

-- the node n in the topmost frame goes on with the value v
abbrev pub resumed_by : Option CodedValue → (structs : List ℕ) → Terms → (ws frames bound : List ℕ) → State → CodedValue → Node → (inside : Bool) → Moved
resumed_by None structs T ws frames bound s v n inside = on_stack ws (after_first structs T ws frames bound (at_height s s.height inside) v n)
resumed_by (Some d) structs T ws frames bound s v n inside =
    on_heap frames bound (after_second T ws (at_height s (s.height - 1) inside) v n.operation d)

abbrev pub resumed : (nodes structs : List ℕ) → Terms → (ws frames bound : List ℕ) → State → CodedValue → Frame → Moved
resumed nodes structs T ws frames bound s v f = resumed_by f.first structs T ws frames bound s v (node_at nodes f.node) f.inside

unfoldable pub handing : (nodes structs : List ℕ) → Terms → (ws frames bound : List ℕ) → State → CodedValue → Moved
handing nodes structs T ws frames bound s v =
    choose (s.height == 0) (λ _. moved (done s v) ws frames bound)
    (λ _. resumed nodes structs T ws frames bound s v (frame_at frames (s.height - 1)))
