-- A transition counts at most one step.
use Rattle.std.proofs.Common.{◌≡◌, ℕ, ◌+◌, ◌-◌, ◌≤◌, Bool, List, arith, Option, Some, None}
use Rattle.std.proofs.lemmas.Grind.{common_steps}
use Rattle.cells.specs.Lent.{lowest_run}
use Rattle.calculus.specs.declared.Halt.{Halt}
use Rattle.calculus.specs.declared.Halt.TheVariants as halts
use Rattle.calculus.specs.declared.Operation.{Operation}
use Rattle.calculus.specs.declared.Operation.TheVariants as op
use Rattle.yields.specs.declared.Terms.{Terms}
use Rattle.yields.specs.declared.Yield.{Yield}
use Rattle.yields.specs.declared.Yield.TheVariants.{Gives, Halts, Blocked}
use Rattle.yields.specs.Malloc.{sought_from}
use Rattle.yields.specs.declared.ArrayCounts.TheVariants.{Whole}
use Rattle.yields.specs.Yields.{act_gives}
use Rattle.machine.specs.declared.CodedValue.{CodedValue}
use Rattle.machine.specs.declared.Focus.{Focus}
use Rattle.machine.specs.declared.Focus.TheVariants as focus
use Rattle.machine.specs.declared.Node.{Node}
use Rattle.machine.specs.declared.State.{State}
use Rattle.machine.specs.States.{Turn, goes, turned, Leaving, Stacked, halt, contracted, settled, at_height, popped}
use Rattle.machine.specs.Rows.{node_at, frame_at}
use Rattle.machine.specs.Redexes.{one_yield}
use Rattle.machine.specs.Malloc.{size_in, room_taken, room_found, room_for}
use Rattle.machine.specs.Nodes.{variable_at, first_part, entered, entering}
use Rattle.machine.specs.Values.{second_part, binding, after_first, after_second, resumed_by, handing}
use Rattle.machine.specs.Turns.{transition, by_focus}
use Rattle.machine.proofs.Arms.{parts_case}

-- a transition after which no more steps are counted than n and one; where the run ends nothing is said
abbrev Slow : ℕ → Turn → Type 0
Slow n r = turned r (λ s. s.steps) (λ o. 0) ≤ n + 1

slow_halt : (limit : ℕ) (s : State) (h : Halt) → Slow s.steps (halt limit s h)
slow_halt limit s h = grind (arith, common_steps)

slow_contracted : (limit : ℕ) (s : State) (y : Yield) → Slow s.steps (contracted limit s y)
slow_contracted limit s (Gives v c) = grind (arith, common_steps)
slow_contracted limit s (Halts h) = slow_halt limit s h
slow_contracted limit s Blocked = omega arith

slow_variable : (bound : List ℕ) (s : State) (out : ℕ) → Slow s.steps (variable_at bound s out)
unfolding variable_at
slow_variable bound s out = grind (arith, common_steps)

slow_first : (frames : List ℕ) (s : State) (at : ℕ) (o : Operation) → Slow s.steps (first_part frames s at o).turn
unfolding first_part
slow_first frames s at o = grind (arith, common_steps)

slow_binding : (limit : ℕ) (frames bound : List ℕ) (s : State) (v : CodedValue) (body : ℕ) → Slow s.steps (binding limit frames bound s v body).turn
unfolding binding second_part
slow_binding limit frames bound s v body = grind (arith, common_steps)

module _ (structs types : List ℕ) (T : Terms) (ws : List ℕ) (s : State) where
  slow_run : (r : Option ℕ) (code size : ℕ) → Slow s.steps (room_found r structs types T.limit ws s code size).turn
  unfolding room_taken
  slow_run (Some a) code size = grind (arith, common_steps)
  slow_run None code size = slow_halt T.limit s halts.Room

  slow_room : (code size : ℕ) → Slow s.steps (room_for structs types T ws s code size).turn
  unfolding room_for
  slow_room code size =
      let r = slow_run (lowest_run ws size (sought_from s.hint size T.low) T.high) code size in
      grind (arith, common_steps)

module _ (structs types : List ℕ) (T : Terms) (ws frames bound : List ℕ) (s : State) where
  slow_entered : (at : ℕ) (o : Operation) (argument kind : ℕ) → Slow s.steps (entered structs types T ws frames bound s at o argument kind).turn
  unfolding entered
  slow_entered at op.Literal argument kind = omega arith
  slow_entered at op.Variable argument kind = slow_variable bound s argument
  slow_entered at op.Malloc argument kind = slow_room structs types T ws s kind (size_in structs kind)
  slow_entered at op.Let argument kind = slow_first frames s at op.Let
  slow_entered at op.Unchecked argument kind = slow_first frames s at op.Unchecked
  slow_entered at op.Cast argument kind = slow_first frames s at op.Cast
  slow_entered at op.Read argument kind = slow_first frames s at op.Read
  slow_entered at (op.Acts o) argument kind = slow_first frames s at (op.Acts o)
  slow_entered at op.Field argument kind = slow_first frames s at op.Field
  slow_entered at op.Unknown argument kind = slow_first frames s at op.Unknown

module _ (structs : List ℕ) (T : Terms) (ws frames bound : List ℕ) (s : State) (v : CodedValue) where
  slow_resumed : (d : Option CodedValue) (n : Node) (inside : Bool) → Slow s.steps (resumed_by d structs T ws frames bound s v n inside).turn
  unfolding after_first after_second second_part settled
  slow_resumed None n inside =
      parts_case (λ (m : Stacked). Slow s.steps m.turn) n.operation _ _ _
      (slow_binding T.limit frames bound (at_height s s.height inside) v n.second)
      (λ a. omega arith)
      (slow_contracted T.limit (popped (at_height s s.height inside)) (one_yield structs T.words ws v n.operation n.argument n.kind))
  slow_resumed (Some d) n inside =
      parts_case (λ (m : Leaving). Slow s.steps m.turn) n.operation _ _ _
      (omega arith)
      (λ a. slow_contracted T.limit (at_height s (s.height - 1) inside) (act_gives Whole T.words ws a v.value v.code d.value d.code).yield)
      (omega arith)

module _ (nodes structs types : List ℕ) (T : Terms) (ws frames bound : List ℕ) (s : State) where
  slow_handing : (v : CodedValue) → Slow s.steps (handing nodes structs T ws frames bound s v).turn
  unfolding handing
  slow_handing v =
      let f = frame_at frames (s.height - 1) in
      let r = slow_resumed structs T ws frames bound s v f.first (node_at nodes f.node) f.inside in
      grind (arith, common_steps)

  slow_focus : (f : Focus)
      → Slow s.steps (by_focus f (entering nodes structs types T ws frames bound s) (handing nodes structs T ws frames bound s)).turn
  slow_focus (focus.Node at) = let n = node_at nodes at in slow_entered structs types T ws frames bound s at n.operation n.argument n.kind
  slow_focus (focus.Value v) = slow_handing v

-- where a transition goes on, it counted at most one step
pub counts_one : (nodes structs types : List ℕ) (T : Terms) (ws frames bound : List ℕ) (s s' : State)
    → (transition nodes structs types T ws frames bound s).turn ≡ goes s' → s'.steps ≤ s.steps + 1
unfolding transition
counts_one nodes structs types T ws frames bound s s' e = rw e at (slow_focus nodes structs types T ws frames bound s s.focus)
