-- The run over the lent numbers: transitions are made until one ends it.
use Rattle.std.specs.Prelude.{ℕ, zero, suc, false, List, length}
use Rattle.calculus.specs.Run.{outcome_of}
use Rattle.calculus.specs.declared.End.TheVariants.{Stuck}
use Rattle.calculus.specs.declared.Outcome.{Outcome}
use Rattle.machine.specs.declared.CodedValue.{CodedValue}
use Rattle.machine.specs.declared.Focus.{Focus}
use Rattle.machine.specs.declared.Focus.TheVariants.{Node, Value}
use Rattle.machine.specs.declared.State.{State}
use Rattle.yields.specs.declared.Terms.{Terms}
use Rattle.machine.specs.States.{turned, Moved, state}
use Rattle.yields.specs.Malloc.{start_hint}
use Rattle.machine.specs.Nodes.{entering}
use Rattle.machine.specs.Values.{handing}

-- what a run answers, and the lent memory that it leaves
pub record Finished : Type 0 where
  pub outcome : Outcome
  pub heap : List ℕ
  pub frames : List ℕ
  pub bound : List ℕ

abbrev pub finished : Outcome → (heap frames bound : List ℕ) → Finished
finished o ws frames bound = record { outcome = o; heap = ws; frames = frames; bound = bound }

-- a transition, and then the rest
abbrev pub after : Moved → (State → (ws frames bound : List ℕ) → Finished) → Finished
after m go = turned m.turn (λ s. go s m.heap m.frames m.bound) (λ o. finished o m.heap m.frames m.bound)

-- what is in focus, a node or a value
abbrev pub by_focus : {A : Type 0} → Focus → (ℕ → A) → (CodedValue → A) → A
by_focus (Node at) node value = node at
by_focus (Value v) node value = value v

-- where a run starts: at node 0, and malloc at the lowest address
abbrev pub first_state : Terms → State
first_state T = state (Node 0) 0 0 false 0 0 (start_hint T)

module _ (nodes structs types : List ℕ) (T : Terms) where
  -- one transition: a node is in focus, or a value
  unfoldable pub transition : (ws frames bound : List ℕ) → State → Moved
  transition ws frames bound s = by_focus s.focus (entering nodes structs types T ws frames bound s) (handing nodes structs T ws frames bound s)

  -- at most so many transitions
  unfoldable pub drive : (ticks : ℕ) → State → (ws frames bound : List ℕ) → Finished
  drive zero s ws frames bound = finished (outcome_of Stuck s.steps s.first) ws frames bound
  drive (suc n) s ws frames bound = after (transition ws frames bound s) (drive n)

  -- a node is entered once, and each of its parts hands back one value: four numbers of the table are one node's, and enough
  unfoldable pub driven : (ws frames bound : List ℕ) → Finished
  driven ws frames bound = drive (length nodes) (first_state T) ws frames bound
