-- What a row's redex does in a state: it is settled as the definition's redex says, over the heap in lent numbers.
use Rattle.std.proofs.Common.{◌≡◌, ℕ, ◌<◌, ◌≤◌, Bool, true, false, eqb, List, length, refl, le-leb, Option, Some, None}
use borrow.Author.Tests.{lt-leb}
use Rattle.choice.specs.Choice.{choose}
use Rattle.cells.specs.Code.{packed, Small}
use Rattle.cells.specs.Heap.{Heap, SmallHeap, look, undefined}
use Rattle.cells.specs.Free.{lowest_in}
use Rattle.cells.specs.Lent.{lent}
use Rattle.cells.specs.declared.Kind.{Kind}
use Rattle.cells.specs.declared.Cell.{Cell}
use Rattle.cells.proofs.Free.{lowest}
use Rattle.calculus.specs.Setting.{Setting, cell, size}
use Rattle.calculus.specs.Steps.{Redex, blocked, halts, gives, malloc_redex, taken_from, zeroed}
use Rattle.calculus.specs.declared.Halt.{Halt}
use Rattle.tables.proofs.Held.{size_kind}
use Rattle.yields.specs.declared.Hint.{Hint}
use Rattle.stepper.specs.declared.StepState.{StepState}
use Rattle.yields.specs.declared.Terms.{Terms}
use Rattle.stepper.specs.declared.StepTurn.TheVariants.{Steps}
use Rattle.yields.specs.declared.Yield.{Yield}
use Rattle.yields.specs.declared.Yield.TheVariants.{Gives}
use Rattle.yields.specs.Malloc.{room_hint}
use Rattle.yields.specs.Yields.{given_on}
use Rattle.stepper.specs.States.{Changed, changed, topped, hinted, counting, ends_more, ends_stuck, ends_halt, settled_by, settled_on}
use Rattle.stepper.specs.Malloc.{room_takes, room_by, room_sized, room_gives}
use Rattle.stepper.proofs.Settled.{settled_alike, halt_alike}
use Rattle.yields.proofs.GivesAs.{HeapNext, GivesAs, as_blocked, as_halts, as_gives, OnTerms}
use Rattle.yields.proofs.Zeroed.{HintHolds, hint_after, found_as, taken_as, hint_as}

module _ {S : Setting} {T : Terms} {ws structs types : List ℕ} (L : OnTerms S T ws structs types) (H : Heap) where
  -- a value comes on top, a step later, unless the limit forbids it
  pub data Does (s : StepState) : Changed → Redex → Type 0 where
    does_blocked : Does s (changed (ends_stuck s) (lent H ws)) blocked
    does_halts : {h : Halt} → Does s (changed (ends_halt T.limit s h) (lent H ws)) (halts h)
    does_gives : {m : Changed} {H' : Heap} {c : Cell} {r : Hint} → (T.limit ≤ s.steps → m ≡ changed (ends_more s) (lent H ws))
        → (s.steps < T.limit
        → m ≡ changed (Steps (counting (hinted (topped s c.value (packed c.kind)) r.size r.from))) (lent H' ws))
        → HeapNext H H' → HintHolds H' T.low r → Small c.kind → Does s m (gives H' c.value c.kind)

  pub settled_does : {y : Yield} {ws' : List ℕ} {d : Redex} (s : StepState) → HintHolds H T.low s.hint → GivesAs H ws ws' y d
      → Does s (settled_on T.limit s (lent H ws) (given_on y ws')) d
  unfolding settled_on
  settled_does s k (as_blocked e) = does_blocked
  settled_does {ws' = ws'} s k (as_halts {h} e) = rw (halt_alike T.limit s h (lent H ws) ws') (does_halts {h = h})
  settled_does {ws' = ws'} s k (as_gives {c} {H'} e n sm) =
      does_gives
      {m = settled_on T.limit s (lent H ws) (given_on (Gives c.value (packed c.kind)) ws')}
      {H' = H'}
      {c = c}
      {r = s.hint}
      (λ l. rw (le-leb T.limit s.steps l))
      (λ l. rw (lt-leb T.limit s.steps l, e))
      n
      (hint_after n k)
      sm

  -- a node with one part leaves the heap as it is
  pub one_does : {y : Yield} {d : Redex} (s : StepState) → HintHolds H T.low s.hint → GivesAs H ws (lent H ws) y d
      → Does s (changed (settled_by T.limit s y) (lent H ws)) d
  one_does {y} s k m = rw (settled_alike T.limit s y (lent H ws)) (settled_does s k m)

  module _ (hs : SmallHeap H) (hl : length H ≡ T.words) where
    pub malloc_does : (s : StepState) (κ : Kind) → HintHolds H T.low s.hint → Small κ
        → Does s (room_gives structs types T (lent H ws) s (packed κ)) (malloc_redex S H κ)
    unfolding room_sized room_takes malloc_redex
    malloc_does s κ k sm =
        rw (size_kind L.setting sm, found_as L H s.hint (size S κ) hs hl k)
        (go (eqb (size S κ) 0) (lowest_in (λ a. undefined (look H a)) (size S κ) S.low S.high) refl)
      where
        go : (b : Bool) (run : Option ℕ) → lowest_in (λ a. undefined (look H a)) (size S κ) S.low S.high ≡ run
            → Does s
            (choose b (λ _. changed (ends_stuck s) (lent H ws))
            (λ _. room_by run structs types T.limit (lent H ws) s (packed κ) (size S κ)))
            (choose b (λ _. blocked) (λ _. taken_from S H κ run))
        go true run e = does_blocked
        go false None e = does_halts
        go false (Some a) e =
            let l = lowest _ (size S κ) S.high S.low a e in
            let z = taken_as L sm hs hl l in
            does_gives
            {m = room_takes structs types T.limit (lent H ws) s (packed κ) (size S κ) a}
            {H' = zeroed S κ (size S κ) a 0 H}
            {c = cell a κ}
            {r = room_hint (size S κ) a}
            (λ h. rw (le-leb T.limit s.steps h))
            (λ h. rw (lt-leb T.limit s.steps h, z.held))
            z.next
            (hint_as L l z)
            sm
