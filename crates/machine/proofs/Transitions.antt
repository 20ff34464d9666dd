-- The next transition of a machine that holds an expression: it leaves the expression as it is, or it is the expression's next step.
use Rattle.std.proofs.Common.{◌≡◌, ℕ, suc, ◌+◌, ◌-◌, ◌*◌, ◌/◌, ◌<◌, ◌≤◌, Bool, true, false, eqb, List, ◌∷◌, length, get_or, refl, ap, ◌∙◌, add-one, arith, ne_eqb, le-leb, Option, Some, None}
use borrow.Author.Tests.{lt-leb}
use Rattle.choice.specs.Choice.{choose}
use Rattle.cells.specs.Code.{packed, Small}
use Rattle.cells.specs.Heap.{Heap, SmallHeap, look, undefined}
use Rattle.cells.specs.Free.{lowest_in}
use Rattle.cells.specs.Lent.{lent, put_word}
use Rattle.cells.specs.declared.Mode.{Mode}
use Rattle.cells.specs.declared.Mode.TheVariants.{Checked}
use Rattle.cells.specs.declared.Kind.{Kind}
use Rattle.cells.specs.declared.Kind.TheVariants.{Int}
use Rattle.cells.specs.declared.Cell.{Cell}
use Rattle.cells.proofs.Codes.{round_trip, packed_not_zero}
use Rattle.cells.proofs.View.{length_put}
use Rattle.cells.proofs.Free.{lowest}
use Rattle.calculus.specs.Setting.{Setting, cell, size}
use Rattle.calculus.specs.Expr.{Expr, lit, malloc, bind, one, two, One, unchecked, cast, read, field, act, pointer, inside}
use Rattle.calculus.specs.Steps.{Redex, stuck, halt, next, blocked, halts, gives, malloc_redex, taken_from, zeroed, step, redex_step}
use Rattle.calculus.specs.Run.{outcome_of}
use Rattle.calculus.specs.declared.Act.{Act}
use Rattle.calculus.specs.declared.End.TheVariants as ends
use Rattle.calculus.specs.declared.Halt.{Halt}
use Rattle.calculus.specs.declared.Operation.{Operation}
use Rattle.calculus.specs.declared.Operation.TheVariants as op
use Rattle.image.specs.Tabled.{Row, Spans, s_lit, s_var, s_malloc, s_bind, s_one, s_two, one_operation, one_argument, one_kind}
use Rattle.image.specs.Shape.{Scoped, scoped_var, scoped_bind, scoped_one, scoped_two, SmallExpr, small_lit, small_malloc, small_bind, small_two, height}
use Rattle.yields.specs.declared.ArrayCounts.TheVariants.{Whole}
use Rattle.yields.specs.declared.Hint.{Hint}
use Rattle.yields.specs.declared.Terms.{Terms}
use Rattle.yields.specs.declared.Yield.{Yield}
use Rattle.yields.specs.declared.Yield.TheVariants.{Gives}
use Rattle.yields.specs.Malloc.{room_hint}
use Rattle.yields.specs.Yields.{given_on, act_gives}
use Rattle.yields.proofs.GivesAs.{HeapNext, GivesAs, as_blocked, as_halts, as_gives, OnTerms, act_as}
use Rattle.yields.proofs.Zeroed.{HintHolds, hint_after, found_as, taken_as, hint_as}
use Rattle.machine.specs.declared.CodedValue.{CodedValue}
use Rattle.machine.specs.declared.Focus.{Focus}
use Rattle.machine.specs.declared.Focus.TheVariants as focus
use Rattle.machine.specs.declared.State.{State}
use Rattle.machine.specs.States.{Leaving, Moved, leaving, moved, on_heap, coded_value, state, first_of, stepped, focused, with_hint, more, contracted, settled}
use Rattle.machine.specs.States as states
use Rattle.machine.specs.Rows.{node, frame_row, frame_at, framed, kept}
use Rattle.machine.specs.Redexes.{one_yield}
use Rattle.machine.specs.Malloc.{room_taken, room_found, room_for, room_at}
use Rattle.machine.specs.Nodes.{inside_of, variable_at, first_part, entered}
use Rattle.machine.specs.Values.{second_part, binding, after_first, after_second, resumed_by, handing}
use Rattle.machine.specs.Turns.{transition}
use Rattle.machine.proofs.Memory.{written_same, settled_same, node_whole, framed_below, kept_below}
use Rattle.machine.proofs.Memory.{frame_put, frame_kept, word_same, length_framed, length_kept}
use Rattle.calculus.proofs.Contexts.{Hole, plugs, under, context, busy_stuck, busy_halt, busy_next}
use Rattle.machine.proofs.Fill.{fill, fill_more, fill_bound}
use Rattle.machine.proofs.Stack.{small_node, small_part, ticks, mode_inside, held, Waits, Stack, bottom, on_one, on_bound, on_left}
use Rattle.machine.proofs.Stack.{on_right, on_body, Env, one_let, stack_kept, env_kept, lets_few, env_at, env_small}
use Rattle.machine.proofs.Codes.{size_same}
use Rattle.machine.proofs.Ready.{node_as}

-- SimNodes table R focus height lets inside frames bound e left: a machine in such a state holds the expression e, with at most `left`
-- transitions to a value. There is room for R frames.
pub data SimNodes (table : List ℕ) (R : ℕ) : Focus → (height lets : ℕ) (inside : Bool) → (frames bound : List ℕ) → Expr → (left : ℕ) → Type 0 where
  at_node : {h l i : ℕ} {ρ : List Cell} {K : List Hole} {e : Expr} {frames bound : List ℕ}
      → Stack table R frames h ρ K l → Env bound ρ → Waits table R i (length ρ) h e
      → SimNodes table R (focus.Node i) h (length ρ) (mode_inside (under K)) frames bound (plugs K (fill 0 ρ e)) (l + ticks e)
  at_value : {h l : ℕ} {x : Bool} {ρ : List Cell} {K : List Hole} {c : Cell} {frames bound : List ℕ}
      → Stack table R frames h ρ K l → Env bound ρ → Small c.kind
      → SimNodes table R (focus.Value (held c)) h (length ρ) x frames bound (plugs K (lit c.value c.kind)) l

-- a kind's code is that of a value
code_told : (κ : Kind) → eqb (packed κ) 0 ≡ false
code_told κ = ne_eqb (packed κ) 0 (packed_not_zero κ)

less : (n : ℕ) → suc n - 1 ≡ n
less n = omega arith

module _ {S : Setting} {T : Terms} {ws structs types : List ℕ} (L : OnTerms S T ws structs types) (table : List ℕ) (R : ℕ) where
  -- What a transition r after so many steps is to the expression e over the heap H: the end, nothing, no rule, a halt or a step.
  pub data Goes (H : Heap) (frames bound : List ℕ) (steps first : ℕ) (ht : Hint) (r : Moved) (e : Expr) (left : ℕ) : Type 0 where
    is_done : {c : Cell} → r ≡ moved (states.over (outcome_of (ends.Value c) steps first)) (lent H ws) frames bound → e ≡ lit c.value c.kind
        → Goes H frames bound steps first ht r e left
    is_quiet : {f : Focus} {h lets : ℕ} {x : Bool} {left' : ℕ} {frames' : List ℕ}
        → r ≡ moved (states.goes (state f h lets x steps first ht)) (lent H ws) frames' bound
        → length frames' ≡ length frames → SimNodes table R f h lets x frames' bound e left' → left' < left
        → Goes H frames bound steps first ht r e left
    is_stuck : {m : Mode} → r ≡ moved (states.stuck (state (focus.Node 0) 0 0 (mode_inside m) steps first ht)) (lent H ws) frames bound
        → step S Checked H e ≡ stuck m → Goes H frames bound steps first ht r e left
    is_halt : {h : Halt} {m : Mode} → r ≡ moved (states.halt T.limit (state (focus.Node 0) 0 0 (mode_inside m) steps first ht) h) (lent H ws) frames bound
        → step S Checked H e ≡ halt h m → Goes H frames bound steps first ht r e left
    is_step : {f : Focus} {h lets : ℕ} {x : Bool} {left' : ℕ} {m : Mode} {H' : Heap} {e' : Expr} {frames' bound' : List ℕ} {ht' : Hint}
        → (T.limit ≤ steps → r ≡ moved (states.over (outcome_of ends.More steps first)) (lent H ws) frames bound)
        → (steps < T.limit → r ≡ moved (states.goes (state f h lets x (steps + 1) (first_of steps first (mode_inside m)) ht')) (lent H' ws) frames' bound')
        → step S Checked H e ≡ next H' e' m → SmallHeap H' → length H' ≡ length H → HintHolds H' T.low ht'
        → length frames' ≡ length frames → length bound' ≡ length bound → SimNodes table R f h lets x frames' bound' e' left' → left' < left
        → Goes H frames bound steps first ht r e left

  module _ (H : Heap) (hs : SmallHeap H) (hl : length H ≡ T.words) where
    -- ---- what a redex does in a state
    data Does (s : State) : Leaving → Redex → Type 0 where
      d_blocked : Does s (leaving (states.stuck s) (lent H ws)) blocked
      d_halts : {h : Halt} → Does s (leaving (states.halt T.limit s h) (lent H ws)) (halts h)
      d_gives : {m : Leaving} {H' : Heap} {c : Cell} {r : Hint} → (T.limit ≤ s.steps → m ≡ leaving (more s) (lent H ws))
          → (s.steps < T.limit
          → m ≡ leaving (states.goes (stepped (with_hint (focused s (focus.Value (held c))) r.size r.from))) (lent H' ws))
          → HeapNext H H' → HintHolds H' T.low r → Small c.kind → Does s m (gives H' c.value c.kind)

    settled_does : {y : Yield} {ws' : List ℕ} {d : Redex} (s : State) → HintHolds H T.low s.hint → GivesAs H ws ws' y d
        → Does s (settled T.limit s (lent H ws) (given_on y ws')) d
    unfolding settled
    settled_does s k (as_blocked e) = d_blocked
    settled_does s k (as_halts {h} e) = rw (e, ← written_same (states.halt T.limit s h) (lent H ws)) (d_halts {h = h})
    settled_does {ws' = ws'} s k (as_gives {c} {H'} e n sm) =
        d_gives
        {m = settled T.limit s (lent H ws) (given_on (Gives c.value (packed c.kind)) ws')}
        {H' = H'}
        {c = c}
        {r = s.hint}
        (λ l. rw (le-leb T.limit s.steps l))
        (λ l. rw (lt-leb T.limit s.steps l, code_told c.kind, e))
        n
        (hint_after n k)
        sm

    -- a node with one part leaves the heap as it is
    contracted_does : {y : Yield} {d : Redex} (s : State) → HintHolds H T.low s.hint → GivesAs H ws (lent H ws) y d
        → Does s (leaving (contracted T.limit s y) (lent H ws)) d
    contracted_does {y} s k m = rw (settled_same T.limit s y (lent H ws)) (settled_does s k m)

    malloc_does : (s : State) (κ : Kind) → HintHolds H T.low s.hint → Small κ
        → Does s (room_at structs types T (lent H ws) s (packed κ)) (malloc_redex S H κ)
    unfolding room_for room_taken malloc_redex
    malloc_does s κ k sm =
        rw (size_same L.setting κ sm, found_as L H s.hint (size S κ) hs hl k)
        (go (eqb (size S κ) 0) (lowest_in (λ a. undefined (look H a)) (size S κ) S.low S.high) refl)
      where
        go : (b : Bool) (run : Option ℕ) → lowest_in (λ a. undefined (look H a)) (size S κ) S.low S.high ≡ run
            → Does s
            (choose b (λ _. leaving (states.stuck s) (lent H ws))
            (λ _. room_found run structs types T.limit (lent H ws) s (packed κ) (size S κ)))
            (choose b (λ _. blocked) (λ _. taken_from S H κ run))
        go true run e = d_blocked
        go false None e = d_halts
        go false (Some a) e =
            let l = lowest _ (size S κ) S.high S.low a e in
            let z = taken_as L sm hs hl l in
            d_gives
            {m = room_taken structs types T.limit (lent H ws) s (packed κ) (size S κ) a}
            {H' = zeroed S κ (size S κ) a 0 H}
            {c = cell a κ}
            {r = room_hint (size S κ) a}
            (λ h. rw (le-leb T.limit s.steps h))
            (λ h. rw (lt-leb T.limit s.steps h, code_told κ, z.held))
            z.next
            (hint_as L l z)
            sm

  module _ (N : ℕ) (whole : length table ≡ 4 * N) (H : Heap) (hs : SmallHeap H) (hl : length H ≡ T.words)
      (frames bound : List ℕ) (steps first : ℕ) (ht : Hint) (hr : HintHolds H T.low ht) where
    -- ---- a redex contracts
    contracts : (f : Focus) {h l left : ℕ} {ρ : List Cell} {K : List Hole} {m : Leaving} {d : Redex} {r : Moved} (e : Expr)
        → Stack table R frames h ρ K l → Env bound ρ → step S (under K) H e ≡ redex_step (under K) d
        → Does H hs hl (state f h (length ρ) (mode_inside (under K)) steps first ht) m d → r ≡ on_heap frames bound m → l < left
        → Goes H frames bound steps first ht r (plugs K e) left
    contracts f {K = K} e s v q d_blocked w l = is_stuck {m = under K} w (context S H K e q busy_stuck)
    contracts f {K = K} e s v q (d_halts {h}) w l = is_halt {h = h} {m = under K} w (context S H K e q busy_halt)
    contracts f {h} {ρ = ρ} {K = K} e s v q (d_gives {c = c} {r = ht'} q₀ q₁ n k sm) w l =
        is_step
        {f = focus.Value (held c)}
        {h = h}
        {lets = length ρ}
        {x = mode_inside (under K)}
        {m = under K}
        {ht' = ht'}
        (λ f. w ∙ ap (on_heap frames bound) (q₀ f))
        (λ f. w ∙ ap (on_heap frames bound) (q₁ f))
        (context S H K e q busy_next)
        n.small
        n.long
        k
        refl
        refl
        (at_value s v sm)
        l

    -- ---- a value is handed back
    look_value : {i argument kind second : ℕ} {o : Operation} {m : Bool} {d : Option CodedValue} (h lets : ℕ) (x : Bool) (v : CodedValue)
        → frame_at frames h ≡ frame_row i m d → Row table i o argument kind second
        → transition table structs types T (lent H ws) frames bound (state (focus.Value v) (suc h) lets x steps first ht)
        ≡ resumed_by d structs T (lent H ws) frames bound (state (focus.Value v) (suc h) lets x steps first ht) v (node o argument kind second) m
    unfolding transition handing
    look_value h lets x v e r = rw (ne_eqb (suc h) 0 (omega arith), less h, e, node_whole N whole r)

    -- the node in the frame goes on, by what it does
    module _ (h lets : ℕ) (x m : Bool) (v : CodedValue) where
      after_one : (o : One)
          → resumed_by None structs T (lent H ws) frames bound (state (focus.Value v) (suc h) lets x steps first ht) v
          (node (one_operation o) (one_argument o) (one_kind o) 0) m
          ≡ moved (contracted T.limit (state (focus.Value v) h lets m steps first ht)
          (one_yield structs T.words (lent H ws) v (one_operation o) (one_argument o) (one_kind o)))
          (lent H ws) frames bound
      unfolding after_first
      after_one unchecked = rw (less h)
      after_one (cast κ) = rw (less h)
      after_one read = rw (less h)
      after_one (field f) = rw (less h)

      after_act : (j : ℕ) (o : Act) (d : CodedValue)
          → resumed_by (Some d) structs T (lent H ws) frames bound (state (focus.Value v) (suc h) lets x steps first ht) v (node (op.Acts o) 0 0 j) m
          ≡ on_heap frames bound (settled T.limit (state (focus.Value v) h lets m steps first ht) (lent H ws)
          (act_gives Whole T.words (lent H ws) o v.value v.code d.value d.code))
      unfolding after_second
      after_act j o d = rw (less h)

      after_left : (j : ℕ) (o : Act)
          → resumed_by None structs T (lent H ws) frames bound (state (focus.Value v) (suc h) lets x steps first ht) v (node (op.Acts o) 0 0 j) m
          ≡ moved (states.goes (state (focus.Node j) (suc h) lets m steps first ht)) (lent H ws) (kept frames h v) bound
      unfolding after_first second_part
      after_left j o = rw (less h)

      after_bound : (j : ℕ) → lets < length bound / 2 → steps < T.limit
          → resumed_by None structs T (lent H ws) frames bound (state (focus.Value v) (suc h) lets x steps first ht) v (node op.Let 0 0 j) m
          ≡ moved (states.goes (state (focus.Node j) (suc h) (suc lets) m (steps + 1) (first_of steps first m) ht)) (lent H ws) (kept frames h v)
          (put_word bound (suc lets) v.value v.code)
      unfolding after_first binding second_part
      after_bound j l f = rw (lt-leb (length bound / 2) lets l, lt-leb T.limit steps f, less h, add-one lets)

      after_bound_more : (j : ℕ) → lets < length bound / 2 → T.limit ≤ steps
          → resumed_by None structs T (lent H ws) frames bound (state (focus.Value v) (suc h) lets x steps first ht) v (node op.Let 0 0 j) m
          ≡ moved (states.over (outcome_of ends.More steps first)) (lent H ws) frames bound
      unfolding after_first binding
      after_bound_more j l f = rw (lt-leb (length bound / 2) lets l, le-leb T.limit steps f)

      after_body : (j : ℕ) (d : CodedValue)
          → resumed_by (Some d) structs T (lent H ws) frames bound (state (focus.Value v) (suc h) (suc lets) x steps first ht) v (node op.Let 0 0 j) m
          ≡ moved (states.goes (state (focus.Value v) h lets m steps first ht)) (lent H ws) frames bound
      unfolding after_second
      after_body j d = rw (less h, less lets)

    module _ (frames_room : 4 * R ≤ length frames) (bound_room : 2 * R ≤ length bound) where
      handed : {h l : ℕ} {ρ : List Cell} {K : List Hole} (x : Bool) (c : Cell) → Stack table R frames h ρ K l → Env bound ρ → Small c.kind
          → Goes H frames bound steps first ht
          (transition table structs types T (lent H ws) frames bound (state (focus.Value (held c)) h (length ρ) x steps first ht))
          (plugs K (lit c.value c.kind))
          l
      unfolding transition handing step
      handed x c bottom v k =
          is_done {c = c} (rw (round_trip k)) refl
      handed {ρ = ρ} x c (on_one {h} {K = K} {o = o} s e r so) v k =
          contracts
          (focus.Value (held c))
          (one o (lit c.value c.kind))
          s
          v
          refl
          (contracted_does H hs hl _ hr (node_as L H hs hl o c so k))
          (look_value h (length ρ) x (held c) e r ∙ after_one h (length ρ) x (mode_inside (under K)) (held c) o)
          (omega arith)
      handed {ρ = ρ} x c (on_bound {h} {l} {j = j} {K = K} {b = b} s e r w) v k =
          let few = lets_few s in
          let m : Bool = mode_inside (under K) in
          let room = w.room in
          is_step
          {f = focus.Node j}
          {h = suc h}
          {lets = suc (length ρ)}
          {x = m}
          {left' = l + 1 + ticks b}
          {m = under K}
          {frames' = kept frames h (held c)}
          {bound' = put_word bound (suc (length ρ)) c.value (packed c.kind)}
          {ht' = ht}
          (λ f. look_value h (length ρ) x (held c) e r ∙ after_bound_more h (length ρ) x m (held c) j (omega arith) f)
          (λ f. look_value h (length ρ) x (held c) e r ∙ after_bound h (length ρ) x m (held c) j (omega arith) f)
          (context S H K (bind (lit c.value c.kind) (fill 1 ρ b)) refl busy_next)
          hs
          refl
          hr
          (length_kept frames h (held c))
          (length_put bound (suc (length ρ)) c.value (packed c.kind))
          (rw (fill_more 0 c ρ b)
          (at_node
          {ρ = c ∷ ρ}
          (on_body (stack_kept (kept_below frames h (held c)) (omega arith) s)
          (frame_kept frames h (held c) (omega arith) (packed_not_zero c.kind) e) r)
          (one_let
          (env_kept (length ρ) c.value (packed c.kind) (omega arith) (omega arith) v)
          (word_same bound (length ρ) c.value (packed c.kind) (omega arith))
          k)
          w))
          (omega arith)
      handed {ρ = ρ} x c (on_left {h} {j = j} {K = K} {o = o} s e r w) v k =
          let m : Bool = mode_inside (under K) in
          let room = w.room in
          is_quiet
          {f = focus.Node j}
          {h = suc h}
          {lets = length ρ}
          {x = m}
          {frames' = kept frames h (held c)}
          (look_value h (length ρ) x (held c) e r ∙ after_left h (length ρ) x m (held c) j o)
          (length_kept frames h (held c))
          (at_node
          (on_right (stack_kept (kept_below frames h (held c)) (omega arith) s)
          (frame_kept frames h (held c) (omega arith) (packed_not_zero c.kind) e) r k)
          v
          w)
          (omega arith)
      handed {ρ = ρ} x c (on_right {h} {j = j} {K = K} {o = o} {c = d} s e r kd) v k =
          contracts
          (focus.Value (held c))
          (two (act o) (lit d.value d.kind) (lit c.value c.kind))
          s
          v
          refl
          (settled_does H hs hl _ hr (act_as L H hs hl Whole o d c kd k))
          (look_value h (length ρ) x (held c) e r ∙ after_act h (length ρ) x (mode_inside (under K)) (held c) j o (held d))
          (omega arith)
      handed x c (on_body {h} {j = j} {ρ = ρ} {K = K} {c = d} s e r) (one_let v b kd) k =
          is_quiet
          {f = focus.Value (held c)}
          {h = h}
          {lets = length ρ}
          {x = mode_inside (under K)}
          {frames' = frames}
          (look_value h (suc (length ρ)) x (held c) e r ∙ after_body h (length ρ) x (mode_inside (under K)) (held c) j (held d))
          refl
          (at_value s v k)
          (omega arith)

      -- ---- a node is entered
      look_node : {i argument kind second : ℕ} {o : Operation} (h lets : ℕ) (x : Bool) → Row table i o argument kind second
          → transition table structs types T (lent H ws) frames bound (state (focus.Node i) h lets x steps first ht)
          ≡ entered structs types T (lent H ws) frames bound (state (focus.Node i) h lets x steps first ht) i o argument kind
      unfolding transition
      look_node h lets x r = rw (node_whole N whole r)

      first_part_lem : (h lets : ℕ) (x : Bool) (i : ℕ) (o : Operation) → h < R
          → first_part frames (state (focus.Node i) h lets x steps first ht) i o
          ≡ leaving (states.goes (state (focus.Node (suc i)) (suc h) lets (inside_of o x) steps first ht)) (framed frames h i x)
      unfolding first_part
      first_part_lem h lets x i o l = rw (lt-leb (length frames / 4) h (omega arith), add-one i, add-one h)

      enter_bound : (h lets : ℕ) (x : Bool) (i : ℕ) → h < R
          → entered structs types T (lent H ws) frames bound (state (focus.Node i) h lets x steps first ht) i op.Let 0 0
          ≡ moved (states.goes (state (focus.Node (suc i)) (suc h) lets x steps first ht)) (lent H ws) (framed frames h i x) bound
      unfolding entered
      enter_bound h lets x i l = rw (first_part_lem h lets x i op.Let l)

      enter_one : (h lets i : ℕ) (o : One) (m : Mode) → h < R
          → entered structs types T (lent H ws) frames bound (state (focus.Node i) h lets (mode_inside m) steps first ht) i
          (one_operation o) (one_argument o) (one_kind o)
          ≡ moved (states.goes (state (focus.Node (suc i)) (suc h) lets (mode_inside (inside o m)) steps first ht)) (lent H ws)
          (framed frames h i (mode_inside m)) bound
      unfolding entered
      enter_one h lets i unchecked m l = rw (first_part_lem h lets (mode_inside m) i op.Unchecked l)
      enter_one h lets i (cast κ) m l = rw (first_part_lem h lets (mode_inside m) i op.Cast l)
      enter_one h lets i read m l = rw (first_part_lem h lets (mode_inside m) i op.Read l)
      enter_one h lets i (field f) m l = rw (first_part_lem h lets (mode_inside m) i op.Field l)

      enter_act : (h lets i : ℕ) (o : Act) (x : Bool) → h < R
          → entered structs types T (lent H ws) frames bound (state (focus.Node i) h lets x steps first ht) i (op.Acts o) 0 0
          ≡ moved (states.goes (state (focus.Node (suc i)) (suc h) lets x steps first ht)) (lent H ws) (framed frames h i x) bound
      unfolding entered
      enter_act h lets i o x l = rw (first_part_lem h lets x i (op.Acts o) l)

      entering : {h l i : ℕ} {ρ : List Cell} {K : List Hole} {e : Expr} → Stack table R frames h ρ K l → Env bound ρ
          → Spans table i e → Scoped (length ρ) e → SmallExpr e → h + height e ≤ R
          → Goes H frames bound steps first ht
          (transition table structs types T (lent H ws) frames bound (state (focus.Node i) h (length ρ) (mode_inside (under K)) steps first ht))
          (plugs K (fill 0 ρ e))
          (l + ticks e)
      unfolding entered variable_at fill ticks height step
      entering {h} {ρ = ρ} {K = K} s v (s_lit {n = n} {κ = κ} r) sc (small_lit k) room =
          is_quiet
          {f = focus.Value (coded_value n (packed κ))}
          {h = h}
          {lets = length ρ}
          {x = mode_inside (under K)}
          {frames' = frames}
          (look_node h (length ρ) (mode_inside (under K)) r ∙ rw (code_told κ))
          refl
          (at_value {c = cell n κ} s v k)
          (omega arith)
      entering {h} {l} {ρ = ρ} {K = K} s v (s_var {k = k} r) (scoped_var b) sm room =
          let a = env_at k v b in
          rw (fill_bound k ρ b)
          (is_quiet
          {f = focus.Value (held (get_or ρ k (cell 0 Int)))}
          {h = h}
          {lets = length ρ}
          {x = mode_inside (under K)}
          {left' = l}
          {frames' = frames}
          (look_node h (length ρ) (mode_inside (under K)) r ∙ rw (lt-leb (length ρ) k b, a.value_is, a.code_is, code_told (get_or ρ k (cell 0 Int)).kind))
          refl
          (at_value {c = get_or ρ k (cell 0 Int)} s v (env_small k v b))
          (omega arith))
      entering {h} {i = i} {ρ = ρ} {K = K} s v (s_malloc {ω = ω} r) sc (small_malloc k) room =
          contracts
          (focus.Node i)
          (malloc ω)
          s
          v
          refl
          (malloc_does H hs hl (state (focus.Node i) h (length ρ) (mode_inside (under K)) steps first ht) (pointer Checked ω) hr k)
          (look_node h (length ρ) (mode_inside (under K)) r)
          (omega arith)
      entering {h} {i = i} {ρ = ρ} {K = K} s v (s_bind {a = a} {b = b} r sa sb) (scoped_bind ca cb) (small_bind ka kb) room =
          let m : Bool = mode_inside (under K) in
          is_quiet
          {f = focus.Node (suc i)}
          {h = suc h}
          {lets = length ρ}
          {x = m}
          {frames' = framed frames h i m}
          (look_node h (length ρ) m r ∙ enter_bound h (length ρ) m i (omega arith))
          (length_framed frames h i m)
          (at_node
          (on_bound
          {b = b}
          (stack_kept (framed_below frames h i m) (omega arith) s)
          (frame_put frames h i m (omega arith))
          r
          (record { spans = sb; scoped = cb; small = kb; room = omega arith }))
          v
          (record { spans = sa; scoped = ca; small = ka; room = omega arith }))
          (omega arith)
      entering {h} {i = i} {ρ = ρ} {K = K} s v (s_one {o = o} {e = e} r sa) (scoped_one ca) sm room =
          let m : Bool = mode_inside (under K) in
          is_quiet
          {f = focus.Node (suc i)}
          {h = suc h}
          {lets = length ρ}
          {x = mode_inside (inside o (under K))}
          {frames' = framed frames h i m}
          (look_node h (length ρ) m r ∙ enter_one h (length ρ) i o (under K) (omega arith))
          (length_framed frames h i m)
          (at_node
          (on_one {o = o} (stack_kept (framed_below frames h i m) (omega arith) s) (frame_put frames h i m (omega arith)) r (small_node sm))
          v
          (record { spans = sa; scoped = ca; small = small_part sm; room = omega arith }))
          (omega arith)
      entering {h} {i = i} {ρ = ρ} {K = K} s v (s_two {o = act o} {a = a} {b = b} r sa sb) (scoped_two ca cb) (small_two ka kb) room =
          let m : Bool = mode_inside (under K) in
          is_quiet
          {f = focus.Node (suc i)}
          {h = suc h}
          {lets = length ρ}
          {x = m}
          {frames' = framed frames h i m}
          (look_node h (length ρ) m r ∙ enter_act h (length ρ) i o m (omega arith))
          (length_framed frames h i m)
          (at_node
          (on_left
          {o = o}
          {b = b}
          (stack_kept (framed_below frames h i m) (omega arith) s)
          (frame_put frames h i m (omega arith))
          r
          (record { spans = sb; scoped = cb; small = kb; room = omega arith }))
          v
          (record { spans = sa; scoped = ca; small = ka; room = omega arith }))
          (omega arith)

      -- every transition is one of the expression's
      pub goes_lem : {f : Focus} {h lets : ℕ} {x : Bool} {e : Expr} {left : ℕ} → SimNodes table R f h lets x frames bound e left
          → Goes H frames bound steps first ht (transition table structs types T (lent H ws) frames bound (state f h lets x steps first ht)) e left
      goes_lem (at_node s v w) = entering s v w.spans w.scoped w.small w.room
      goes_lem (at_value {x = x} {c = c} s v k) = handed x c s v k
