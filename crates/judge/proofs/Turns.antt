-- The judge of nodes, opened as the code comes by its places: no node remains, a node without parts, a first part that is bad, a node with
-- one part, a second part that is bad, a node with two parts; and what an access differs in.
use Rattle.std.specs.Prelude.{Ok, Err}
use mathlib.Core.Path.{◌≡◌, refl, sym}
use mathlib.Core.Bool.{Bool, true, false, not}
use mathlib.Core.List.{List}
use Prim.Native.Nat.{ℕ, zero, suc, ◌+◌, ◌-◌, ◌<◌, ◌≤◌}
use native.Mathlib.Omega.{arith}
use lib.ListN.{length}
use borrow.Author.Tests.{ne_eqb}
use Rattle.choice.specs.Choice.{choose_case}
use Rattle.cells.specs.declared.Mode.{Mode}
use Rattle.calculus.specs.Operations.{operation_of}
use Rattle.calculus.specs.declared.Act.{Act}
use Rattle.calculus.specs.declared.Act.TheVariants as act
use Rattle.calculus.specs.declared.Operation.{Operation}
use Rattle.calculus.specs.declared.Operation.TheVariants as op
use Rattle.calculus.specs.declared.Refusal.{Refusal}
use Rattle.calculus.proofs.Same.{as_true}
use Rattle.judge.specs.Rows.{node_number, operation_at}
use Rattle.judge.specs.Parts.{parts_of, is_access, on_wholes, inner_mode, is_let, inner_lets, bound_with}
use Rattle.judge.specs.Rules.{no_rule_told, leaf_told, one_told, act_told, two_told}
use Rattle.judge.specs.Nodes.{Judging, judging, judge_node}
use Rattle.judge.proofs.Lists.{has_number}

is_suc : (n : ℕ) → (n ≡ 0 → ⊥) → n ≡ suc (n - 1)
is_suc n h = omega arith

-- ---- what a node does
-- a node that has parts stands in the table: the code 0 is that of a literal
pub has_row : (nodes : List ℕ) (i : ℕ) → (parts_of (operation_at nodes i) ≡ 0 → ⊥) → i < length nodes
unfolding operation_of
has_row nodes i h = omega (arith, has_number 4 nodes i 0 (λ e. h (rw e)))

-- an access is in the mode around it
access_mode : (o : Operation) (mode : Mode) → is_access o ≡ true → inner_mode o mode ≡ mode
access_mode op.Literal mode h = refl
access_mode op.Variable mode h = refl
access_mode op.Let mode h = refl
access_mode op.Malloc mode h = refl
access_mode op.Unchecked mode h = absurd (as_true h)
access_mode op.Cast mode h = refl
access_mode op.Read mode h = refl
access_mode (op.Acts a) mode h = refl
access_mode op.Field mode h = refl
access_mode op.Unknown mode h = refl

pub lets_most : (o : Operation) (lets : ℕ) → inner_lets o lets ≤ lets + 1
lets_most o lets = choose_case (λ n. n ≤ lets + 1) (is_let o) (λ _. lets + 1) (λ _. lets) (omega arith) (omega arith)

-- what acts on two wholes has two parts, both in the mode and inside the lets around it
pub record Wholes (o : Operation) : Type 0 where
  pub two : parts_of o ≡ 2
  pub no_access : is_access o ≡ false
  pub same_mode : (mode : Mode) → inner_mode o mode ≡ mode
  pub no_let : is_let o ≡ false

not_true : (t : Bool) → not t ≡ true → t ≡ false
not_true true h = absurd (as_true h)
not_true false h = refl

pub wholes : (o : Operation) → on_wholes o ≡ true → Wholes o
wholes op.Literal h = absurd (as_true h)
wholes op.Variable h = absurd (as_true h)
wholes op.Let h = absurd (as_true h)
wholes op.Malloc h = absurd (as_true h)
wholes op.Unchecked h = absurd (as_true h)
wholes op.Cast h = absurd (as_true h)
wholes op.Read h = absurd (as_true h)
wholes (op.Acts a) h = record { two = refl; no_access = not_true (is_access (op.Acts a)) h; same_mode = λ m. refl; no_let = refl }
wholes op.Field h = absurd (as_true h)
wholes op.Unknown h = absurd (as_true h)

pub wholes_row : (nodes : List ℕ) (i : ℕ) → on_wholes (operation_at nodes i) ≡ true → i < length nodes
wholes_row nodes i h = has_row nodes i (λ e. omega (arith, (wholes (operation_at nodes i) h).two))

-- all else is judged in the same way as an access
module _ (types : List ℕ) (mode : Mode) (i : ℕ) where
  same_act : (a : Act) → on_wholes (op.Acts a) ≡ false → (x y : ℕ) → act_told types mode i false a x y ≡ act_told types mode i true a x y
  same_act act.Assign h x y = refl
  same_act act.Sum h x y = absurd (as_true (sym h))

  same_told : (o : Operation) → on_wholes o ≡ false → (x y : ℕ) → two_told types mode i false o x y ≡ two_told types mode i true o x y
  same_told op.Literal h x y = refl
  same_told op.Variable h x y = refl
  same_told op.Let h x y = refl
  same_told op.Malloc h x y = refl
  same_told op.Unchecked h x y = refl
  same_told op.Cast h x y = refl
  same_told op.Read h x y = refl
  same_told (op.Acts a) h x y = same_act a h x y
  same_told op.Field h x y = refl
  same_told op.Unknown h x y = refl

module _ (structs types nodes : List ℕ) (first : ℕ) where
  pub none_remain : (left : ℕ) (access : Bool) (lets : ℕ) (mode : Mode) (i : ℕ) (bound : List ℕ) → left ≡ 0
      → judging (no_rule_told i) bound ≡ judge_node structs types nodes first left access lets mode i bound
  unfolding judge_node
  none_remain left access lets mode i bound z = rw z

  -- the first part, judged as an access or as a whole
  pub by_access : (left lets : ℕ) (mode : Mode) (i : ℕ) (bound : List ℕ) (o : Operation) (j : Judging) → is_access o ≡ true
      → j ≡ judge_node structs types nodes first left true lets mode i bound
      → j ≡ judge_node structs types nodes first left (is_access o) lets (inner_mode o mode) i bound
  by_access left lets mode i bound o j h e = rw (access_mode o mode h, h) e

  pub by_node : (left lets : ℕ) (mode : Mode) (i : ℕ) (bound : List ℕ) (o : Operation) (j : Judging) → is_access o ≡ false
      → j ≡ judge_node structs types nodes first left false lets (inner_mode o mode) i bound
      → j ≡ judge_node structs types nodes first left (is_access o) lets (inner_mode o mode) i bound
  by_node left lets mode i bound o j h e = rw h e

  pub no_wholes : (left lets : ℕ) (mode : Mode) (i : ℕ) (bound : List ℕ) → on_wholes (operation_at nodes i) ≡ false
      → judge_node structs types nodes first left false lets mode i bound ≡ judge_node structs types nodes first left true lets mode i bound
  unfolding judge_node
  no_wholes zero lets mode i bound h = refl
  no_wholes (suc left) lets mode i bound h = simp (same_told types mode i (operation_at nodes i) h)

  -- a node with parts, as a whole or as an access
  module _ (left : ℕ) (access : Bool) (lets : ℕ) (mode : Mode) (i : ℕ) (bound : List ℕ) (n : left ≡ 0 → ⊥) where
    abbrev o : Operation
    o = operation_at nodes i

    abbrev here : Judging
    here = judge_node structs types nodes first left access lets mode i bound

    abbrev first_part : Judging
    first_part = judge_node structs types nodes first (left - 1) (is_access o) lets (inner_mode o mode) (i + 1) bound

    pub is_leaf : parts_of o ≡ 0 → judging (leaf_told bound structs nodes first lets i o) bound ≡ here
    unfolding judge_node
    is_leaf p = rw (is_suc left n, p)

    module _ (p : parts_of o ≡ 0 → ⊥) where
      pub part_bad : (r : Refusal) (bound₁ : List ℕ) → judging (Err r) bound₁ ≡ first_part → judging (Err r) bound₁ ≡ here
      unfolding judge_node
      part_bad r bound₁ e = rw (is_suc left n, ne_eqb (parts_of o) 0 p, ← e)

      module _ (x : ℕ) (bound₁ : List ℕ) (e : judging (Ok x) bound₁ ≡ first_part) where
        pub is_one : parts_of o ≡ 1 → judging (one_told structs types nodes mode i o x) bound₁ ≡ here
        unfolding judge_node
        is_one q = rw (is_suc left n, ← e, q)

        abbrev second_part : Judging
        second_part =
            judge_node structs types nodes first (left - 1) false (inner_lets o lets) mode (node_number nodes i 3) (bound_with o lets x bound₁)

        module _ (q : parts_of o ≡ 1 → ⊥) where
          pub second_bad : (r : Refusal) (bound₂ : List ℕ) → judging (Err r) bound₂ ≡ second_part → judging (Err r) bound₂ ≡ here
          unfolding judge_node
          second_bad r bound₂ f = rw (is_suc left n, ne_eqb (parts_of o) 0 p, ← e, ne_eqb (parts_of o) 1 q, ← f)

          pub is_two : (y : ℕ) (bound₂ : List ℕ) → judging (Ok y) bound₂ ≡ second_part
              → judging (two_told types mode i access o x y) bound₂ ≡ here
          unfolding judge_node
          is_two y bound₂ f = rw (is_suc left n, ne_eqb (parts_of o) 0 p, ← e, ne_eqb (parts_of o) 1 q, ← f)

  -- as an access, two wholes that are acted on
  module _ (left lets : ℕ) (mode : Mode) (i : ℕ) (bound : List ℕ) (n : left ≡ 0 → ⊥) (h : on_wholes (operation_at nodes i) ≡ true) where
    abbrev left_side : Judging
    left_side = judge_node structs types nodes first (left - 1) false lets mode (i + 1) bound

    abbrev at_access : Judging
    at_access = judge_node structs types nodes first left true lets mode i bound

    pub side_bad : (r : Refusal) (bound₁ : List ℕ) → judging (Err r) bound₁ ≡ left_side → judging (Err r) bound₁ ≡ at_access
    unfolding judge_node
    side_bad r bound₁ e = let w = wholes (operation_at nodes i) h in rw (is_suc left n, w.two, w.no_access, w.same_mode mode, ← e)

    module _ (x : ℕ) (bound₁ : List ℕ) (e : judging (Ok x) bound₁ ≡ left_side) where
      abbrev right_side : Judging
      right_side = judge_node structs types nodes first (left - 1) false lets mode (node_number nodes i 3) bound₁

      pub other_bad : (r : Refusal) (bound₂ : List ℕ) → judging (Err r) bound₂ ≡ right_side → judging (Err r) bound₂ ≡ at_access
      unfolding judge_node
      other_bad r bound₂ f =
          let w = wholes (operation_at nodes i) h in rw (is_suc left n, w.two, w.no_access, w.same_mode mode, ← e, w.no_let, ← f)

      pub is_act : (y : ℕ) (bound₂ : List ℕ) → judging (Ok y) bound₂ ≡ right_side
          → judging (two_told types mode i true (operation_at nodes i) x y) bound₂ ≡ at_access
      unfolding judge_node
      is_act y bound₂ f =
          let w = wholes (operation_at nodes i) h in rw (is_suc left n, w.two, w.no_access, w.same_mode mode, ← e, w.no_let, ← f)
