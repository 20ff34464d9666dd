-- The judge of nodes over the node table, as the code goes about it: a node's first part, then its second, then the node.
use Rattle.std.specs.Prelude.{ℕ, zero, suc, ◌+◌, Bool, false, List, Result, Ok, Err, eqb}
use Rattle.choice.specs.Choice.{choose}
use Rattle.cells.specs.declared.Mode.{Mode}
use Rattle.calculus.specs.declared.Operation.{Operation}
use Rattle.calculus.specs.declared.Refusal.{Refusal}
use Rattle.judge.specs.Rows.{node_number, operation_at}
use Rattle.judge.specs.Parts.{parts_of, is_access, inner_mode, inner_lets, bound_with}
use Rattle.judge.specs.Rules.{no_rule_told, leaf_told, one_told, two_told}

-- the verdict on a node, and the lent list of the kinds of bound variables
pub record Judging : Type 0 where
  pub told : Result ℕ Refusal
  pub bound : List ℕ

abbrev pub judging : Result ℕ Refusal → List ℕ → Judging
judging told bound = record { told = told; bound = bound }

-- go on with the type of what was found good
abbrev pub go_on : Result ℕ Refusal → List ℕ → (ℕ → List ℕ → Judging) → Judging
go_on (Ok x) bound go = go x bound
go_on (Err r) bound go = judging (Err r) bound

abbrev pub then_judging : Judging → (ℕ → List ℕ → Judging) → Judging
then_judging j go = go_on j.told j.bound go

module _ (structs types nodes : List ℕ) (first : ℕ) where
  -- node i, in code of this mode and inside `lets` lets, as a whole or as the pointer of an access; no more than `left` nodes remain
  unfoldable pub judge_node : (left : ℕ) (access : Bool) (lets : ℕ) (mode : Mode) (i : ℕ) (bound : List ℕ) → Judging
  judge_node zero access lets mode i bound = judging (no_rule_told i) bound
  judge_node (suc left) access lets mode i bound =
      let o : Operation = operation_at nodes i in
      choose (eqb (parts_of o) 0) (λ _. judging (leaf_told bound structs nodes first lets i o) bound) λ _.
      then_judging (judge_node left (is_access o) lets (inner_mode o mode) (i + 1) bound)
      (λ x bound₁. choose (eqb (parts_of o) 1) (λ _. judging (one_told structs types nodes mode i o x) bound₁) λ _.
      then_judging (judge_node left false (inner_lets o lets) mode (node_number nodes i 3) (bound_with o lets x bound₁))
      (λ y bound₂. judging (two_told types mode i access o x y) bound₂))
