-- The last arm of a match on an operation, for all that have no arm of their own: what the definitions then say.
use Rattle.std.proofs.Common.{◌≡◌, ℕ, Bool, List, refl}
use Rattle.calculus.specs.declared.Act.{Act}
use Rattle.calculus.specs.declared.Operation.{Operation}
use Rattle.calculus.specs.declared.Operation.TheVariants as op
use Rattle.machine.specs.declared.CodedValue.{CodedValue}
use Rattle.machine.specs.declared.State.{State}
use Rattle.yields.specs.declared.Terms.{Terms}
use Rattle.yields.specs.declared.Yield.TheVariants.{Blocked}
use Rattle.machine.specs.States.{on_frames}
use Rattle.machine.specs.Redexes.{one_yield}
use Rattle.machine.specs.Nodes.{inside_of, first_part, entered}
use Rattle.machine.specs.Values.{by_parts}

pub not_block : (o : Operation) (x : Bool) → (o ≡ op.Unchecked → ⊥) → inside_of o x ≡ x
not_block op.Literal x n = refl
not_block op.Variable x n = refl
not_block op.Let x n = refl
not_block op.Malloc x n = refl
not_block op.Unchecked x n = absurd (n refl)
not_block op.Cast x n = refl
not_block op.Read x n = refl
not_block (op.Acts a) x n = refl
not_block op.Field x n = refl
not_block op.Unknown x n = refl

module _ (structs types : List ℕ) (terms : Terms) (ws frames bound : List ℕ) (s : State) (at argument kind : ℕ) where
  pub not_leaf : (o : Operation) → (o ≡ op.Literal → ⊥) → (o ≡ op.Variable → ⊥) → (o ≡ op.Malloc → ⊥)
      → entered structs types terms ws frames bound s at o argument kind ≡ on_frames ws bound (first_part frames s at o)
  unfolding entered
  not_leaf op.Literal l v m = absurd (l refl)
  not_leaf op.Variable l v m = absurd (v refl)
  not_leaf op.Let l v m = refl
  not_leaf op.Malloc l v m = absurd (m refl)
  not_leaf op.Unchecked l v m = refl
  not_leaf op.Cast l v m = refl
  not_leaf op.Read l v m = refl
  not_leaf (op.Acts a) l v m = refl
  not_leaf op.Field l v m = refl
  not_leaf op.Unknown l v m = refl

module _ (structs : List ℕ) (words : ℕ) (ws : List ℕ) (v : CodedValue) (argument kind : ℕ) where
  pub not_single : (o : Operation) → (o ≡ op.Unchecked → ⊥) → (o ≡ op.Cast → ⊥) → (o ≡ op.Read → ⊥) → (o ≡ op.Field → ⊥)
      → one_yield structs words ws v o argument kind ≡ Blocked
  unfolding one_yield
  not_single op.Literal u k r f = refl
  not_single op.Variable u k r f = refl
  not_single op.Let u k r f = refl
  not_single op.Malloc u k r f = refl
  not_single op.Unchecked u k r f = absurd (u refl)
  not_single op.Cast u k r f = absurd (k refl)
  not_single op.Read u k r f = absurd (r refl)
  not_single (op.Acts a) u k r f = refl
  not_single op.Field u k r f = absurd (f refl)
  not_single op.Unknown u k r f = refl

pub not_pair : {A : Type 0} (o : Operation) (binds : Unit {0} → A) (acts : Act → A) (other : Unit {0} → A)
    → (o ≡ op.Let → ⊥) → ((a : Act) → o ≡ op.Acts a → ⊥) → by_parts o binds acts other ≡ other tt
not_pair op.Literal binds acts other l n = refl
not_pair op.Variable binds acts other l n = refl
not_pair op.Let binds acts other l n = absurd (l refl)
not_pair op.Malloc binds acts other l n = refl
not_pair op.Unchecked binds acts other l n = refl
not_pair op.Cast binds acts other l n = refl
not_pair op.Read binds acts other l n = refl
not_pair (op.Acts a) binds acts other l n = absurd (n a refl)
not_pair op.Field binds acts other l n = refl
not_pair op.Unknown binds acts other l n = refl

-- what holds of each side holds of the choice by parts
pub parts_case : {A : Type 0} (P : A → Type 0) (o : Operation) (binds : Unit {0} → A) (acts : Act → A) (other : Unit {0} → A)
    → P (binds tt) → ((a : Act) → P (acts a)) → P (other tt) → P (by_parts o binds acts other)
parts_case P op.Literal binds acts other b a' r = r
parts_case P op.Variable binds acts other b a' r = r
parts_case P op.Let binds acts other b a' r = b
parts_case P op.Malloc binds acts other b a' r = r
parts_case P op.Unchecked binds acts other b a' r = r
parts_case P op.Cast binds acts other b a' r = r
parts_case P op.Read binds acts other b a' r = r
parts_case P (op.Acts a) binds acts other b a' r = a' a
parts_case P op.Field binds acts other b a' r = r
parts_case P op.Unknown binds acts other b a' r = r
