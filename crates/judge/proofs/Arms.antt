-- The arm `_` of a match on an operation: what holds of each operation that has no arm of its own holds there.
use mathlib.Core.Bool.{Bool, true, false, not}
use mathlib.Core.List.{List}
use Prim.Native.Nat.{ℕ}
use lib.Dec.{T}
use mir.Val.{has_key}
use types.Run.{OneOf, miss}
use denote.Enum.Declared.{tag_of}
use Rattle.calculus.specs.declared.Act.{Act}
use Rattle.calculus.specs.declared.Operation.{Operation}
use Rattle.calculus.specs.declared.Operation.TheVariants as op
use Rattle.calculus.specs.contracts.Operation.{the_type}

has_key_lem : (ks : List ℕ) (x : ℕ) → OneOf ks x → T (has_key ks x)
has_key_lem ks x k = go (has_key ks x) (λ n. miss ks x n k)
  where
    go : (t : Bool) → (T (not t) → ⊥) → T t
    go true n = tt
    go false n = n tt

-- `ks` are the tags of the operations that have no arm of their own
module _ (P : Operation → Type 0) (ks : List ℕ) where
  -- P holds of the operation, if it is one of them
  abbrev Left : Operation → Type 0
  Left o = T (has_key ks (tag_of the_type o)) → P o

  pub rest : Left op.Literal → Left op.Variable → Left op.Let → Left op.Malloc → Left op.Unchecked → Left op.Cast → Left op.Read
      → ((a : Act) → Left (op.Acts a)) → Left op.Field → Left op.Unknown → (o : Operation) → OneOf ks (tag_of the_type o) → P o
  rest literal variable lets malloc unchecked cast read acts field unknown o k = go o (has_key_lem ks (tag_of the_type o) k)
    where
      go : (o : Operation) → Left o
      go op.Literal = literal
      go op.Variable = variable
      go op.Let = lets
      go op.Malloc = malloc
      go op.Unchecked = unchecked
      go op.Cast = cast
      go op.Read = read
      go (op.Acts a) = acts a
      go op.Field = field
      go op.Unknown = unknown
