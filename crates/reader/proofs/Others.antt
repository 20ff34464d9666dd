-- The operations that the last arm of a match has: for each earlier arm a fact says that the operation is none of that arm's.
use Prim.Native.Nat.{ℕ}
use mathlib.Core.Path.{◌≡◌, refl}
use mathlib.Core.Bool.{Bool}
use mathlib.Core.List.{List}
use Rattle.calculus.specs.declared.Act.{Act}
use Rattle.calculus.specs.declared.Operation.{Operation}
use Rattle.calculus.specs.declared.Operation.TheVariants as op
use Rattle.calculus.specs.declared.Fault.TheVariants as fault
use Rattle.image.specs.Parsing.{refused}
use Rattle.reader.specs.Cursors.{ReadingAt}
use Rattle.reader.specs.Reads.{PartReader, part_line, one_rows, operation_rows}

-- no node with one part
pub no_operand : (image : List ℕ) (known : ℕ) (inside : Bool) (first : ℕ) (o : Operation) (at : ℕ)
    → (o ≡ op.Unchecked → ⊥) → (o ≡ op.Cast → ⊥) → (o ≡ op.Read → ⊥) → (o ≡ op.Field → ⊥)
    → part_line image known inside first o at ≡ refused fault.Unknown first
unfolding part_line
no_operand image known inside first op.Literal at u c r f = refl
no_operand image known inside first op.Variable at u c r f = refl
no_operand image known inside first op.Let at u c r f = refl
no_operand image known inside first op.Malloc at u c r f = refl
no_operand image known inside first op.Unchecked at u c r f = absurd (u refl)
no_operand image known inside first op.Cast at u c r f = absurd (c refl)
no_operand image known inside first op.Read at u c r f = absurd (r refl)
no_operand image known inside first (op.Acts o) at u c r f = refl
no_operand image known inside first op.Field at u c r f = absurd (f refl)
no_operand image known inside first op.Unknown at u c r f = refl

-- the nodes with one part, and the unknown ones
module _ (image : List ℕ) (known structs : ℕ) (part : PartReader) (lets : ℕ) (inside : Bool) (cursor : ReadingAt) where
  pub one_of : (o : Operation) (at : ℕ) (t : List ℕ)
      → (o ≡ op.Literal → ⊥) → (o ≡ op.Variable → ⊥) → ((a : Act) → o ≡ op.Acts a → ⊥) → (o ≡ op.Let → ⊥) → (o ≡ op.Malloc → ⊥)
      → one_rows image known part lets inside cursor o at t ≡ operation_rows image known structs part lets inside cursor o at t
  one_of op.Literal at t l v a b m = absurd (l refl)
  one_of op.Variable at t l v a b m = absurd (v refl)
  one_of op.Let at t l v a b m = absurd (b refl)
  one_of op.Malloc at t l v a b m = absurd (m refl)
  one_of op.Unchecked at t l v a b m = refl
  one_of op.Cast at t l v a b m = refl
  one_of op.Read at t l v a b m = refl
  one_of (op.Acts o) at t l v a b m = absurd (a o refl)
  one_of op.Field at t l v a b m = refl
  one_of op.Unknown at t l v a b m = refl
