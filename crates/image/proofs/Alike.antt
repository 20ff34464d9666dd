-- A node's line tells its head: what the reader puts into a row is what the definition reads, word types by their packed codes.
-- Assumes nothing.
use mathlib.Core.Path.{◌≡◌, refl}
use mathlib.Core.Bool.{true, false}
use mathlib.Core.List.{List, map}
use Prim.Native.Nat.{ℕ, ◌<◌}
use lib.ListN.{length, get_or, length-map}
use Rattle.std.proofs.lemmas.List.{get_or-map}
use Rattle.cells.specs.Code.{packed}
use Rattle.cells.specs.declared.Mode.TheVariants.{Checked}
use Rattle.cells.specs.declared.Kind.{Kind}
use Rattle.cells.specs.declared.Kind.TheVariants.{Int}
use Rattle.calculus.specs.Expr.{lit, var, malloc, One, unchecked, cast, read, field, Two, act, Target, pointer}
use Rattle.calculus.specs.declared.Operation.{Operation}
use Rattle.calculus.specs.declared.Operation.TheVariants as op
use Rattle.calculus.specs.declared.Fault.{Fault}
use Rattle.calculus.specs.declared.Fault.TheVariants as fault
use Rattle.image.specs.Content.{Tables}
use Rattle.image.specs.Parsing.{Parsed, got, refused, then_read, number, below}
use Rattle.image.specs.Tables.{read_target}
use Rattle.image.specs.Nodes.{Head, leaf, part, parts, binding, read_kind, head_of}
use Rattle.image.specs.Tabled.{one_operation, one_argument, one_kind, two_operation}
use Rattle.image.specs.Answers.{mapped, pointer_code}
use Rattle.image.specs.declared.NodeRow.{NodeRow}
use Rattle.image.specs.Filling.{node_row, kind_code, literal, line_of}
use Rattle.image.specs.declared.Parts.TheVariants as follow
use Rattle.image.proofs.Gives.{Gives, gives, gives_more}
use Rattle.image.proofs.Numbers.{below_gives}

-- two readings that end at one offset with related things, or with one refusal
pub data Alike {A B : Type 0} (R : A → B → Type 0) : Parsed A → Parsed B → Type 0 where
  alike : {a : A} {b : B} {next : ℕ} → R a b → Alike R (got a next) (got b next)
  alike_refused : {f : Fault} {p : ℕ} → Alike R (refused f p) (refused f p)

pub alike_then : {A B C D : Type 0} {R : A → B → Type 0} {Q : C → D → Type 0} {r : Parsed A} {s : Parsed B}
    (go : A → ℕ → Parsed C) (go' : B → ℕ → Parsed D)
    → Alike R r s → ((a : A) (b : B) (next : ℕ) → R a b → Alike Q (go a next) (go' b next)) → Alike Q (then_read r go) (then_read s go')
alike_then go go' (alike {a} {b} {next} p) k = k a b next p
alike_then go go' alike_refused k = alike_refused

-- one reading goes on in two ways
alike_same : {A C D : Type 0} {Q : C → D → Type 0} (r : Parsed A) (go : A → ℕ → Parsed C) (go' : A → ℕ → Parsed D)
    → ((a : A) (next : ℕ) → Alike Q (go a next) (go' a next)) → Alike Q (then_read r go) (then_read r go')
alike_same (got a next) go go' k = k a next
alike_same (refused f p) go go' k = alike_refused

alike_mapped : {A B : Type 0} (f : A → B) (r : Parsed A) → Alike (λ b a. b ≡ f a) (mapped f r) r
alike_mapped f (got a next) = alike refl
alike_mapped f (refused e p) = alike_refused

-- a node's operation and line tell its head
pub data Tells : Operation → NodeRow → Head → Type 0 where
  tells_lit : {n : ℕ} {κ : Kind} → Tells op.Literal (node_row n (packed κ) follow.Leaf) (leaf (lit n κ))
  tells_var : {k : ℕ} → Tells op.Variable (node_row k 0 follow.Leaf) (leaf (var k))
  tells_malloc : {ω : Target} → Tells op.Malloc (node_row 0 (packed (pointer Checked ω)) follow.Leaf) (leaf (malloc ω))
  tells_part : (o : One) → Tells (one_operation o) (node_row (one_argument o) (one_kind o) follow.One) (part o)
  tells_parts : (o : Two) → Tells (two_operation o) (node_row 0 0 (follow.Two false)) (parts o)
  tells_binding : Tells op.Let (node_row 0 0 (follow.Two true)) binding

module _ (image : List ℕ) (t : Tables) where
  kind_alike : (at : ℕ) → Alike (λ k κ. k ≡ packed κ) (kind_code image (map packed t.types) at) (read_kind image t at)
  unfolding kind_code
  kind_alike at =
      rw (length-map t.types packed)
      (go (below fault.Unknown (length t.types) image at)
      (gives_more (λ n next s. s.limited_by) (below_gives fault.Unknown (length t.types) image at)))
    where
      go : (r : Parsed ℕ) → Gives (λ n next. n < length t.types) r
          → Alike (λ k κ. k ≡ packed κ)
          (then_read r (λ n next. got (get_or (map packed t.types) n 0) next))
          (then_read r (λ n next. got (get_or t.types n Int) next))
      go (got n next) (gives l) = alike (get_or-map packed t.types n Int 0 l)
      go (refused f p) g = alike_refused

  pub line_alike : (lets first : ℕ) (o : Operation) (at : ℕ)
      → Alike (Tells o) (line_of image (map packed t.types) (length t.structs) lets first o at) (head_of image t lets first o at)
  unfolding line_of literal head_of
  line_alike lets first op.Literal at =
      alike_same (number image at) _ _ (λ n at₁. alike_then _ _ (kind_alike at₁) (λ k κ at₂ q. alike (rw q tells_lit)))
  line_alike lets first op.Variable at = alike_same (below fault.Unknown lets image at) _ _ (λ k at₁. alike tells_var)
  line_alike lets first op.Let at = alike tells_binding
  line_alike lets first op.Malloc at =
      rw (length-map t.types packed)
      (alike_then _ _ (alike_mapped (pointer_code Checked) (read_target image (length t.structs) (length t.types) at)) (λ k ω at₁ q. alike (rw q tells_malloc)))
  line_alike lets first op.Unchecked at = alike (tells_part unchecked)
  line_alike lets first op.Cast at = alike_then _ _ (kind_alike at) (λ k κ at₁ q. alike (rw q (tells_part (cast κ))))
  line_alike lets first op.Read at = alike (tells_part read)
  line_alike lets first (op.Acts o) at = alike (tells_parts (act o))
  line_alike lets first op.Field at = alike_same (number image at) _ _ (λ f at₁. alike (tells_part (field f)))
  line_alike lets first op.Unknown at = alike_refused
