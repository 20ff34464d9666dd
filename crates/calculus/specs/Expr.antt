-- Expressions: the nodes of codes 0 to 9 as a tree, variables by "how many lets out". Nodes with one part are one constructor with
-- an operation inside, and so are nodes with two parts.
use Rattle.std.specs.Prelude.{ℕ, suc, ◌+◌, ◌≡◌}
use Rattle.cells.specs.declared.Mode.{Mode}
use Rattle.cells.specs.declared.Mode.TheVariants.{Unchecked}
use Rattle.cells.specs.declared.Kind.{Kind}
use Rattle.cells.specs.declared.Kind.TheVariants.{Word, Struct, Array}
use Rattle.calculus.specs.declared.Act.{Act}

-- "a target is a word type, a struct or an array": 0 and a word type number; 1 and a struct number; 2, a count and a word type number
pub data Target : Type 0 where
  to_word : ℕ → Target
  to_struct : ℕ → Target
  to_array : ℕ → ℕ → Target

-- the pointer with a mode to a target: the paper's ptr^m ω
abbrev pub pointer : Mode → Target → Kind
pointer m (to_word n) = Word m n
pointer m (to_struct s) = Struct m s
pointer m (to_array k n) = Array m k n

-- what is done with one part: 4 unchecked; 5 cast, with the word type; 6 read through a pointer; 9 field address, with the field number
pub data One : Type 0 where
  unchecked : One
  cast : Kind → One
  read : One
  field : ℕ → One

-- the nodes with two parts: those that act on the parts' values, 7 assign (pointer part, value part) and 8 sum
pub data Two : Type 0 where
  act : Act → Two

-- 0 literal (value, word type); 1 variable; 3 malloc (target); 2 let (bound part, body); and the nodes above
pub data Expr : Type 0 where
  lit : ℕ → Kind → Expr
  var : ℕ → Expr
  malloc : Target → Expr
  bind : Expr → Expr → Expr
  one : One → Expr → Expr
  two : Two → Expr → Expr → Expr

-- how many nodes an expression has: nodes are "written before their parts and numbered from 0 in that order", so the first part of
-- node i is node i + 1, and the second comes behind the first part's nodes
unfoldable pub nodes : Expr → ℕ
nodes (lit n κ) = 1
nodes (var k) = 1
nodes (malloc ω) = 1
nodes (bind a b) = suc (nodes a + nodes b)
nodes (one o e) = suc (nodes e)
nodes (two o a b) = suc (nodes a + nodes b)

-- "the count of nodes of codes 2 to 9"
unfoldable pub operators : Expr → ℕ
operators (lit n κ) = 0
operators (var k) = 0
operators (malloc ω) = 1
operators (bind a b) = suc (operators a + operators b)
operators (one o e) = suc (operators e)
operators (two o a b) = suc (operators a + operators b)

-- "unchecked inside an unchecked block": the mode of a node's part, where the node is in code of this mode
abbrev pub inside : One → Mode → Mode
inside unchecked m = Unchecked
inside (cast κ) m = m
inside read m = m
inside (field f) m = m

-- each node of the expression is one of those told: O of the nodes with one part, W of those with two
pub data Made (O : One → Type 0) (W : Two → Type 0) : Expr → Type 0 where
  of_lit : {n : ℕ} {κ : Kind} → Made O W (lit n κ)
  of_var : {k : ℕ} → Made O W (var k)
  of_malloc : {ω : Target} → Made O W (malloc ω)
  of_bind : {a b : Expr} → Made O W a → Made O W b → Made O W (bind a b)
  of_one : {o : One} {e : Expr} → O o → Made O W e → Made O W (one o e)
  of_two : {o : Two} {a b : Expr} → W o → Made O W a → Made O W b → Made O W (two o a b)

-- an expression without an unchecked block: no node in it has code 4
abbrev pub NoBlock : Expr → Type 0
NoBlock = Made (λ o. o ≡ unchecked → ⊥) (λ o. Unit {0})
