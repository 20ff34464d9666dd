-- What can be said of every expression that was read: how high it is, that each variable is bound, and that each type and struct number
-- in it is known.
use Rattle.std.specs.Prelude.{ℕ, suc, ◌^◌, ◌<◌, max, ◌≡◌, length, get_or}
use Rattle.cells.specs.Code.{Small}
use Rattle.cells.specs.declared.Mode.TheVariants.{Checked}
use Rattle.cells.specs.declared.Kind.{Kind}
use Rattle.cells.specs.declared.Kind.TheVariants.{Int}
use Rattle.calculus.specs.Expr.{Expr, lit, var, malloc, bind, one, two, One, unchecked, cast, read, field, Two, Target, to_word, to_struct, to_array, pointer}
use Rattle.image.specs.Content.{Tables}

-- how deep an expression nests, "the root being depth 1"
unfoldable pub height : Expr → ℕ
height (lit n κ) = 1
height (var k) = 1
height (malloc ω) = 1
height (bind a b) = suc (max (height a) (height b))
height (one o e) = suc (height e)
height (two o a b) = suc (max (height a) (height b))

-- each variable is bound, the expression being inside `lets` lets; "A let's bound part is not inside that let."
pub data Scoped : ℕ → Expr → Type 0 where
  scoped_lit : {lets n : ℕ} {κ : Kind} → Scoped lets (lit n κ)
  scoped_var : {lets k : ℕ} → k < lets → Scoped lets (var k)
  scoped_malloc : {lets : ℕ} {ω : Target} → Scoped lets (malloc ω)
  scoped_bind : {lets : ℕ} {a b : Expr} → Scoped lets a → Scoped (suc lets) b → Scoped lets (bind a b)
  scoped_one : {lets : ℕ} {o : One} {e : Expr} → Scoped lets e → Scoped lets (one o e)
  scoped_two : {lets : ℕ} {o : Two} {a b : Expr} → Scoped lets a → Scoped lets b → Scoped lets (two o a b)

-- a word type of the table
pub data KnownKind (t : Tables) : Kind → Type 0 where
  known_kind : {κ : Kind} (n : ℕ) → n < length t.types → κ ≡ get_or t.types n Int → KnownKind t κ

-- a target whose numbers are known: the structs are those below S, the word types those below n
pub data KnownTarget (S n : ℕ) : Target → Type 0 where
  word_known : {i : ℕ} → i < n → KnownTarget S n (to_word i)
  struct_known : {s : ℕ} → s < S → KnownTarget S n (to_struct s)
  array_known : {k i : ℕ} → k < 65536 → i < n → KnownTarget S n (to_array k i)

pub data KnownOne (t : Tables) : One → Type 0 where
  known_unchecked : KnownOne t unchecked
  known_cast : {κ : Kind} → KnownKind t κ → KnownOne t (cast κ)
  known_read : KnownOne t read
  known_field : {f : ℕ} → f < 2 ^ 32 → KnownOne t (field f)

-- each type and struct number is known, and each number that was read fits 32 bits
pub data Known (t : Tables) : Expr → Type 0 where
  known_lit : {n : ℕ} {κ : Kind} → n < 2 ^ 32 → KnownKind t κ → Known t (lit n κ)
  known_var : {k : ℕ} → Known t (var k)
  known_malloc : {ω : Target} → KnownTarget (length t.structs) (length t.types) ω → Known t (malloc ω)
  known_bind : {a b : Expr} → Known t a → Known t b → Known t (bind a b)
  known_one : {o : One} {e : Expr} → KnownOne t o → Known t e → Known t (one o e)
  known_two : {o : Two} {a b : Expr} → Known t a → Known t b → Known t (two o a b)

-- each kind in it, and that of the pointer to each target, has numbers that fit the packed code
pub data SmallOne : One → Type 0 where
  small_unchecked : SmallOne unchecked
  small_cast : {κ : Kind} → Small κ → SmallOne (cast κ)
  small_read : SmallOne read
  small_field : {f : ℕ} → SmallOne (field f)

pub data SmallExpr : Expr → Type 0 where
  small_lit : {n : ℕ} {κ : Kind} → Small κ → SmallExpr (lit n κ)
  small_var : {k : ℕ} → SmallExpr (var k)
  small_malloc : {ω : Target} → Small (pointer Checked ω) → SmallExpr (malloc ω)
  small_bind : {a b : Expr} → SmallExpr a → SmallExpr b → SmallExpr (bind a b)
  small_one : {o : One} {e : Expr} → SmallOne o → SmallExpr e → SmallExpr (one o e)
  small_two : {o : Two} {a b : Expr} → SmallExpr a → SmallExpr b → SmallExpr (two o a b)
