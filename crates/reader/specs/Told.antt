-- What the reader of expressions ensures.
use Rattle.std.specs.Prelude.{ℕ, ◌+◌, ◌-◌, ◌*◌, ◌<◌, ◌≤◌, ◌≡◌, List, map, length, get_or, Result, Ok, Err}
use Rattle.cells.specs.Code.{packed, Small}
use Rattle.cells.specs.declared.Mode.TheVariants.{Checked}
use Rattle.cells.specs.declared.Kind.TheVariants.{Int}
use Rattle.calculus.specs.Expr.{Expr, nodes}
use Rattle.calculus.specs.declared.Fault.{Fault}
use Rattle.tables.specs.Rows.{whole_rows}
use Rattle.tables.specs.Parts.{HoldsExpr}
use Rattle.image.specs.Content.{Tables}
use Rattle.image.specs.Parsing.{Parsed, got, refused}
use Rattle.image.specs.Image.{read_expr}
use Rattle.image.specs.Answers.{refusal}
use Rattle.image.specs.Filled.{filled}
use Rattle.reader.specs.Reads.{most_rows, expression_rows}
use Rattle.reader.specs.declared.Expression.{Expression}
use Rattle.reader.specs.declared.NotRead.{NotRead}
use Rattle.reader.specs.declared.NotRead.TheVariants.{Refused, Short}

-- the numbers behind the first `rows` rows are as they were
pub record BehindKept (rows : ℕ) (t t' : List ℕ) : Type 0 where
  pub same : (k : ℕ) → 2 * rows ≤ k → get_or t' k 0 ≡ get_or t k 0

-- What is answered, and what the lent numbers t then hold, of an expression in so many bytes that is read as told: it, in its rows, and
-- then the row that stops; or its refusal; or nothing was read, since the rows were too few for any expression in as many bytes.
pub data TellsRows (types : List ℕ) (bytes : ℕ) (t t' : List ℕ) : Result Expression NotRead → Parsed Expr → Type 0 where
  tells_expr : {e : Expr} {next : ℕ} (held : HoldsExpr types t' Checked 0 0 e) → length t' ≡ length t → BehindKept (held.end + 1) t t'
      → TellsRows types bytes t t' (Ok (record { next = next; nodes = nodes e; rows = held.end + 1 })) (got e next)
  tells_refused : {f : Fault} {p : ℕ} → length t' ≡ length t → TellsRows types bytes t t' (Err (Refused (refusal f p))) (refused f p)
  tells_short : {r : Parsed Expr} → whole_rows t < most_rows bytes → t' ≡ t → TellsRows types bytes t t' (Err Short) r

-- The answer and the rows are those of the model, whatever the arguments are; and over the tables of an image that is not too long they
-- tell what the definition reads.
pub record RowsRead (image : List ℕ) (known structs at : ℕ) (t : List ℕ) (r : Result Expression NotRead) (t' : List ℕ) : Type 0 where
  pub model : filled r t' ≡ expression_rows image known structs at t
  pub definition : (tables : Tables) → length image ≤ 16384 → length tables.types ≡ known → length tables.structs ≡ structs
      → known ≤ 256 → structs ≤ 256 → ((n : ℕ) → Small (get_or tables.types n Int))
      → TellsRows (map packed tables.types) (length image - at) t t' r (read_expr image tables at)
