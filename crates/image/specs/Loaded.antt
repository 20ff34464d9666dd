-- The loader as a function of the lent tables: the answer, and what the tables then hold, also where the image is refused; and what is
-- answered of the content that the definition reads.
use Rattle.std.specs.Prelude.{ℕ, ◌+◌, List, ltb, length, take, Result, Ok, Err}
use Rattle.choice.specs.Choice.{choose}
use Rattle.calculus.specs.Expr.{nodes}
use Rattle.calculus.specs.declared.Fault.TheVariants as fault
use Rattle.calculus.specs.declared.Refusal.{Refusal}
use Rattle.image.specs.Content.{Content}
use Rattle.image.specs.Parsing.{Parsed, got, refused}
use Rattle.image.specs.Answers.{refusal, on_answer}
use Rattle.image.specs.Tabling.{FrontFilled, front_into}
use Rattle.image.specs.Filling.{Noded, expression_into}
use Rattle.image.specs.declared.Format.{Format}
use Rattle.image.specs.declared.Opening.{Opening}
use Rattle.image.specs.declared.Sizes.{Sizes}

-- the answer and the tables
pub record LoadedTables : Type 0 where
  pub result : Result Sizes Refusal
  pub structs : List ℕ
  pub types : List ℕ
  pub cells : List ℕ
  pub nodes : List ℕ

abbrev pub loaded_tables : Result Sizes Refusal → (structs types cells nodes : List ℕ) → LoadedTables
loaded_tables r ss ts cs ns = record { result = r; structs = ss; types = ts; cells = cs; nodes = ns }

abbrev pub sizes : Format → (structs types cells nodes : ℕ) → Sizes
sizes m S T C N = record { format = m; structs = S; types = T; cells = C; nodes = N }

-- behind the expression; bytes there are fault 8
abbrev pub expr_after : (image : List ℕ) → Opening → FrontFilled → Noded → LoadedTables
expr_after image f F g =
    on_answer g.result
    (λ q. loaded_tables (Err q) F.structs F.types F.cells g.table)
    (λ count. choose (ltb count.next (length image))
    (λ _. loaded_tables (Err (refusal fault.Behind count.next)) F.structs F.types F.cells g.table)
    (λ _. loaded_tables (Ok (sizes f.format f.counts.structs (f.counts.types + 1) f.cells count.value)) F.structs F.types F.cells g.table))

-- behind the tables and the cells
abbrev pub front_after : (image : List ℕ) → FrontFilled → List ℕ → LoadedTables
front_after image F ns =
    on_answer F.result
    (λ q. loaded_tables (Err q) F.structs F.types F.cells ns)
    (λ f. expr_after image f.value F (expression_into image (take (f.value.counts.types + 1) F.types) f.value.counts.structs f.next ns))

unfoldable pub load_into : (words : ℕ) (image : List ℕ) (structs types cells nodes : List ℕ) → LoadedTables
load_into words image ss ts cs ns = front_after image (front_into words image ss ts cs) ns

-- the sizes of a content
abbrev pub sizes_of : Content → Sizes
sizes_of c = sizes c.format (length c.tables.structs) (length c.tables.types) (length c.cells) (nodes c.expr)

-- what is answered of a content, or of its refusal
abbrev pub loading : Parsed Content → Result Sizes Refusal
loading (got c next) = Ok (sizes_of c)
loading (refused f p) = Err (refusal f p)
