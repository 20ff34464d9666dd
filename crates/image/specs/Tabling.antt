-- The readers that write a lent table, as functions of the table: the answer, and what the table then holds, also where the image is
-- refused. Each has the shape of what it reads in Tables.antt and Cells.antt, with the parts told as numbers.
use Rattle.std.specs.Prelude.{ℕ, zero, suc, ◌+◌, ◌==◌, Bool, List, [], ◌∷◌, eqb, ltb, length, get_or, set, take, Result, Ok, Err}
use Rattle.std.specs.List.{list_any}
use Rattle.choice.specs.Choice.{choose}
use Rattle.cells.specs.Code.{packed}
use Rattle.numbers.specs.declared.Read.{Read}
use Rattle.calculus.specs.declared.Fault.TheVariants as fault
use Rattle.calculus.specs.declared.Refusal.{Refusal}
use Rattle.image.specs.Parsing.{Parsed, got, refused, then_read, number, below}
use Rattle.image.specs.Tables.{read_entry}
use Rattle.image.specs.Cells.{read_address}
use Rattle.image.specs.Image.{read_format}
use Rattle.image.specs.Answers.{refusal, with_next, told, on_answer, mapped}
use Rattle.image.specs.Filled.{Filled, filled, row_stored}
use Rattle.image.specs.declared.Format.{Format}
use Rattle.image.specs.declared.TableCounts.{TableCounts}
use Rattle.image.specs.declared.CellRow.{CellRow}
use Rattle.image.specs.declared.Opening.{Opening}

-- what is answered of a part that went into a table: the offset behind it
abbrev pub passed : {A : Type 0} → Parsed A → Result ℕ Refusal
passed (got a next) = Ok next
passed (refused f p) = Err (refusal f p)

-- go on behind what was read; where it is refused the table stays as it is
abbrev pub on_read : {A B : Type 0} → Parsed A → List ℕ → (A → ℕ → Filled (Result B Refusal)) → Filled (Result B Refusal)
on_read r t go = on_answer (told r) (λ q. filled (Err q) t) (λ x. go x.value x.next)

-- go on behind a part that wrote the table
abbrev pub on_filled : {A B : Type 0} → Filled (Result A Refusal) → (A → List ℕ → Filled (Result B Refusal)) → Filled (Result B Refusal)
on_filled f go = on_answer f.result (λ q. filled (Err q) f.table) (λ a. go a f.table)

-- `left` fields, the first of them at `to`
unfoldable pub fields_into : (image : List ℕ) (known left to at : ℕ) → List ℕ → Filled (Result ℕ Refusal)
fields_into image known zero to at t = filled (Ok at) t
fields_into image known (suc left) to at t =
    on_read (below fault.Unknown known image at) t (λ n next. fields_into image known left (to + 1) next (set t to n))

-- a struct, its field count at `to`
unfoldable pub struct_into : (image : List ℕ) (known to at : ℕ) → List ℕ → Filled (Result ℕ Refusal)
struct_into image known to at t =
    on_read (below fault.Limit 17 image at) t
    (λ count next. choose (eqb count 0)
    (λ _. filled (Err (refusal fault.Limit at)) t)
    (λ _. fields_into image known count (to + 1) next (set t to count)))

-- `left` structs, the first of them at `to`
unfoldable pub structs_into : (image : List ℕ) (known left to at : ℕ) → List ℕ → Filled (Result ℕ Refusal)
structs_into image known zero to at t = filled (Ok at) t
structs_into image known (suc left) to at t =
    on_filled (struct_into image known to at t) (λ next t'. structs_into image known left (to + 17) next t')

-- the code is among these
abbrev pub among : ℕ → List ℕ → Bool
among code cs = list_any (λ c. c == code) cs

-- `left` pointer types, the first of them at its own number
unfoldable pub types_into : (image : List ℕ) (S left own at : ℕ) → List ℕ → Filled (Result ℕ Refusal)
types_into image S zero own at t = filled (Ok at) t
types_into image S (suc left) own at t =
    on_read (mapped packed (read_entry image S own at)) t
    (λ code next. choose (among code (take own t))
    (λ _. filled (Err (refusal fault.Repeat at)) t)
    (λ _. types_into image S left (own + 1) next (set t own code)))

-- a cell, its word type told by its number
abbrev pub cell_row : (address value number : ℕ) → CellRow
cell_row address value n = record { address = address; value = value; number = n }

unfoldable pub read_row : (image : List ℕ) (words known before at : ℕ) → Parsed CellRow
read_row image words known before at =
    then_read (read_address image words before at)
    (λ address at₁. then_read (number image at₁)
    (λ value at₂. then_read (below fault.Unknown known image at₂)
    (λ n at₃. got (cell_row address value n) at₃)))

-- the table with a cell in row i
abbrev pub cell_set : List ℕ → (i address value code : ℕ) → List ℕ
cell_set t i address value code = row_stored 3 t i (address ∷ value ∷ code ∷ [])

-- `left` cells behind the address `before`, the first of them in row i
unfoldable pub cells_into : (image : List ℕ) (words : ℕ) (types : List ℕ) (known left before i at : ℕ) → List ℕ → Filled (Result ℕ Refusal)
cells_into image words types known zero before i at t = filled (Ok at) t
cells_into image words types known (suc left) before i at t =
    on_read (read_row image words known before at) t
    (λ c next.
    cells_into image words types known left c.address (i + 1) next (cell_set t i c.address c.value (get_or types c.number 0)))

-- the count of cells and the cells
unfoldable pub placed_into : (image : List ℕ) (words : ℕ) (types : List ℕ) (known at : ℕ) → List ℕ → Filled (Result (Read ℕ) Refusal)
placed_into image words types known at t =
    on_read (below fault.Limit 4097 image at) t
    (λ C next. on_filled (cells_into image words types known C 0 0 next t) (λ end t'. filled (Ok (with_next C end)) t'))

-- the counts of structs and pointer types
abbrev pub table_counts : (structs types : ℕ) → TableCounts
table_counts S T = record { structs = S; types = T }

unfoldable pub counts_at : (image : List ℕ) (at : ℕ) → Parsed TableCounts
counts_at image at =
    then_read (below fault.Limit 33 image at)
    (λ S at₁. then_read (below fault.Limit 256 image at₁) (λ T at₂. got (table_counts S T) at₂))

-- the answer and the tables of structs and types
pub record TablesFilled : Type 0 where
  pub result : Result (Read TableCounts) Refusal
  pub structs : List ℕ
  pub types : List ℕ

abbrev pub tabled : Result (Read TableCounts) Refusal → List ℕ → List ℕ → TablesFilled
tabled r ss ts = record { result = r; structs = ss; types = ts }

abbrev pub types_after : TableCounts → (ss : List ℕ) → Filled (Result ℕ Refusal) → TablesFilled
types_after c ss f = on_answer f.result (λ q. tabled (Err q) ss f.table) (λ end. tabled (Ok (with_next c end)) ss f.table)

abbrev pub structs_after : (image : List ℕ) → TableCounts → (ts : List ℕ) → Filled (Result ℕ Refusal) → TablesFilled
structs_after image c ts f =
    on_answer f.result
    (λ q. tabled (Err q) f.table ts)
    (λ next. types_after c f.table (types_into image c.structs c.types 1 next (set ts 0 1)))

-- the counts and both tables; type 0 is int
unfoldable pub tables_into : (image : List ℕ) (at : ℕ) (structs types : List ℕ) → TablesFilled
tables_into image at ss ts =
    on_answer (told (counts_at image at))
    (λ q. tabled (Err q) ss ts)
    (λ c. structs_after image c.value ts (structs_into image (c.value.types + 1) c.value.structs 0 c.next ss))

-- the answer and the tables of structs, types and cells
pub record FrontFilled : Type 0 where
  pub result : Result (Read Opening) Refusal
  pub structs : List ℕ
  pub types : List ℕ
  pub cells : List ℕ

abbrev pub fronted : Result (Read Opening) Refusal → List ℕ → List ℕ → List ℕ → FrontFilled
fronted r ss ts cs = record { result = r; structs = ss; types = ts; cells = cs }

abbrev pub opening : Format → TableCounts → (cells : ℕ) → Opening
opening m c C = record { format = m; counts = c; cells = C }

abbrev pub cells_after : Format → TableCounts → (ss ts : List ℕ) → Filled (Result (Read ℕ) Refusal) → FrontFilled
cells_after m c ss ts f =
    on_answer f.result
    (λ q. fronted (Err q) ss ts f.table)
    (λ C. fronted (Ok (with_next (opening m c C.value) C.next)) ss ts f.table)

abbrev pub tables_after : (words : ℕ) (image : List ℕ) (cells : List ℕ) → Format → TablesFilled → FrontFilled
tables_after words image cs m f =
    on_answer f.result
    (λ q. fronted (Err q) f.structs f.types cs)
    (λ c. cells_after m c.value f.structs f.types (placed_into image words f.types (c.value.types + 1) c.next cs))

-- all that stands before the expression
unfoldable pub front_into : (words : ℕ) (image : List ℕ) (structs types cells : List ℕ) → FrontFilled
front_into words image ss ts cs =
    choose (ltb 16384 (length image)) (λ _. fronted (Err (refusal fault.Limit 0)) ss ts cs) λ _.
    on_answer (told (read_format image))
    (λ q. fronted (Err q) ss ts cs)
    (λ m. tables_after words image cs m.value (tables_into image m.next ss ts))
