-- A node goes into the rows as the definition reads it: by its operation, if its parts do.
use Prim.Native.Nat.{ℕ, zero, suc, ◌+◌, ◌≤◌, ◌<◌}
use mathlib.Core.Path.{◌≡◌, refl}
use mathlib.Core.Bool.{Bool, true}
use mathlib.Core.List.{List, [], ◌∷◌, map}
use native.Mathlib.Omega.{arith}
use lib.ListN.{length, get_or}
use Rattle.cells.specs.Code.{packed, Small}
use Rattle.cells.specs.declared.Mode.TheVariants.{Checked}
use Rattle.cells.specs.declared.Kind.{Kind}
use Rattle.cells.specs.declared.Kind.TheVariants.{Int}
use Rattle.cells.proofs.Codes.{round_trip}
use Rattle.calculus.specs.Expr.{Expr, lit, var, malloc, one, nodes, One, unchecked, cast, read, field, inside, Target, pointer}
use Rattle.calculus.specs.declared.Operation.{Operation}
use Rattle.calculus.specs.declared.Operation.TheVariants as op
use Rattle.calculus.specs.declared.Fault.{Fault}
use Rattle.calculus.specs.declared.Fault.TheVariants as fault
use Rattle.tables.specs.Rows.{whole_rows, inside_mode, type_kind, work_of, apply}
use Rattle.tables.specs.declared.Task.{Task}
use Rattle.tables.specs.declared.Task.TheVariants as task
use Rattle.tables.proofs.Written.{literal_written, variable_written, malloc_written}
use Rattle.image.specs.Content.{Tables}
use Rattle.image.specs.Parsing.{Parsed, got, refused, then_read, number, below}
use Rattle.image.specs.Tables.{read_target}
use Rattle.image.specs.Nodes.{Head, leaf, part, read_kind, head_of, read_parts}
use Rattle.image.specs.Answers.{mapped, pointer_code}
use Rattle.image.specs.Tabling.{on_read}
use Rattle.image.proofs.KnownKinds.{entry_small, known_pointer}
use Rattle.reader.specs.Cursors.{reading_at}
use Rattle.reader.specs.Reads.{Reading, PartReader, literal_rows, variable_rows, malloc_rows, one_line, part_line, one_into, one_rows, operation_rows}
use Rattle.reader.specs.declared.PartLine.{PartLine}
use Rattle.reader.proofs.Cursors.{behind_is}
use Rattle.reader.proofs.Ending.{Ending, ending, ending_none, number_ending, below_ending, target_ending}
use Rattle.reader.proofs.Into.{StandsAt, RowRoom, IntoRows, stopped, leaf_into, one_into_lem}
use Rattle.reader.proofs.Parts.{EachPart, first_stands, act_into, let_into}

-- the kind of a word type, by the packed codes
code_there : (κs : List Kind) (n : ℕ) → get_or (map packed κs) n 1 ≡ packed (get_or κs n Int)
unfolding packed
code_there [] n = refl
code_there (κ ∷ κs) zero = refl
code_there (κ ∷ κs) (suc n) = code_there κs n

pub kind_there : (κs : List Kind) (n : ℕ) → Small (get_or κs n Int) → type_kind (map packed κs) n ≡ get_or κs n Int
kind_there κs n s = rw (code_there κs n) (round_trip s)

-- numbers that a node goes on behind, or stops at
module _ (image types : List ℕ) {t : List ℕ} {b : Bool} {i p at from : ℕ} where
  pub read_into : {A : Type 0} {P : A → Type 0} (r : Parsed A) (go : A → ℕ → Reading) (D : Parsed A → Parsed Expr)
      → ((f : Fault) (q : ℕ) → D (refused f q) ≡ refused f q) → Ending (length image) from P r
      → ((v : A) (next : ℕ) → from < next → next ≤ length image → P v → IntoRows image types t b i p at (go v next) (D (got v next)))
      → IntoRows image types t b i p at (on_read r t go) (D r)
  read_into (got v next) go D s (ending l w x) k = k v next l w x
  read_into (refused f q) go D s (ending_none w) k = rw (s f q) (stopped w refl)

  target_into : {P : Target → Type 0} (f : Target → ℕ) (r : Parsed Target) (go : ℕ → ℕ → Reading) (D : Parsed Target → Parsed Expr)
      → ((f : Fault) (q : ℕ) → D (refused f q) ≡ refused f q) → Ending (length image) from P r
      → ((ω : Target) (next : ℕ) → from < next → next ≤ length image → P ω → IntoRows image types t b i p at (go (f ω) next) (D (got ω next)))
      → IntoRows image types t b i p at (on_read (mapped f r) t go) (D r)
  target_into f (got ω next) go D s (ending l w x) k = k ω next l w x
  target_into f (refused g q) go D s (ending_none w) k = rw (s g q) (stopped w refl)

  line_into : {P : ℕ → Type 0} (part' : PartReader) (lets : ℕ) (inside : Bool) (r : Parsed ℕ) (line : ℕ → PartLine)
      (D : Parsed ℕ → Parsed Expr) → ((f : Fault) (q : ℕ) → D (refused f q) ≡ refused f q) → Ending (length image) from P r
      → ((v next : ℕ) → from < next → next ≤ length image → P v
      → IntoRows image types t b i p at (one_into part' lets inside (reading_at at i p) (got (line v) next) t) (D (got v next)))
      → IntoRows image types t b i p at (one_into part' lets inside (reading_at at i p) (then_read r (λ v next. got (line v) next)) t) (D r)
  line_into part' lets inside (got v next) line D s (ending l w x) k = k v next l w x
  line_into part' lets inside (refused f q) line D s (ending_none w) k = rw (s f q) (stopped w refl)

-- A node behind its code, where the tables are those of the image and each part goes into the rows.
module _ (image : List ℕ) (near : length image < 274877906944) (tables : Tables) (types_few : length tables.types ≤ 256)
    (structs_few : length tables.structs ≤ 256) (small : (n : ℕ) → Small (get_or tables.types n Int)) (deep : ℕ)
    (part' : PartReader) (get : ℕ → ℕ → ℕ → Parsed Expr) (each : EachPart image (map packed tables.types) deep part' get)
    (lets : ℕ) (b : Bool) (low : lets + suc deep < 128) (t : List ℕ) (i p at : ℕ)
    (at_node : StandsAt image i p at) (room : RowRoom image t) (more : i < 2048) where
  there : {next : ℕ} → at < next → next ≤ length image → p < whole_rows t
  there l w = let s = room.space (suc i) (omega arith) (omega (arith, at_node.passed)) in omega (arith, s, at_node.low)

  -- what the definition makes of a node's head
  abbrev Whole : Parsed Head → Parsed Expr
  Whole r = then_read r (λ h next. read_parts image tables get lets i h next)

  literal_in : (start : ℕ) → at < start → start ≤ length image
      → IntoRows image (map packed tables.types) t b i p at
      (literal_rows image (length tables.types) b (reading_at at i p) start t)
      (Whole (head_of image tables lets at op.Literal start))
  unfolding literal_rows head_of read_parts nodes
  literal_in start l w =
      read_into image (map packed tables.types) (number image start) _
      (λ r. Whole (then_read r (λ n at₁. then_read (read_kind image tables at₁) (λ κ at₂. got (leaf (lit n κ)) at₂))))
      (λ f q. refl) (number_ending image start w)
      (λ n at₁ l₁ w₁ x. read_into image (map packed tables.types) (below fault.Unknown (length tables.types) image at₁) _
      (λ r. Whole (then_read (then_read r (λ k next. got (get_or tables.types k Int) next)) (λ κ at₂. got (leaf (lit n κ)) at₂)))
      (λ f q. refl) (below_ending image at₁ w₁ (length tables.types))
      (λ k at₂ l₂ w₂ x₂. rw (behind_is at i p at₂ (omega arith) (omega arith))
      (leaf_into image (map packed tables.types) near b t i p at at_node room more
      (lit n (get_or tables.types k Int)) task.Literal k n refl (omega arith) w₂
      (literal_written (map packed tables.types) t b i p (there (omega arith) w₂) (omega arith) k n (omega arith)
      (kind_there tables.types k (small k))))))

  variable_in : (start : ℕ) → at < start → start ≤ length image
      → IntoRows image (map packed tables.types) t b i p at
      (variable_rows image lets b (reading_at at i p) start t)
      (Whole (head_of image tables lets at op.Variable start))
  unfolding variable_rows head_of read_parts nodes
  variable_in start l w =
      read_into image (map packed tables.types) (below fault.Unknown lets image start) _
      (λ r. Whole (then_read r (λ k at₁. got (leaf (var k)) at₁)))
      (λ f q. refl) (below_ending image start w lets)
      (λ k at₁ l₁ w₁ x. rw (behind_is at i p at₁ (omega arith) (omega arith))
      (leaf_into image (map packed tables.types) near b t i p at at_node room more (var k) task.Variable k 0 refl (omega arith) w₁
      (variable_written (map packed tables.types) t b i p (there (omega arith) w₁) (omega arith) k (omega arith))))

  malloc_in : (start : ℕ) → at < start → start ≤ length image
      → IntoRows image (map packed tables.types) t b i p at
      (malloc_rows image (length tables.types) (length tables.structs) b (reading_at at i p) start t)
      (Whole (head_of image tables lets at op.Malloc start))
  unfolding malloc_rows head_of read_parts nodes
  malloc_in start l w =
      target_into image (map packed tables.types) (pointer_code Checked) (read_target image (length tables.structs) (length tables.types) start) _
      (λ r. Whole (then_read r (λ ω at₁. got (leaf (malloc ω)) at₁)))
      (λ f q. refl) (target_ending image start w (length tables.structs) (length tables.types))
      (λ ω at₁ l₁ w₁ x. rw (behind_is at i p at₁ (omega arith) (omega arith))
      (leaf_into image (map packed tables.types) near b t i p at at_node room more
      (malloc ω) task.Malloc 0 (packed (pointer Checked ω)) refl (omega arith) w₁
      (malloc_written (map packed tables.types) t b i p (there (omega arith) w₁) (omega arith) ω
      (entry_small structs_few types_few (known_pointer Checked x)))))

  -- a node with one part, which starts at `next`
  one_in : (o : One) (k : Task) (slot datum : ℕ) (b' : Bool) (next : ℕ)
      → slot < 512 → work_of (map packed tables.types) k slot datum ≡ apply o → inside_mode b' ≡ inside o (inside_mode b)
      → at < next → next ≤ length image
      → IntoRows image (map packed tables.types) t b i p at
      (one_into part' lets b (reading_at at i p) (got (one_line k slot datum b') next) t)
      (then_read (get lets (suc i) next) (λ e m. got (one o e) m))
  one_in o k slot datum b' next s work mode l w =
      rw (behind_is at i p next (omega arith) (omega arith))
      (one_into_lem image (map packed tables.types) near b t i p at at_node room more {o = o} {r = get lets (suc i) next} k slot datum s work mode l
      (each.goes lets b' (suc i) p next t (omega arith)
      (first_stands image (map packed tables.types) near deep part' get each lets b low t i p at at_node room more l w) room))

  cast_in : (start : ℕ) → at < start → start ≤ length image
      → IntoRows image (map packed tables.types) t b i p at
      (one_rows image (length tables.types) part' lets b (reading_at at i p) op.Cast start t)
      (Whole (head_of image tables lets at op.Cast start))
  unfolding one_rows part_line head_of read_parts
  cast_in start l w =
      line_into image (map packed tables.types) part' lets b
      (below fault.Unknown (length tables.types) image start) (λ n. one_line task.Cast n 0 b)
      (λ r. Whole (then_read (then_read r (λ n next. got (get_or tables.types n Int) next)) (λ κ at₁. got (part (cast κ)) at₁)))
      (λ f q. refl) (below_ending image start w (length tables.types))
      (λ n next l₁ w₁ x. one_in (cast (get_or tables.types n Int)) task.Cast n 0 b next (omega arith)
      (rw (kind_there tables.types n (small n))) refl (omega arith) w₁)

  field_in : (start : ℕ) → at < start → start ≤ length image
      → IntoRows image (map packed tables.types) t b i p at
      (one_rows image (length tables.types) part' lets b (reading_at at i p) op.Field start t)
      (Whole (head_of image tables lets at op.Field start))
  unfolding one_rows part_line head_of read_parts
  field_in start l w =
      line_into image (map packed tables.types) part' lets b (number image start) (λ f. one_line task.Field 0 f b)
      (λ r. Whole (then_read r (λ f at₁. got (part (field f)) at₁)))
      (λ f q. refl) (number_ending image start w)
      (λ f next l₁ w₁ x. one_in (field f) task.Field 0 f b next (omega arith) refl refl (omega arith) w₁)

  -- each node behind its code, and an unknown one
  pub operation_in : (o : Operation) (start : ℕ) → at < start → start ≤ length image
      → IntoRows image (map packed tables.types) t b i p at
      (operation_rows image (length tables.types) (length tables.structs) part' lets b (reading_at at i p) o start t)
      (Whole (head_of image tables lets at o start))
  unfolding one_rows part_line head_of read_parts
  operation_in op.Literal start l w = literal_in start l w
  operation_in op.Variable start l w = variable_in start l w
  operation_in op.Let start l w = let_into image (map packed tables.types) near deep part' get each lets b low t i p at at_node room more start l w
  operation_in op.Malloc start l w = malloc_in start l w
  operation_in op.Unchecked start l w = one_in unchecked task.Unchecked 0 0 true start (omega arith) refl refl l w
  operation_in op.Cast start l w = cast_in start l w
  operation_in op.Read start l w = one_in read task.Read 0 0 b start (omega arith) refl refl l w
  operation_in (op.Acts o) start l w = act_into image (map packed tables.types) near deep part' get each lets b low t i p at at_node room more o start l w
  operation_in op.Field start l w = field_in start l w
  operation_in op.Unknown start l w = stopped at_node.within refl
