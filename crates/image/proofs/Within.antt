-- Every offset and every place that a reading tells lies within the image, if it starts within it: of numbers, targets, and the
-- expression as it goes into the node table. The measure of the last is the depth.
-- Assumes nothing.
use mathlib.Core.Path.{◌≡◌, refl, ap}
use mathlib.Core.Bool.{Bool, true, false}
use mathlib.Core.List.{List}
use Prim.Native.Nat.{ℕ, zero, suc, ◌+◌, ◌*◌, ◌≤◌}
use native.Mathlib.Omega.{arith}
use lib.Dec.{eqb, leb, ltb}
use lib.ListN.{length, set}
use Rattle.choice.specs.Choice.{choose, choose_case}
use Rattle.std.proofs.Common.{Result, Ok, Err, MatchResult}
use Rattle.numbers.specs.Reading.{Number, number_at}
use Rattle.numbers.specs.Width.{bits32}
use Rattle.numbers.specs.declared.Read.{Read}
use Rattle.numbers.specs.declared.Unread.TheVariants.{Ends, Unfit}
use Rattle.cells.specs.declared.Mode.TheVariants.{Checked}
use Rattle.numbers.proofs.Laws.{number_sound, number_ends, number_unfit}
use Rattle.calculus.specs.Operations.{operation_of}
use Rattle.calculus.specs.declared.Operation.{Operation}
use Rattle.calculus.specs.declared.Operation.TheVariants as op
use Rattle.calculus.specs.declared.Fault.{Fault}
use Rattle.calculus.specs.declared.Fault.TheVariants as fault
use Rattle.calculus.specs.declared.Refusal.{Refusal}
use Rattle.image.specs.Parsing.{Parsed, got, refused, then_read, as_reading, number, below}
use Rattle.image.specs.Tables.{read_target}
use Rattle.image.specs.Answers.{with_next, mapped, pointer_code}
use Rattle.image.specs.Filled.{Filled, filled}
use Rattle.image.specs.Tabling.{on_read, on_filled}
use Rattle.image.specs.Filling.{Headed, Noded, kind_code, literal, line_of, lets_inside, head_into, parts_into, node_into}
use Rattle.image.specs.declared.Parts.{Parts}
use Rattle.image.specs.declared.Parts.TheVariants.{Leaf, One, Two}

-- the offset behind what was read, or the fault's place, is at most `limit`
pub data Within (limit : ℕ) {A : Type 0} : Parsed A → Type 0 where
  within : {a : A} {next : ℕ} → next ≤ limit → Within limit (got a next)
  within_refused : {f : Fault} {p : ℕ} → p ≤ limit → Within limit (refused f p)

pub within_then : {limit : ℕ} {A B : Type 0} (r : Parsed A) (go : A → ℕ → Parsed B)
    → Within limit r → ((a : A) (next : ℕ) → next ≤ limit → Within limit (go a next)) → Within limit (then_read r go)
within_then (got a next) go (within h) k = k a next h
within_then (refused f p) go (within_refused h) k = within_refused h

pub within_test : {limit : ℕ} {A : Type 0} (t : Bool) (a b : Unit {0} → Parsed A)
    → Within limit (a tt) → Within limit (b tt) → Within limit (choose t a b)
within_test true a b p q = p
within_test false a b p q = q

within_mapped : {limit : ℕ} {A B : Type 0} (f : A → B) (r : Parsed A) → Within limit r → Within limit (mapped f r)
within_mapped f (got a next) (within h) = within h
within_mapped f (refused e p) (within_refused h) = within_refused h

module _ (image : List ℕ) where
  pub number_within : (at : ℕ) → at ≤ length image → Within (length image) (number image at)
  unfolding number
  number_within at h = go (number_at image at) refl
    where
      go : (r : Number) → number_at image at ≡ r → Within (length image) (as_reading r)
      go (Ok r) e = within (number_sound bits32 image at r.value r.next e).within
      go (Err (Ends p)) e = within_refused {p = p} (omega (arith, number_ends bits32 image at p e))
      go (Err (Unfit p)) e = within_refused {p = p} (omega (arith, number_unfit bits32 image at p e))

  pub below_within : (f : Fault) (limit at : ℕ) → at ≤ length image → Within (length image) (below f limit image at)
  unfolding below
  below_within f limit at h =
      within_then (number image at) _ (number_within at h) (λ v next l. within_test (ltb v limit) _ _ (within l) (within_refused h))

  pub target_within : (S known at : ℕ) → at ≤ length image → Within (length image) (read_target image S known at)
  unfolding read_target
  target_within S known at h =
      within_then (below fault.Unknown 3 image at) _ (below_within fault.Unknown 3 at h)
      (λ kind next l.
      within_test (eqb kind 0) _ _
      (within_then (below fault.Unknown known image next) _ (below_within fault.Unknown known next l) (λ n at₁ m. within m))
      (within_test (eqb kind 1) _ _
      (within_then (below fault.Unknown S image next) _ (below_within fault.Unknown S next l) (λ s at₁ m. within m))
      (within_then (below fault.Limit 65536 image next) _ (below_within fault.Limit 65536 next l)
      (λ k at₁ m. within_then (below fault.Unknown known image at₁) _ (below_within fault.Unknown known at₁ m) (λ n at₂ o. within o)))))

-- the same of what is answered of a reading
abbrev pub ToldWithin : (limit : ℕ) {A : Type 0} → Result (Read A) Refusal → Type 0
ToldWithin limit r = MatchResult r (λ x. x.next ≤ limit) (λ q. q.place ≤ limit)

-- behind a part that writes nothing
read_then : {limit : ℕ} {A B : Type 0} (t : List ℕ) (r : Parsed A) (go : A → ℕ → Filled (Result (Read B) Refusal))
    → Within limit r → ((a : A) (next : ℕ) → next ≤ limit → ToldWithin limit (go a next).result) → ToldWithin limit (on_read r t go).result
read_then t (got a next) go (within h) k = k a next h
read_then t (refused f p) go (within_refused h) k = h

-- behind a part that writes the table
filled_then : {limit : ℕ} {A B : Type 0} (r : Result (Read A) Refusal) (t : List ℕ) (go : Read A → List ℕ → Filled (Result (Read B) Refusal))
    → ToldWithin limit r → ((x : Read A) (t' : List ℕ) → x.next ≤ limit → ToldWithin limit (go x t').result)
    → ToldWithin limit (on_filled (filled r t) go).result
filled_then (Ok x) t go h k = k x t h
filled_then (Err q) t go h k = h

parts_within : (limit : ℕ) (part : ℕ → ℕ → ℕ → List ℕ → Noded) (each : (lets i at : ℕ) (t : List ℕ) → at ≤ limit → ToldWithin limit (part lets i at t).result)
    → (lets i : ℕ) (p : Parts) (at : ℕ) (t : List ℕ) → at ≤ limit → ToldWithin limit (parts_into part lets i p at t).result
parts_within limit part each lets i Leaf at t h = h
parts_within limit part each lets i One at t h = each lets (i + 1) at t h
parts_within limit part each lets i (Two b) at t h =
    let f : Noded = part lets (i + 1) at t in
    filled_then f.result f.table
    (λ x t'. part (lets_inside lets b) x.value x.next (set t' (4 * i + 3) x.value))
    (each lets (i + 1) at t h)
    (λ x t' l. each (lets_inside lets b) x.value x.next (set t' (4 * i + 3) x.value) l)

module _ (image types : List ℕ) (structs : ℕ) where
  kind_within : (at : ℕ) → at ≤ length image → Within (length image) (kind_code image types at)
  unfolding kind_code
  kind_within at h = within_then (below fault.Unknown (length types) image at) _ (below_within image fault.Unknown (length types) at h) (λ n next l. within l)

  line_within : (lets first : ℕ) (o : Operation) (at : ℕ) → first ≤ length image → at ≤ length image
      → Within (length image) (line_of image types structs lets first o at)
  unfolding line_of literal
  line_within lets first op.Literal at f h =
      within_then (number image at) _ (number_within image at h)
      (λ n at₁ l. within_then (kind_code image types at₁) _ (kind_within at₁ l) (λ k at₂ m. within m))
  line_within lets first op.Variable at f h =
      within_then (below fault.Unknown lets image at) _ (below_within image fault.Unknown lets at h) (λ k at₁ l. within l)
  line_within lets first op.Let at f h = within h
  line_within lets first op.Malloc at f h =
      within_then (mapped (pointer_code Checked) (read_target image structs (length types) at)) _
      (within_mapped (pointer_code Checked) (read_target image structs (length types) at) (target_within image structs (length types) at h))
      (λ k at₁ l. within l)
  line_within lets first op.Unchecked at f h = within h
  line_within lets first op.Cast at f h = within_then (kind_code image types at) _ (kind_within at h) (λ k at₁ l. within l)
  line_within lets first op.Read at f h = within h
  line_within lets first (op.Acts o) at f h = within h
  line_within lets first op.Field at f h = within_then (number image at) _ (number_within image at h) (λ k at₁ l. within l)
  line_within lets first op.Unknown at f h = within_refused f

  head_within : (lets i at : ℕ) (t : List ℕ) → at ≤ length image → ToldWithin (length image) (head_into image types structs lets i at t).result
  unfolding head_into
  head_within lets i at t h =
      read_then t (number image at) _ (number_within image at h)
      (λ code next l. choose_case
      (λ (f : Headed). ToldWithin (length image) f.result) (leb 2048 i) _ _
      h
      (read_then t (line_of image types structs lets at (operation_of code) next) _ (line_within lets at (operation_of code) next h l) (λ row at₁ m. m)))

  pub node_within : (deep lets i at : ℕ) (t : List ℕ) → at ≤ length image
      → ToldWithin (length image) (node_into image types structs deep lets i at t).result
  unfolding node_into
  node_within zero lets i at t h = read_then t (number image at) _ (number_within image at h) (λ _ _ _. h)
  node_within (suc deep) lets i at t h =
      let f : Headed = head_into image types structs lets i at t in
      filled_then f.result f.table
      (λ x t'. parts_into (node_into image types structs deep) lets i x.value x.next t')
      (head_within lets i at t h)
      (λ x t' l. parts_within (length image) (node_into image types structs deep) (node_within deep) lets i x.value x.next t' l)

-- what the code knows of an offset or a place that it was answered
module _ (image types : List ℕ) (structs deep lets i at : ℕ) (t : List ℕ) (h : at ≤ length image) {r : Result (Read ℕ) Refusal} {t' : List ℕ}
    (e : filled r t' ≡ node_into image types structs deep lets i at t) where
  answer_within : ToldWithin (length image) r
  answer_within = rw (ap (λ (f : Noded). f.result) e) (node_within image types structs deep lets i at t h)

  pub read_within : {next count : ℕ} → r ≡ Ok (with_next count next) → next ≤ length image
  read_within q = rw q at answer_within

  pub refused_within : {q : Refusal} → r ≡ Err q → q.place ≤ length image
  refused_within q = rw q at answer_within
