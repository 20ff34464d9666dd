-- One turn of each reader that writes a table: what the loops of the code go by.
-- Assumes nothing.
use mathlib.Core.Path.{◌≡◌, sym, ◌∙◌}
use mathlib.Core.Bool.{true}
use mathlib.Core.List.{List}
use Prim.Native.Nat.{ℕ, suc, ◌+◌, ◌-◌, ◌<◌, ◌≤◌}
use native.Mathlib.Omega.{arith}
use lib.ListN.{length, get_or, set, take}
use Rattle.std.specs.Prelude.{Result}
use Rattle.std.proofs.Common.{Ok, Err}
use Rattle.choice.specs.Choice.{choose}
use Rattle.cells.specs.Code.{packed}
use Rattle.calculus.specs.declared.Fault.{Fault}
use Rattle.calculus.specs.declared.Fault.TheVariants as fault
use Rattle.calculus.specs.declared.Refusal.{Refusal}
use Rattle.image.specs.Parsing.{got, refused, below}
use Rattle.image.specs.Tables.{read_entry}
use Rattle.image.specs.Answers.{refusal, mapped}
use Rattle.image.specs.Filled.{Filled, filled}
use Rattle.image.specs.Tabling.{on_read, on_filled, fields_into, struct_into, structs_into, among, types_into, read_row, cell_set, cells_into}

-- a loop that fills a table: what the whole gives is what the rest gives, and the table keeps its length
pub record Going (whole rest : Filled (Result ℕ Refusal)) (entry table : List ℕ) : Type 0 where
  pub same : whole ≡ rest
  pub long : length table ≡ length entry

pub is_suc : (n : ℕ) → 0 < n → n ≡ suc (n - 1)
is_suc n h = omega arith

pub is_zero : (n : ℕ) → n ≤ 0 → n ≡ 0
is_zero n h = omega arith

-- the end of a loop
pub ended : {whole rest : Filled (Result ℕ Refusal)} {entry table : List ℕ} {end : Filled (Result ℕ Refusal)} → Going whole rest entry table
    → rest ≡ end → end ≡ whole
ended m e = sym (m.same ∙ e)

-- a turn
pub going_turned : {whole rest next : Filled (Result ℕ Refusal)} {entry table table' : List ℕ} → Going whole rest entry table → rest ≡ next
    → length table' ≡ length table → Going whole next entry table'
going_turned m e l = record { same = m.same ∙ e; long = l ∙ m.long }

module _ (image : List ℕ) (known left to at : ℕ) (t : List ℕ) where
  pub fields_done : left ≡ 0 → fields_into image known left to at t ≡ filled (Ok at) t
  unfolding fields_into
  fields_done z = rw z

  pub structs_done : left ≡ 0 → structs_into image known left to at t ≡ filled (Ok at) t
  unfolding structs_into
  structs_done z = rw z

  module _ (l : ℕ) (s : left ≡ suc l) where
    pub fields_refused : {f : Fault} {p : ℕ} → below fault.Unknown known image at ≡ refused f p
        → fields_into image known left to at t ≡ filled (Err (refusal f p)) t
    unfolding fields_into
    fields_refused e = rw (s, e)

    pub structs_refused : {r : Result ℕ Refusal} {t' : List ℕ} → filled r t' ≡ struct_into image known to at t → {q : Refusal} → r ≡ Err q
        → structs_into image known left to at t ≡ filled (Err q) t'
    unfolding structs_into
    structs_refused e p = rw (s, ← e, p)

module _ (image : List ℕ) (known left to at : ℕ) (t : List ℕ) (h : 0 < left) where
  pub fields_turn : fields_into image known left to at t
      ≡ on_read (below fault.Unknown known image at) t (λ n next. fields_into image known (left - 1) (to + 1) next (set t to n))
  unfolding fields_into
  fields_turn = go (left - 1) (is_suc left h)
    where
      go : (l : ℕ) → left ≡ suc l → fields_into image known left to at t
          ≡ on_read (below fault.Unknown known image at) t (λ n next. fields_into image known l (to + 1) next (set t to n))
      go l e = rw e

  pub structs_turn : structs_into image known left to at t
      ≡ on_filled (struct_into image known to at t) (λ next t'. structs_into image known (left - 1) (to + 17) next t')
  unfolding structs_into
  structs_turn = go (left - 1) (is_suc left h)
    where
      go : (l : ℕ) → left ≡ suc l → structs_into image known left to at t
          ≡ on_filled (struct_into image known to at t) (λ next t'. structs_into image known l (to + 17) next t')
      go l e = rw e

module _ (image : List ℕ) (S left own at : ℕ) (t : List ℕ) where
  pub types_done : left ≡ 0 → types_into image S left own at t ≡ filled (Ok at) t
  unfolding types_into
  types_done z = rw z

  module _ (l : ℕ) (s : left ≡ suc l) where
    pub types_repeat : {code next : ℕ} → mapped packed (read_entry image S own at) ≡ got code next → among code (take own t) ≡ true
        → types_into image S left own at t ≡ filled (Err (refusal fault.Repeat at)) t
    unfolding types_into
    types_repeat e n = rw (s, e, n)

    pub types_refused : {f : Fault} {p : ℕ} → mapped packed (read_entry image S own at) ≡ refused f p
        → types_into image S left own at t ≡ filled (Err (refusal f p)) t
    unfolding types_into
    types_refused e = rw (s, e)

module _ (image : List ℕ) (S left own at : ℕ) (t : List ℕ) (h : 0 < left) where
  pub types_turn : types_into image S left own at t
      ≡ on_read (mapped packed (read_entry image S own at)) t
      (λ code next. choose (among code (take own t))
      (λ _. filled (Err (refusal fault.Repeat at)) t)
      (λ _. types_into image S (left - 1) (own + 1) next (set t own code)))
  unfolding types_into
  types_turn = go (left - 1) (is_suc left h)
    where
      go : (l : ℕ) → left ≡ suc l → types_into image S left own at t
          ≡ on_read (mapped packed (read_entry image S own at)) t
          (λ code next. choose (among code (take own t))
          (λ _. filled (Err (refusal fault.Repeat at)) t)
          (λ _. types_into image S l (own + 1) next (set t own code)))
      go l e = rw e

module _ (image : List ℕ) (words : ℕ) (types : List ℕ) (known left before i at : ℕ) (t : List ℕ) where
  pub cells_done : left ≡ 0 → cells_into image words types known left before i at t ≡ filled (Ok at) t
  unfolding cells_into
  cells_done z = rw z

  module _ (l : ℕ) (s : left ≡ suc l) where
    pub cells_refused : {f : Fault} {p : ℕ} → read_row image words known before at ≡ refused f p
        → cells_into image words types known left before i at t ≡ filled (Err (refusal f p)) t
    unfolding cells_into
    cells_refused e = rw (s, e)

module _ (image : List ℕ) (words : ℕ) (types : List ℕ) (known left before i at : ℕ) (t : List ℕ) (h : 0 < left) where
  pub cells_turn : cells_into image words types known left before i at t
      ≡ on_read (read_row image words known before at) t
      (λ c next.
      cells_into image words types known (left - 1) c.address (i + 1) next (cell_set t i c.address c.value (get_or types c.number 0)))
  unfolding cells_into
  cells_turn = go (left - 1) (is_suc left h)
    where
      go : (l : ℕ) → left ≡ suc l → cells_into image words types known left before i at t
          ≡ on_read (read_row image words known before at) t
          (λ c next.
          cells_into image words types known l c.address (i + 1) next (cell_set t i c.address c.value (get_or types c.number 0)))
      go l e = rw e
