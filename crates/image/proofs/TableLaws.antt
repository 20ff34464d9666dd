-- Of the counts that were read: they are within the limits, also as the code was answered them, and end behind their first byte.
-- Assumes nothing.
use mathlib.Core.Path.{◌≡◌, sym, ◌∙◌, ap}
use mathlib.Core.List.{List}
use Prim.Native.Nat.{ℕ, ◌<◌, ◌≤◌}
use native.Mathlib.Omega.{arith}
use lib.ListN.{length}
use Rattle.std.proofs.Common.{Result, Ok}
use Rattle.numbers.specs.declared.Read.{Read}
use Rattle.calculus.specs.declared.Fault.TheVariants as fault
use Rattle.calculus.specs.declared.Refusal.{Refusal}
use Rattle.image.specs.Parsing.{below}
use Rattle.image.specs.Answers.{with_next, told}
use Rattle.image.specs.Tabling.{table_counts, counts_at, TablesFilled, tabled, tables_into, FrontFilled, fronted, opening, front_into}
use Rattle.image.specs.declared.Format.{Format}
use Rattle.image.specs.declared.TableCounts.{TableCounts}
use Rattle.image.specs.declared.Opening.{Opening}
use Rattle.image.proofs.Gives.{Gives, gives, gives_then}
use Rattle.image.proofs.Numbers.{below_gives, value_of_lem}
use Rattle.image.proofs.AnswerBounds.{tables_small, front_small}

-- the two counts, read at `at`
pub record Limits (image : List ℕ) (at : ℕ) (c : TableCounts) (next : ℕ) : Type 0 where
  pub behind : at < next
  pub within : next ≤ length image
  pub few_structs : c.structs ≤ 32
  pub few_types : c.types ≤ 255

pub counts_give : (image : List ℕ) (at : ℕ) → Gives (Limits image at) (counts_at image at)
unfolding counts_at
counts_give image at =
    gives_then (below fault.Limit 33 image at) _ (below_gives fault.Limit 33 image at)
    (λ S at₁ s. gives_then (below fault.Limit 256 image at₁) _ (below_gives fault.Limit 256 image at₁)
    (λ T at₂ t. gives (limits S T at₁ at₂ s.behind t.behind t.within s.limited_by t.limited_by)))
  where
    limits : (S T at₁ at₂ : ℕ) → at < at₁ → at₁ < at₂ → at₂ ≤ length image → S < 33 → T < 256 → Limits image at (table_counts S T) at₂
    limits S T at₁ at₂ p q w a b = record { behind = omega arith; within = w; few_structs = omega arith; few_types = omega arith }

-- what the code knows of counts that it was answered
pub counts_value : (image : List ℕ) (at : ℕ) {l : Result (Read TableCounts) Refusal} {S T next : ℕ} → l ≡ told (counts_at image at)
    → l ≡ Ok (with_next (table_counts S T) next) → (S ≤ 32) × (T ≤ 255)
counts_value image at e p = let s = value_of_lem (counts_at image at) (counts_give image at) (sym e ∙ p) in (s.few_structs, s.few_types)

-- what the code knows of the counts of tables that were read
pub tables_value : (image : List ℕ) (at : ℕ) (ss ts : List ℕ) {l : Result (Read TableCounts) Refusal} {ss' ts' : List ℕ} {S T next : ℕ}
    → tabled l ss' ts' ≡ tables_into image at ss ts → l ≡ Ok (with_next (table_counts S T) next) → (S ≤ 32) × (T ≤ 255)
tables_value image at ss ts {S = S} {T} {next} e p =
    let r : (tables_into image at ss ts).result ≡ Ok (with_next (table_counts S T) next) = sym (ap (λ (f : TablesFilled). f.result) e) ∙ p in
    rw r at (tables_small image at ss ts).1

-- the same of all that stands before the expression
pub front_value : (words : ℕ) (image ss ts cs : List ℕ) {l : Result (Read Opening) Refusal} {ss' ts' cs' : List ℕ} {m : Format} {S T C next : ℕ}
    → fronted l ss' ts' cs' ≡ front_into words image ss ts cs → l ≡ Ok (with_next (opening m (table_counts S T) C) next) → (S ≤ 32) × (T ≤ 255)
front_value words image ss ts cs {m = m} {S} {T} {C} {next} e p =
    let r : (front_into words image ss ts cs).result ≡ Ok (with_next (opening m (table_counts S T) C) next) =
    sym (ap (λ (f : FrontFilled). f.result) e) ∙ p in
    rw r at (front_small words image ss ts cs).1
