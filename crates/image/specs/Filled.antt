-- A reader that writes a lent table, as a function of the table: what it answers, and what the table then holds.
use Rattle.std.specs.Prelude.{ℕ, ◌*◌, ◌/◌, List, ltb, length}
use Rattle.std.proofs.lemmas.List.Edits.{sets}
use Rattle.choice.specs.Choice.{choose}

pub record Filled (A : Type 0) : Type 0 where
  pub result : A
  pub table : List ℕ

abbrev pub filled : {A : Type 0} → A → List ℕ → Filled A
filled r t = record { result = r; table = t }

-- go on with the answer and the table
abbrev pub then_fill : {A B : Type 0} → Filled A → (A → List ℕ → Filled B) → Filled B
then_fill f go = go f.result f.table

-- row i of a table whose rows have that width; where the table has no room for the whole row nothing changes
unfoldable pub row_stored : (width : ℕ) (t : List ℕ) (i : ℕ) (row : List ℕ) → List ℕ
row_stored width t i row = choose (ltb i (length t / width)) (λ _. sets t (width * i) row) (λ _. t)
