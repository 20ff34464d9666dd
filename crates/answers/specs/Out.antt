-- An answer as six numbers, for a host in another language: what stands at the front of the lent numbers.
use Rattle.std.specs.Prelude.{ℕ, Bool, true, false, List, [], ◌∷◌, ◌++◌, ltb, length, drop, Ok, Err}
use Rattle.choice.specs.Choice.{choose}
use Rattle.cells.specs.Code.{packed}
use Rattle.calculus.specs.Answers.{fault_number, end_number, end_value, end_kind}
use Rattle.answers.specs.Answer.{Answer}

-- 0, the fault's number and its place; or 1, the end's number, the value, its kind's code, the steps and the first unchecked one
unfoldable pub out_numbers : Answer → List ℕ
out_numbers (Err r) = 0 ∷ fault_number r.fault ∷ r.place ∷ 0 ∷ 0 ∷ 0 ∷ []
out_numbers (Ok o) = 1 ∷ end_number o.end ∷ end_value o.end ∷ packed (end_kind o.end) ∷ o.steps ∷ o.first ∷ []

-- whether numbers were written, and the lent numbers afterwards
pub record Numbered : Type 0 where
  pub done : Bool
  pub out : List ℕ

abbrev pub unnumbered : List ℕ → Numbered
unnumbered ws = record { done = false; out = ws }

-- six numbers at the front, the rest as it was; lent numbers that are fewer stay as they were
abbrev pub numbered_six : List ℕ → (six : List ℕ) → Numbered
numbered_six ws six = choose (ltb (length ws) 6) (λ _. unnumbered ws) (λ _. record { done = true; out = six ++ drop 6 ws })

abbrev pub numbered : List ℕ → Answer → Numbered
numbered ws answer = numbered_six ws (out_numbers answer)
