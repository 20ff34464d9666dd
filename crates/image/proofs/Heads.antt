-- Of a node's head as it goes into its row: where one is read, a node more may be read.
-- Assumes nothing.
use mathlib.Core.Path.{◌≡◌, sym, ◌∙◌, ap}
use mathlib.Core.List.{List}
use Prim.Native.Nat.{ℕ, ◌<◌}
use Rattle.std.proofs.Common.{Result, Ok}
use Rattle.numbers.specs.declared.Read.{Read}
use Rattle.calculus.specs.declared.Refusal.{Refusal}
use Rattle.image.specs.Answers.{with_next}
use Rattle.image.specs.Filled.{filled}
use Rattle.image.specs.Filling.{Headed, head_into}
use Rattle.image.specs.declared.Parts.{Parts}
use Rattle.image.proofs.AnswerBounds.{head_small}

module _ (image types : List ℕ) (structs lets i at : ℕ) (t : List ℕ) {r : Result (Read Parts) Refusal} {t' : List ℕ} {p : Parts} {next : ℕ}
    (e : filled r t' ≡ head_into image types structs lets i at t) (q : r ≡ Ok (with_next p next)) where
  told_result : (head_into image types structs lets i at t).result ≡ Ok (with_next p next)
  told_result = sym (ap (λ (f : Headed). f.result) e) ∙ q

  -- where a head was read there is room for it
  pub head_few : i < 2048
  head_few = rw told_result at (head_small image types structs lets i at t).1
