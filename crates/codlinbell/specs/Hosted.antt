-- What a host in another language finds: whether its image was answered, the lent heap, and the six numbers.
use Rattle.std.specs.Prelude.{ℕ, Bool, true, false, List, ◌++◌, ltb, length, drop}
use Rattle.choice.specs.Choice.{choose}
use Rattle.answers.specs.Out.{out_numbers}
use Rattle.codlinbell.specs.Answered.{answered}

-- what a host that lends a heap and numbers for the answer finds
pub record Hosted : Type 0 where
  pub done : Bool
  pub heap : List ℕ
  pub out : List ℕ

-- where the answer's six numbers have no room, nothing is done
unfoldable pub hosted : (image ws : List ℕ) (limit : ℕ) (out : List ℕ) → Hosted
hosted image ws limit out =
    choose (ltb (length out) 6) (λ _. record { done = false; heap = ws; out = out })
    (λ _. record {
      done = true;
      heap = (answered image ws limit).heap;
      out = out_numbers (answered image ws limit).answer ++ drop 6 out;
    })
