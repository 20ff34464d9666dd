-- What an image is answered with.
use Rattle.std.specs.Prelude.{Result}
use Rattle.calculus.specs.declared.Outcome.{Outcome}
use Rattle.calculus.specs.declared.Refusal.{Refusal}

-- it was run to an outcome, or it is refused
abbrev pub Answer : Type 0
Answer = Result Outcome Refusal
