-- What the runner prints for its standard input.
use Rattle.std.specs.Prelude.{ℕ, List, [], ◌∷◌, ◌++◌, replicate}
use Rattle.answers.specs.Line.{line}
use Rattle.codlinbell.specs.Answered.{answered, default_limit}

-- "The runner program reads standard input, uses W = 1,024 and prints one line"
unfoldable pub printed : (input : List ℕ) → List ℕ
printed input = line (answered input (replicate 2048 0) default_limit).answer ++ 10 ∷ []
