-- A line's bytes written into lent ones: past their end nothing is written, and the offset behind them counts every byte.
use Rattle.std.specs.Prelude.{ℕ, ◌+◌, List, length}
use Rattle.std.proofs.lemmas.List.Edits.{sets}
use Rattle.answers.specs.declared.line.Line.{Line}

-- the line after `bytes` more
unfoldable pub wrote : Line → List ℕ → Line
wrote l bytes = record { out = record l.out { now = sets l.out.now l.at bytes }; at = l.at + length bytes }
