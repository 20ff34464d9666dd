-- The reading that an answer gives.
use Rattle.std.specs.Prelude.{ℕ, Option, Some, None, Ok, Err}
use Rattle.calculus.specs.declared.End.{End}
use Rattle.calculus.specs.declared.End.TheVariants.{Value, Halted, Stuck, More}
use Rattle.answers.specs.Answer.{Answer}

-- "a Value gives its number as the reading. Every other end gives none."
abbrev pub end_reading : End → Option ℕ
end_reading (Value c) = Some c.value
end_reading (Halted h) = None
end_reading Stuck = None
end_reading More = None

abbrev pub reading_of : Answer → Option ℕ
reading_of (Err r) = None
reading_of (Ok o) = end_reading o.end
