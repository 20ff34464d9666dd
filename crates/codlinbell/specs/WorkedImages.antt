-- The worked images P1 to P14 with their variants, from bytes, as document 01 states them: image, words, limit, answer.
use Rattle.std.specs.Prelude.{ℕ, ◌*◌, List, [], ◌∷◌, replicate, Ok, Err}
use Rattle.cells.specs.declared.Mode.TheVariants.{Checked}
use Rattle.cells.specs.declared.Kind.TheVariants.{Int, Struct}
use Rattle.calculus.specs.Setting.{cell}
use Rattle.calculus.specs.declared.End.{End}
use Rattle.calculus.specs.declared.End.TheVariants.{Value, Halted, Stuck, More}
use Rattle.calculus.specs.declared.Halt.TheVariants.{Null, Bounds, Room}
use Rattle.calculus.specs.declared.Fault.{Fault}
use Rattle.calculus.specs.declared.Fault.TheVariants as fault
use Rattle.codlinbell.specs.Answered.{answered, default_limit}
use Rattle.answers.specs.Answer.{Answer}

-- a worked image: the heap's size in words, the limit, and the answer that document 01 states
pub record WorkedImage : Type 0 where
  pub image : List ℕ
  pub words : ℕ
  pub limit : ℕ
  pub stated : Answer

abbrev pub ran_to : End → (steps first : ℕ) → Answer
ran_to e n f = Ok (record { end = e; steps = n; first = f })

abbrev pub refused_with : Fault → ℕ → Answer
refused_with f p = Err (record { fault = f; place = p })

-- a row at W = 16 and the default limit
abbrev pub at_sixteen : List ℕ → Answer → WorkedImage
at_sixteen image stated = record { image = image; words = 16; limit = default_limit; stated = stated }

abbrev pub image_p2 : List ℕ
image_p2 = 0x01 ∷ 0x00 ∷ 0x00 ∷ 0x00 ∷ 0x02 ∷ 0x03 ∷ 0x02 ∷ 0x03 ∷ 0x00 ∷ 0x06 ∷ 0x08 ∷ 0x01 ∷ 0x00 ∷ 0x00 ∷ 0x02 ∷ 0x00 ∷ []

abbrev pub worked_images : List WorkedImage
worked_images =
    -- P1
    at_sixteen (0x01 ∷ 0x00 ∷ 0x00 ∷ 0x00 ∷ 0x00 ∷ 0x05 ∷ 0x00 ∷ []) (ran_to (Value (cell 5 Int)) 0 0)
    -- P2
    ∷ at_sixteen image_p2 (ran_to (Value (cell 0 Int)) 4 0)
    -- P2 at W = 3
    ∷ record { image = image_p2; words = 3; limit = default_limit; stated = ran_to (Value (cell 0 Int)) 4 0 }
    -- P2 at limit 3
    ∷ record { image = image_p2; words = 16; limit = 3; stated = ran_to More 3 0 }
    -- P3: P2, last two 03 00
    ∷ at_sixteen (0x01 ∷ 0x00 ∷ 0x00 ∷ 0x00 ∷ 0x02 ∷ 0x03 ∷ 0x02 ∷ 0x03 ∷ 0x00 ∷ 0x06 ∷ 0x08 ∷ 0x01 ∷ 0x00 ∷ 0x00 ∷ 0x03 ∷ 0x00 ∷ []) (ran_to (Halted Bounds) 4 0)
    -- P4: P2 at W = 2
    ∷ record { image = image_p2; words = 2; limit = default_limit; stated = ran_to (Halted Room) 1 0 }
    -- P5
    ∷ at_sixteen (0x01 ∷ 0x01 ∷ 0x01 ∷ 0x02 ∷ 0x00 ∷ 0x01 ∷ 0x00 ∷ 0x01 ∷ 0x00 ∷ 0x00 ∷ 0x02 ∷ 0x03 ∷ 0x01 ∷ 0x00 ∷ 0x07 ∷ 0x09 ∷ 0x01 ∷ 0x01 ∷ 0x00 ∷ 0x01 ∷ 0x00 ∷ []) (ran_to (Value (cell 1 (Struct Checked 0))) 4 0)
    -- P6
    ∷ at_sixteen (0x01 ∷ 0x01 ∷ 0x01 ∷ 0x02 ∷ 0x00 ∷ 0x01 ∷ 0x00 ∷ 0x01 ∷ 0x00 ∷ 0x02 ∷ 0x01 ∷ 0x00 ∷ 0x00 ∷ 0x01 ∷ 0x01 ∷ 0x01 ∷ 0x00 ∷ 0x01 ∷ 0x01 ∷ []) (ran_to (Value (cell 1 (Struct Checked 0))) 0 0)
    -- P7: P6, second cell 01 01 00
    ∷ at_sixteen (0x01 ∷ 0x01 ∷ 0x01 ∷ 0x02 ∷ 0x00 ∷ 0x01 ∷ 0x00 ∷ 0x01 ∷ 0x00 ∷ 0x02 ∷ 0x01 ∷ 0x00 ∷ 0x00 ∷ 0x01 ∷ 0x01 ∷ 0x00 ∷ 0x00 ∷ 0x01 ∷ 0x01 ∷ []) (refused_with fault.IllTyped 0)
    -- P8
    ∷ at_sixteen (0x01 ∷ 0x00 ∷ 0x01 ∷ 0x00 ∷ 0x00 ∷ 0x00 ∷ 0x00 ∷ 0x07 ∷ 0x00 ∷ 0x00 ∷ 0x01 ∷ 0x00 ∷ 0x07 ∷ 0x00 ∷ []) (ran_to (Halted Null) 1 0)
    -- P9
    ∷ at_sixteen (0x01 ∷ 0x00 ∷ 0x01 ∷ 0x00 ∷ 0x02 ∷ 0x00 ∷ 0x00 ∷ 0x00 ∷ 0x06 ∷ 0x00 ∷ 0x05 ∷ 0x01 ∷ []) (ran_to (Halted Bounds) 1 0)
    -- P9, 00 for 05
    ∷ at_sixteen (0x01 ∷ 0x00 ∷ 0x01 ∷ 0x00 ∷ 0x02 ∷ 0x00 ∷ 0x00 ∷ 0x00 ∷ 0x06 ∷ 0x00 ∷ 0x00 ∷ 0x01 ∷ []) (ran_to (Halted Null) 1 0)
    -- P10
    ∷ at_sixteen (0x01 ∷ 0x00 ∷ 0x01 ∷ 0x01 ∷ 0x00 ∷ 0x00 ∷ 0x00 ∷ 0x04 ∷ 0x06 ∷ 0x05 ∷ 0x01 ∷ 0x00 ∷ 0x09 ∷ 0x00 ∷ []) (ran_to Stuck 1 1)
    -- P11: P10 without 04
    ∷ at_sixteen (0x01 ∷ 0x00 ∷ 0x01 ∷ 0x01 ∷ 0x00 ∷ 0x00 ∷ 0x00 ∷ 0x06 ∷ 0x05 ∷ 0x01 ∷ 0x00 ∷ 0x09 ∷ 0x00 ∷ []) (refused_with fault.NoRule 0)
    -- P12
    ∷ at_sixteen (0x01 ∷ 0x00 ∷ 0x01 ∷ 0x00 ∷ 0x00 ∷ 0x00 ∷ 0x00 ∷ 0x02 ∷ 0x04 ∷ 0x05 ∷ 0x01 ∷ 0x00 ∷ 0x09 ∷ 0x00 ∷ 0x06 ∷ 0x01 ∷ 0x00 ∷ []) (ran_to Stuck 3 1)
    -- P13
    ∷ at_sixteen (0x01 ∷ 0x00 ∷ 0x00 ∷ 0x00 ∷ 0x08 ∷ 0x00 ∷ 0xFF ∷ 0xFF ∷ 0xFF ∷ 0xFF ∷ 0x0F ∷ 0x00 ∷ 0x00 ∷ 0x01 ∷ 0x00 ∷ []) (ran_to (Value (cell 0 Int)) 1 0)
    -- P14
    ∷ at_sixteen (0x01 ∷ 0x00 ∷ 0x00 ∷ 0x00 ∷ 0x00 ∷ 0x85 ∷ 0x00 ∷ 0x00 ∷ []) (refused_with fault.Unfit 5)
    -- the empty image
    ∷ at_sixteen [] (refused_with fault.Ends 0)
    ∷ []

-- the answer to a row's image; the lent numbers are arbitrary, here all 9
abbrev pub worked_answer : WorkedImage → Answer
worked_answer r = (answered r.image (replicate (2 * r.words) 9) r.limit).answer
