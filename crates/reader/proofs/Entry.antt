-- What the reader of expressions does where it reads nothing, as its model says.
use Prim.Native.Nat.{ℕ, ◌-◌, ◌≤◌, ◌<◌}
use mathlib.Core.Path.{◌≡◌}
use mathlib.Core.List.{List}
use lib.ListN.{length}
use borrow.Author.Tests.{lt-ltb, le-ltb}
use Rattle.std.proofs.Common.{Err}
use Rattle.calculus.specs.declared.Fault.TheVariants as fault
use Rattle.tables.specs.Rows.{whole_rows}
use Rattle.image.specs.Answers.{refusal}
use Rattle.image.specs.Filled.{filled}
use Rattle.reader.specs.Reads.{most_rows, expression_rows}
use Rattle.reader.specs.declared.NotRead.TheVariants.{Refused, Short}

module _ (image : List ℕ) (known structs at : ℕ) (t : List ℕ) where
  pub too_long : 16384 < length image → filled (Err (Refused (refusal fault.Limit 0))) t ≡ expression_rows image known structs at t
  unfolding expression_rows
  too_long l = rw (lt-ltb 16384 (length image) l)

  module _ (fits : length image ≤ 16384) where
    pub past_end : length image < at → filled (Err (Refused (refusal fault.Ends at))) t ≡ expression_rows image known structs at t
    unfolding expression_rows
    past_end l = rw (le-ltb 16384 (length image) fits, lt-ltb (length image) at l)

    module _ (in_image : at ≤ length image) where
      pub too_few : whole_rows t < most_rows (length image - at) → filled (Err Short) t ≡ expression_rows image known structs at t
      unfolding expression_rows
      too_few l =
          rw (
            le-ltb 16384 (length image) fits,
            le-ltb (length image) at in_image,
            lt-ltb (whole_rows t) (most_rows (length image - at)) l,
          )
