-- The expression read in the part of the image behind an offset: its answer lies within that part and is carried back to whole-image
-- offsets, and of no bytes nothing is read.
-- Assumes nothing.
use mathlib.Core.Path.{◌≡◌, refl}
use mathlib.Core.List.{List, [], ◌∷◌}
use Prim.Native.Nat.{ℕ, suc, ◌+◌, ◌-◌, ◌<◌, ◌≤◌}
use native.Mathlib.Omega.{arith}
use lib.ListN.{length, take, drop, length-drop}
use lib.Seq.{take_all}
use Rattle.std.proofs.Common.{Result, Ok, Err}
use Rattle.numbers.specs.declared.Read.{Read}
use Rattle.calculus.specs.declared.Fault.TheVariants as fault
use Rattle.calculus.specs.declared.Refusal.{Refusal}
use Rattle.numbers.specs.Reading.{groups}
use Rattle.image.specs.Parsing.{number}
use Rattle.image.specs.Answers.{refusal, with_next}
use Rattle.image.specs.Filled.{filled}
use Rattle.image.specs.Filling.{head_into, node_into, expression_into}
use Rattle.image.proofs.Within.{ToldWithin, node_within, read_within, refused_within}

empty : (l : List ℕ) → length l ≡ 0 → l ≡ []
empty [] e = refl
empty (x ∷ l) e = absurd (omega arith)

-- nothing is read of no bytes, at whatever depth
empty_part : (types : List ℕ) (structs : ℕ) (t : List ℕ) (deep : ℕ)
    → node_into [] types structs (suc deep) 0 0 0 t ≡ filled (Err (refusal fault.Ends 0)) t
unfolding node_into head_into number groups
empty_part types structs t deep = refl

-- a part up to the end is all that is left
tail_whole : (image : List ℕ) (at : ℕ) → take (length image - at) (drop at image) ≡ drop at image
tail_whole image at = take_all (length image - at) (drop at image) (omega (arith, length-drop at image))

module _ (image types : List ℕ) (structs at : ℕ) (t : List ℕ) where
  -- an offset behind the image: it ends there
  pub nothing_read : length image < at → expression_into image types structs at t ≡ filled (Err (refusal fault.Ends at)) t
  unfolding expression_into
  nothing_read h =
      let none : drop at image ≡ [] = empty (drop at image) (omega (arith, length-drop at image)) in
      let e : at + 0 ≡ at = omega arith in
      rw (none, empty_part types structs t 63, e)

  -- the part is handed over as `take .. (drop ..)`
  module _ {r : Result (Read ℕ) Refusal} {t' : List ℕ}
      (e : filled r t' ≡ node_into (take (length image - at) (drop at image)) types structs 64 0 0 0 t) where
    tail_read : filled r t' ≡ node_into (drop at image) types structs 64 0 0 0 t
    tail_read = rw (tail_whole image at) at e

    pub end_within : {next count : ℕ} → r ≡ Ok (with_next count next) → next ≤ length image - at
    end_within {next} q =
        omega (arith, read_within (drop at image) types structs 64 0 0 0 t (omega arith) tail_read q, length-drop at image)

    pub place_within : {q : Refusal} → r ≡ Err q → q.place ≤ length image - at
    place_within {q} p =
        omega (arith, refused_within (drop at image) types structs 64 0 0 0 t (omega arith) tail_read p, length-drop at image)

    -- an expression that was read in the part
    pub read_behind : {next count : ℕ} → r ≡ Ok (with_next count next)
        → filled (Ok (with_next count (at + next))) t' ≡ expression_into image types structs at t
    unfolding expression_into
    read_behind q = rw (← tail_read, q)

    -- a refusal inside the part
    pub refused_behind : {q : Refusal} → r ≡ Err q → filled (Err (refusal q.fault (at + q.place))) t' ≡ expression_into image types structs at t
    unfolding expression_into
    refused_behind q = rw (← tail_read, q)

-- no place that is told lies behind the part
pub part_within : (part types : List ℕ) (structs : ℕ) (t : List ℕ)
    → (node_into part types structs 64 0 0 0 t ≡ node_into part types structs 64 0 0 0 t)
    × ToldWithin (length part) (node_into part types structs 64 0 0 0 t).result
part_within part types structs t = (refl, node_within part types structs 64 0 0 0 t (omega arith))
