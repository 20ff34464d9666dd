-- Where something that was read ends, or was refused: behind where it starts, and within the image.
use Prim.Native.Nat.{ℕ, ◌^◌, ◌≤◌, ◌<◌}
use mathlib.Core.List.{List}
use lib.ListN.{length}
use Rattle.calculus.specs.declared.Fault.{Fault}
use Rattle.calculus.specs.declared.Fault.TheVariants as fault
use Rattle.image.specs.Parsing.{Parsed, got, refused, number, below}
use Rattle.image.specs.Tables.{read_target}
use Rattle.image.specs.Shape.{KnownTarget}
use Rattle.image.proofs.Gives.{Gives, gives, gives_more}
use Rattle.image.proofs.Within.{Within, within, within_refused, number_within, below_within, target_within}
use Rattle.image.proofs.Numbers.{number_gives, below_gives}
use Rattle.image.proofs.TypeLaws.{target_gives}

-- it ends behind `from` and has the property, or it was refused
pub data Ending (limit from : ℕ) {A : Type 0} (P : A → Type 0) : Parsed A → Type 0 where
  ending : {a : A} {next : ℕ} → from < next → next ≤ limit → P a → Ending limit from P (got a next)
  ending_none : {f : Fault} {p : ℕ} → p ≤ limit → Ending limit from P (refused f p)

ending_of : {limit from : ℕ} {A : Type 0} {P : A → Type 0} (r : Parsed A) → Gives (λ a next. (from < next) × P a) r → Within limit r → Ending limit from P r
ending_of (got a next) (gives g) (within w) = ending g.0 w g.1
ending_of (refused f p) g (within_refused w) = ending_none w

module _ (image : List ℕ) (at : ℕ) (w : at ≤ length image) where
  pub number_ending : Ending (length image) at (λ v. v < 2 ^ 32) (number image at)
  number_ending = ending_of (number image at) (gives_more (λ v next s. (s.behind, s.fits)) (number_gives image at)) (number_within image at w)

  pub below_ending : (limit : ℕ) → Ending (length image) at (λ v. v < limit) (below fault.Unknown limit image at)
  below_ending limit =
      ending_of (below fault.Unknown limit image at)
      (gives_more (λ v next s. (s.behind, s.limited_by)) (below_gives fault.Unknown limit image at))
      (below_within image fault.Unknown limit at w)

  pub target_ending : (S known : ℕ) → Ending (length image) at (KnownTarget S known) (read_target image S known at)
  target_ending S known =
      ending_of (read_target image S known at)
      (gives_more (λ ω next s. (s.behind, s.has)) (target_gives image S known at))
      (target_within image S known at w)
