-- How wide a number may be: how many groups it may have, and how large the last of those may be.
use Rattle.std.specs.Prelude.{ℕ}

-- `more` groups may stand before the last one, which is at most `top`
pub record Width : Type 0 where
  pub more : ℕ
  pub top : ℕ

-- "Largest value: 2^32-1 (FF FF FF FF 0F)."
abbrev pub bits32 : Width
bits32 = record { more = 4; top = 15 }
