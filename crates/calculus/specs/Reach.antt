-- What is reached from a literal: "every checked pointer other than 0 that is the value, or is reached from it through checked pointers",
-- and when such a one covers defined words of exactly the types it claims.
use Rattle.std.specs.Prelude.{◌≡◌, false, ℕ, ◌+◌, ◌<◌, T, Some}
use Rattle.cells.specs.Heap.{Heap, look}
use Rattle.cells.specs.declared.Kind.{Kind}
use Rattle.cells.specs.declared.Cell.{Cell}
use Rattle.calculus.specs.Setting.{Setting, cell, size, word_kind}
use Rattle.calculus.specs.Literal.{is_base}

-- the literal is base, or each word that it covers is defined and has exactly the target's word type there
pub data Good (S : Setting) (H : Heap) (n : ℕ) (κ : Kind) : Type 0 where
  good_base : T (is_base n κ) → Good S H n κ
  good_words : (v : ℕ → ℕ) → ((i : ℕ) → i < size S κ → look H (n + i) ≡ Some (cell (v i) (word_kind S κ i))) → Good S H n κ

-- d is a word that the literal c, a checked pointer and not base, covers
pub record Covers (S : Setting) (H : Heap) (c d : Cell) : Type 0 where
  pub at : ℕ
  pub pointer : is_base c.value c.kind ≡ false
  pub inside : at < size S c.kind
  pub there : look H (c.value + at) ≡ Some d

-- d is reached from c: it is c, or a word that a literal reached from c covers
pub data Reach (S : Setting) (H : Heap) : Cell → Cell → Type 0 where
  itself : {c : Cell} → Reach S H c c
  further : {c d e : Cell} → Reach S H c d → Covers S H d e → Reach S H c e
