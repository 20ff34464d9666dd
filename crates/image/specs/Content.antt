-- What an image holds: its format, tables, cells and the expression; and the setting and the heap that they make.
use Rattle.std.specs.Prelude.{ℕ, false, List, [], ◌∷◌, replicate, None}
use Rattle.cells.specs.Heap.{Heap, update}
use Rattle.cells.specs.declared.Kind.{Kind}
use Rattle.cells.specs.declared.Cell.{Cell}
use Rattle.calculus.specs.Setting.{Setting}
use Rattle.calculus.specs.Expr.{Expr}
use Rattle.image.specs.declared.Format.{Format}

-- what the first number 1 says: numbers of 32 bits, cells without marks, one expression
abbrev pub format_one : Format
format_one = record { width = 32; marked = false; expressions = 1 }

-- the fields of each struct, by word type number, and the word types, type 0 being int
pub record Tables : Type 0 where
  pub structs : List (List ℕ)
  pub types : List Kind

-- a heap cell of the image
pub record Placed : Type 0 where
  pub address : ℕ
  pub held : Cell

pub record Content : Type 0 where
  pub format : Format
  pub tables : Tables
  pub cells : List Placed
  pub expr : Expr

-- the setting of a content over a heap of W words: the width is the format's, and malloc takes words "within 1 to W"
abbrev pub setting_of : (words : ℕ) → Content → Setting
setting_of words c =
    record { structs = c.tables.structs; types = c.tables.types; width = c.format.width; low = 1; high = words }

-- each cell in its place
unfoldable pub placed : List Placed → Heap → Heap
placed [] H = H
placed (p ∷ ps) H = placed ps (update H p.address p.held)

-- "On acceptance, before the first step, every word from 1 to W that the image doesn't set is undefined."
abbrev pub heap_of : (words : ℕ) → List Placed → Heap
heap_of words ps = placed ps (replicate words None)
