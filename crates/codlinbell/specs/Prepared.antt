-- When the lent tables hold the content of an image, with room beside them to judge and run it.
use Rattle.std.specs.Prelude.{ℕ, ◌*◌, ◌/◌, ◌≤◌, min, ◌≡◌, List, length}
use Rattle.cells.specs.Lent.{heap_words}
use Rattle.image.specs.Content.{Content}
use Rattle.image.specs.Parsing.{got}
use Rattle.image.specs.Image.{read_image}
use Rattle.image.specs.Tabled.{Held}
use Rattle.yields.specs.declared.Terms.{Terms}

-- the terms of a script that may use the whole heap
abbrev pub whole_heap : (words limit : ℕ) → Terms
whole_heap words limit = record { words = words; low = 1; high = words; limit = limit }

-- Tables that are long enough for any content of the image: no node takes less than a byte, and no cell less than three.
pub record LongTables (image structs types cells nodes marks queue bound frames : List ℕ) : Type 0 where
  pub structs_room : 544 ≤ length structs
  pub types_room : 256 ≤ length types
  pub cells_room : min (length image) 12288 ≤ length cells
  pub nodes_room : 4 * min (length image) 2048 ≤ length nodes
  pub marks_room : min (length image / 3) 4096 ≤ length marks
  pub queue_room : min (length image / 3) 4096 ≤ length queue
  pub bound_room : 128 ≤ length bound
  pub frames_room : 256 ≤ length frames

-- Tables that hold the content c of the image, read over the lent heap ws.
pub record Prepared (image ws : List ℕ) (words : ℕ) (c : Content) (structs types cells nodes marks queue bound frames : List ℕ) : Type 0 where
  pub next : ℕ
  pub words_are : words ≡ heap_words ws
  pub reads : read_image words image ≡ got c next
  pub held : Held c structs types cells nodes
  pub marks_room : length c.cells ≤ length marks
  pub queue_room : length c.cells ≤ length queue
  pub bound_room : 128 ≤ length bound
  pub frames_room : 256 ≤ length frames
