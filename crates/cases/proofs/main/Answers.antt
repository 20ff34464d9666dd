-- `cases::main` is safe: the array has the bytes that it says, told for any number, since antt would count up to this one, and what was
-- read of it is told by the bound alone, since a search through all that the read says would count up to it too. Assumes nothing.
use Rattle.std.proofs.Common.{◌≡◌, ℕ, length, length-take-le, replicate, sym}
use Rattle.std.proofs.lemmas.List.{length-replicate}
use Rattle.cases.proofs.main.Goals as goal

zeros : (n : ℕ) → n ≡ length {A = ℕ} (replicate n 0)
zeros n = sym (length-replicate n 0)

pub slice_bounds-read_full-end : goal.slice_bounds-read_full-end
slice_bounds-read_full-end c = zeros 524288

pub slice_bounds-text-end : goal.slice_bounds-text-end
slice_bounds-text-end c = c.in_ok-read.ensures.bound

pub slice_bounds-answer_all-end : goal.slice_bounds-answer_all-end
slice_bounds-answer_all-end c = sym (length-take-le c.in_ok-read.read c.read_full.new.bytes c.in_ok-read.ensures.bound)
