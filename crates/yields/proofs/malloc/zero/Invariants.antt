-- `yields::malloc::zero` leaves zeros at the words that a pointer's target covers. The loop's invariant: what is left to be done gives
-- what the whole gives. Assumes nothing.
use Rattle.std.proofs.Common.{◌≡◌, ◌+◌, ◌-◌, ◌%◌, ◌^◌}
use Rattle.yields.specs.Malloc.{zero_words}
use Rattle.yields.proofs.malloc.zero.Given as goal

abbrev pub invariant-loop-i : goal.invariant-loop-i
invariant-loop-i l =
    zero_words l.structs l.types l.code l.size l.address 0 l.initial.heap
    ≡ zero_words l.structs l.types l.code (l.size - l.i) ((l.address + l.i) % 2 ^ 64) l.i l.heap
