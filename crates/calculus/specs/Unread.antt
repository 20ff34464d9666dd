-- The refusal that a number's lack is: faults 1 and 2, each at its place.
use Rattle.numbers.specs.declared.Unread.{Unread}
use Rattle.numbers.specs.declared.Unread.TheVariants as unread
use Rattle.calculus.specs.declared.Refusal.{Refusal}
use Rattle.calculus.specs.declared.Fault.TheVariants as fault

abbrev pub refusal_of : Unread → Refusal
refusal_of (unread.Ends p) = record { fault = fault.Ends; place = p }
refusal_of (unread.Unfit p) = record { fault = fault.Unfit; place = p }
