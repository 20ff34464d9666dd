-- From an answer back to the reading that it tells.
-- Assumes nothing.
use mathlib.Core.Path.{◌≡◌}
use Rattle.std.proofs.Common.{Ok, Err}
use Rattle.numbers.specs.declared.Read.{Read}
use Rattle.calculus.specs.declared.Refusal.{Refusal}
use Rattle.image.specs.Parsing.{Parsed, got, refused}
use Rattle.image.specs.Answers.{told, refusal}

-- something was answered: this was read
pub was_got : {A : Type 0} (r : Parsed A) {x : Read A} → Ok x ≡ told r → r ≡ got x.value x.next
was_got (got a next) e = cc
was_got (refused f p) e = cc

-- a refusal was answered: this is the fault, and its place
pub was_refused : {A : Type 0} (r : Parsed A) {q : Refusal} → Err q ≡ told r → r ≡ refused q.fault q.place
was_refused (got a next) e = cc
was_refused (refused f p) {q} e = let s : refusal f p ≡ q = cc in rw (← s)
