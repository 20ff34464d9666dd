-- From what is answered of what stands between the code of a node with one part and the part, back to what was read.
use mathlib.Core.Path.{◌≡◌, sym, ◌∙◌}
use Prim.Native.Nat.{ℕ}
use mathlib.Core.Bool.{Bool}
use Rattle.std.proofs.Common.{Result, Ok, Err}
use Rattle.numbers.specs.declared.Read.{Read}
use Rattle.calculus.specs.declared.Refusal.{Refusal}
use Rattle.tables.specs.declared.Task.{Task}
use Rattle.image.specs.Parsing.{Parsed, got, refused}
use Rattle.image.specs.Answers.{with_next, told}
use Rattle.image.proofs.Answered.{was_got, was_refused}
use Rattle.reader.specs.Reads.{one_line}
use Rattle.reader.specs.declared.PartLine.{PartLine}

-- ---- a node with one part
pub was_operand : (r : Parsed PartLine) {o : Result (Read PartLine) Refusal} {k : Task} {s d : ℕ} {inside : Bool} {next : ℕ} → o ≡ told r
    → o ≡ Ok (with_next (one_line k s d inside) next) → r ≡ got (one_line k s d inside) next
was_operand r {k = k} {s} {d} {inside} {next} e p = was_got r {x = with_next (one_line k s d inside) next} (sym p ∙ e)

pub was_no_operand : (r : Parsed PartLine) {o : Result (Read PartLine) Refusal} {q : Refusal} → o ≡ told r → o ≡ Err q
    → r ≡ refused q.fault q.place
was_no_operand r {q = q} e p = was_refused r {q = q} (sym p ∙ e)
