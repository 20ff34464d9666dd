-- What the code answers for a reading of the definition, and readings whose value is told as one number.
use Rattle.std.specs.Prelude.{ℕ, List, Result, Ok, Err}
use Rattle.cells.specs.Code.{packed}
use Rattle.cells.specs.declared.Mode.{Mode}
use Rattle.numbers.specs.declared.Read.{Read}
use Rattle.calculus.specs.Expr.{Target, to_array, pointer}
use Rattle.calculus.specs.declared.Fault.{Fault}
use Rattle.calculus.specs.declared.Fault.TheVariants as fault
use Rattle.calculus.specs.declared.Refusal.{Refusal}
use Rattle.image.specs.Parsing.{Parsed, got, refused, then_read, below}

abbrev pub refusal : Fault → ℕ → Refusal
refusal f p = record { fault = f; place = p }

-- what was read, with the offset behind it
abbrev pub with_next : {A : Type 0} → A → ℕ → Read A
with_next a next = record { value = a; next = next }

-- what is answered of a reading
abbrev pub told : {A : Type 0} → Parsed A → Result (Read A) Refusal
told (got a next) = Ok (with_next a next)
told (refused f p) = Err (refusal f p)

-- go by an answer: a refusal, or what it tells
abbrev pub on_answer : {A B : Type 0} → Result A Refusal → (Refusal → B) → (A → B) → B
on_answer (Ok a) stop go = go a
on_answer (Err q) stop go = stop q

-- what was read, told in another way
abbrev pub mapped : {A B : Type 0} → (A → B) → Parsed A → Parsed B
mapped f (got a next) = got (f a) next
mapped f (refused e p) = refused e p

-- the code of the pointer to a target, with that mode
abbrev pub pointer_code : Mode → Target → ℕ
pointer_code mode ω = packed (pointer mode ω)

-- the target of kind 2: "an element count 0 to 65,535 and a word type number"
unfoldable pub read_array : (image : List ℕ) (known at : ℕ) → Parsed Target
read_array image known at =
    then_read (below fault.Limit 65536 image at)
    (λ k at₁. then_read (below fault.Unknown known image at₁) (λ n at₂. got (to_array k n) at₂))
