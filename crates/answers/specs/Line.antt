-- The line that the runner prints: "end, value, type, `steps`, count, `unchecked`, first; or `refused`, number, `at`, place".
use Rattle.std.specs.Prelude.{ℕ, zero, suc, ◌+◌, ◌/◌, ◌%◌, List, [], ◌∷◌, ◌++◌, ltb, Ok, Err}
use Prim.Native.Char.{code}
use Prim.Native.String.{String, [] as empty, ◌∷◌ as letter}
use Rattle.choice.specs.Choice.{choose}
use Rattle.cells.specs.declared.Mode.{Mode}
use Rattle.cells.specs.declared.Mode.TheVariants.{Checked, Unchecked}
use Rattle.cells.specs.declared.Kind.{Kind}
use Rattle.cells.specs.declared.Kind.TheVariants.{Int, Word, Struct, Array}
use Rattle.calculus.specs.Answers.{fault_number, end_value, end_kind}
use Rattle.calculus.specs.declared.End.{End}
use Rattle.calculus.specs.declared.End.TheVariants.{Value, Halted, Stuck, More}
use Rattle.calculus.specs.declared.Halt.{Halt}
use Rattle.calculus.specs.declared.Halt.TheVariants.{Null, Bounds, Room}
use Rattle.answers.specs.Answer.{Answer}

-- the bytes of a text
abbrev pub text : String → List ℕ
text empty = []
text (letter c s) = code c ∷ text s

-- the decimal digits of n in front of `rest`; it has fewer than `more`
unfoldable pub digits : (more n : ℕ) (rest : List ℕ) → List ℕ
digits zero n rest = rest
digits (suc more) n rest = choose (ltb n 10) (λ _. (48 + n) ∷ rest) (λ _. digits more (n / 10) ((48 + n % 10) ∷ rest))

abbrev pub decimal : ℕ → List ℕ
decimal n = digits (suc n) n []

-- words with a space between
abbrev pub spaced : List (List ℕ) → List ℕ
spaced [] = []
spaced (w ∷ []) = w
spaced (w ∷ w' ∷ ws) = w ++ 32 ∷ spaced (w' ∷ ws)

-- "Ends are in small letters."
abbrev pub halt_word : Halt → List ℕ
halt_word Null = text "null"
halt_word Bounds = text "bounds"
halt_word Room = text "room"

abbrev pub end_word : End → List ℕ
end_word (Value c) = text "value"
end_word (Halted h) = halt_word h
end_word Stuck = text "stuck"
end_word More = text "more"

abbrev pub mode_letter : Mode → List ℕ
mode_letter Checked = text "c"
mode_letter Unchecked = text "u"

-- "A type is `int` or one word like `c.word.0`, `u.struct.1`, `c.array.3.0` (mode, kind, count, number)."
abbrev pub kind_word : Kind → List ℕ
kind_word Int = text "int"
kind_word (Word m n) = mode_letter m ++ text ".word." ++ decimal n
kind_word (Struct m s) = mode_letter m ++ text ".struct." ++ decimal s
kind_word (Array m k n) = mode_letter m ++ text ".array." ++ decimal k ++ text "." ++ decimal n

unfoldable pub line : Answer → List ℕ
line (Err r) = spaced (text "refused" ∷ decimal (fault_number r.fault) ∷ text "at" ∷ decimal r.place ∷ [])
line (Ok o) =
    spaced
    (end_word o.end ∷ decimal (end_value o.end) ∷ kind_word (end_kind o.end)
    ∷ text "steps" ∷ decimal o.steps ∷ text "unchecked" ∷ decimal o.first ∷ [])
