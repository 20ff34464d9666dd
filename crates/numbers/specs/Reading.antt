-- Reading one number: "A number is written in groups of seven bits, lowest group first, one group in a byte; the top bit of a
-- byte says that another follows. Only the shortest writing is good: a last group of zero is allowed only if it is the sole group."
use Rattle.std.specs.Prelude.{ℕ, zero, suc, ◌+◌, ◌*◌, ◌%◌, List, length, get_or, leb, ltb, eqb, Result, Ok, Err}
use Rattle.choice.specs.Choice.{choose}
use Rattle.numbers.specs.Width.{Width, bits32}
use Rattle.numbers.specs.declared.Read.{Read}
use Rattle.numbers.specs.declared.Unread.{Unread}
use Rattle.numbers.specs.declared.Unread.TheVariants.{Ends, Unfit}

-- what is told of a place where a number is due: a good number with the offset behind it, or why none stands there
abbrev pub Number : Type 0
Number = Result (Read ℕ) Unread

abbrev pub good : (value next : ℕ) → Number
good v next = Ok (record { value = v; next = next })

-- the byte at `at`, handed on; where the image has none, it ends inside the number
abbrev pub byte_then : List ℕ → ℕ → (ℕ → Number) → Number
byte_then image at go = choose (ltb at (length image)) (λ _. go (get_or image at 0)) (λ _. Err (Ends (length image)))

-- the group `b` at `at` is the last one: zero is good only if it is also the first
unfoldable pub last_group : (first at weight sum b : ℕ) → Number
last_group first at weight sum b =
    choose (eqb b 0)
    (λ _. choose (eqb first at) (λ _. good sum (at + 1)) (λ _. Err (Unfit first)))
    (λ _. good (sum + b * weight) (at + 1))

-- The number whose first byte is at `first`, from its group at `at` on. The groups before are worth `sum`, and this one `weight`
-- times its seven bits; `more` further groups may follow it. Where none may, it is the top one: "A fifth byte above 0F is fault 2
-- even if the image ends there."
unfoldable pub groups : (top : ℕ) (image : List ℕ) (first more at weight sum : ℕ) → Number
groups top image first zero at weight sum =
    byte_then image at (λ b. choose (ltb top b) (λ _. Err (Unfit first)) (λ _. last_group first at weight sum b))
groups top image first (suc more) at weight sum =
    byte_then image at
    (λ b. choose (leb 128 b)
    (λ _. groups top image first more (at + 1) (weight * 128) (sum + b % 128 * weight))
    (λ _. last_group first at weight sum b))

-- the number at `at`, of the width told
abbrev pub number_of : Width → List ℕ → ℕ → Number
number_of w image at = groups w.top image at w.more at 1 0

-- the number at `at` in an image
abbrev pub number_at : List ℕ → ℕ → Number
number_at = number_of bits32
