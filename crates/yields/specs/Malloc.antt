-- malloc over the lent numbers: where it starts to look for room, and the words that then become zeros.
use Rattle.std.specs.Prelude.{ℕ, zero, suc, ◌+◌, ◌%◌, ◌^◌, List, nat_le}
use Rattle.choice.specs.Choice.{choose}
use Rattle.cells.specs.Lent.{put_word}
use Rattle.tables.specs.Kinds.{type_code_at, word_type_at}
use Rattle.yields.specs.declared.Hint.{Hint}
use Rattle.yields.specs.declared.Terms.{Terms}

-- one more, in 64 bits
abbrev pub one_more : ℕ → ℕ
one_more n = (n + 1) % 2 ^ 64

-- k words from address a on become zeros, the i-th word of the target and those behind it; numbers of 64 bits wrap
unfoldable pub zero_words : (structs types : List ℕ) (code k a i : ℕ) → List ℕ → List ℕ
zero_words structs types code zero a i ws = ws
zero_words structs types code (suc k) a i ws =
    zero_words structs types code k (one_more a) (one_more i) (put_word ws a 0 (type_code_at types (word_type_at structs code i)))

abbrev pub room_hint : (size from : ℕ) → Hint
room_hint size from = record { size = size; from = from }

-- before the first malloc nothing is known of the room
abbrev pub start_hint : Terms → Hint
start_hint T = room_hint 0 T.low

-- where to start to look: words are never freed, so no run of that size starts lower
abbrev pub sought_from : Hint → (size low : ℕ) → ℕ
sought_from h size low = choose (nat_le h.size size) (λ _. h.from) (λ _. low)
