-- The words that become zeros, one by one.
use Rattle.std.proofs.Common.{◌≡◌, ℕ, suc, ◌+◌, ◌-◌, ◌%◌, ◌^◌, ◌<◌, ◌≤◌, List, arith}
use Rattle.cells.specs.Lent.{put_word}
use Rattle.tables.specs.Kinds.{type_code_at, word_type_at}
use Rattle.yields.specs.Malloc.{one_more, zero_words}

-- word i of the target, and then the rest
pub zero_more : (structs types : List ℕ) (code size a i : ℕ) (ws : List ℕ) → i < size → size < 2 ^ 64
    → zero_words structs types code (size - i) ((a + i) % 2 ^ 64) i ws
    ≡ zero_words structs types code (size - (i + 1)) ((a + (i + 1)) % 2 ^ 64) (i + 1)
    (put_word ws ((a + i) % 2 ^ 64) 0 (type_code_at types (word_type_at structs code i)))
unfolding zero_words
zero_more structs types code size a i ws l s =
    let k : size - i ≡ suc (size - (i + 1)) = omega arith in
    let ea : one_more ((a + i) % 2 ^ 64) ≡ (a + (i + 1)) % 2 ^ 64 = omega arith in
    let ei : one_more i ≡ i + 1 = omega arith in
    rw (k, zero_words, ea, ei)

pub zero_none : (structs types : List ℕ) (code size a i : ℕ) (ws : List ℕ) → size ≤ i → zero_words structs types code (size - i) a i ws ≡ ws
unfolding zero_words
zero_none structs types code size a i ws l = let k : size - i ≡ 0 = omega arith in rw k
