-- Bytes written one piece after another are the pieces written as one, of a text as much is written as has room, a decimal number is its
-- tens with a digit behind them, with no more digits than its size allows, and the library's digits of a number are the line's.
use Rattle.std.proofs.Common.{◌≡◌, ℕ, zero, suc, ◌+◌, ◌-◌, ◌/◌, ◌%◌, ◌^◌, ◌<◌, ◌≤◌, min, Bool, true, false, leb, ltb}
use Rattle.std.proofs.Common.{List, [], ◌∷◌, ◌++◌, length, take, drop, set, get_or, append_assoc, length-append, take-suc}
use Rattle.std.proofs.Common.{refl, sym, ap, ◌∙◌, rules, arith, add-zero, add_assoc, add-one, pow-suc}
use Rattle.std.proofs.lemmas.List.{set_past, append-nil, length-take-le, take-append-drop, drop_all}
use Rattle.std.proofs.lemmas.List.Edits.{sets, sets-eq}
use Rattle.std.proofs.lemmas.Fmt.{PrependsLastDigit, decimal_from_prepends, length-decimal-le_succ}
use Rattle.std.proofs.lemmas.Grind.{common_steps}
use Rattle.std.proofs.Math.Seq.{length-sets}
use borrow.Author.Tests.{leb-true, leb-false, lt-ltb, le-ltb, ltb-true, ltb-false}
use borrow.Rule.Slice.PartMut.{put_mid}
use Rattle.std.specs.Fmt.{decimal as shown}
use Rattle.choice.specs.Choice.{choose}
use Rattle.answers.specs.Line.{digits, decimal, spaced}
use Rattle.answers.specs.Written.{wrote}
use Rattle.answers.specs.declared.line.Line.{Line}

sets_append : (ws : List ℕ) (at : ℕ) (xs ys : List ℕ) → sets ws at (xs ++ ys) ≡ sets (sets ws at xs) (at + length xs) ys
sets_append ws at [] ys = rw (add-zero at)
sets_append ws at (x ∷ xs) ys =
    let e : suc at + length xs ≡ at + suc (length xs) = omega arith in
    sets_append (set ws at x) (suc at) xs ys ∙ ap (λ (n : ℕ). sets (sets (set ws at x) (suc at) xs) n ys) e

-- two pieces, the second written behind the first
pub wrote_twice : (l : Line) (xs ys : List ℕ) → wrote (wrote l xs) ys ≡ wrote l (xs ++ ys)
unfolding wrote
wrote_twice l xs ys = rw (length-append, add_assoc, sets_append) refl

-- the same of lines that are known to be written so
pub joined : (l a b : Line) (xs ys : List ℕ) → a ≡ wrote l xs → b ≡ wrote a ys → b ≡ wrote l (xs ++ ys)
joined l a b xs ys p q = q ∙ ap (λ z. wrote z ys) p ∙ wrote_twice l xs ys

-- one byte more of a text
pub one_more_lem : (entry out : Line) (text : List ℕ) (i : ℕ) → i < length text → out ≡ wrote entry (take i text)
    → record { out = record out.out { now = set out.out.now (entry.at + i) (get_or text i 0) }; at = entry.at + (i + 1) }
    ≡ wrote entry (take (i + 1) text)
unfolding wrote
one_more_lem entry out text i h w =
    let e : take (i + 1) text ≡ take i text ++ (get_or text i 0 ∷ []) = rw (add-one i, take-suc text i 0) in
    let k : out.at ≡ entry.at + i = ap (λ (l : Line). l.at) w ∙ rw (length-take-le i text (omega arith)) in
    let m : entry.at + (i + 1) ≡ out.at + 1 = omega (arith, k) in
    rw (e, ← k, m) (joined entry out _ (take i text) (get_or text i 0 ∷ []) w refl)

pub wrote_at : (l : Line) (xs : List ℕ) → (wrote l xs).at ≡ l.at + length xs
unfolding wrote
wrote_at l xs = refl

-- what lent bytes hold once a line in them is done: its two last pieces, if it was still in those bytes
pub last_written : (l a b : Line) (xs ys x : List ℕ) → a ≡ wrote l xs → b ≡ wrote a ys
    → (l.out.ghost_name ≡ b.out.ghost_name → x ≡ b.out.now) → x ≡ sets l.out.now l.at (xs ++ ys)
unfolding wrote
last_written l a b xs ys x p q r =
    let e : b ≡ wrote l (xs ++ ys) = q ∙ ap (λ z. wrote z ys) p ∙ wrote_twice l xs ys in
    r (sym (ap (λ (z : Line). z.out.ghost_name) e)) ∙ ap (λ (z : Line). z.out.now) e

-- nine pieces, one behind the other
pub wrote_nine : (l : Line) (a b c d e f g h i : List ℕ) → wrote (wrote (wrote (wrote (wrote (wrote (wrote (wrote (wrote l a) b) c) d) e) f) g) h) i
    ≡ wrote l (a ++ (b ++ (c ++ (d ++ (e ++ (f ++ (g ++ (h ++ i))))))))
wrote_nine l a b c d e f g h i = simp (wrote_twice, append_assoc)

sets_past : (vs l : List ℕ) (i : ℕ) → length l ≤ i → sets l i vs ≡ l
sets_past [] l i h = refl
sets_past (a ∷ vs) l i h = rw (set_past l i a h) (sets_past vs l (suc i) (omega arith))

-- all of a text that has room from `at` on, k bytes, is written there
fitting : (l t : List ℕ) (at k : ℕ) → at + k ≡ min (at + length t) (length l) → take at l ++ (take k t ++ drop k (drop at l)) ≡ sets l at t
fitting l t at k h =
    let e : length (take k t) ≡ k = length-take-le k t (omega arith) in
    let front : sets l at (take k t) ≡ take at l ++ take k t ++ drop (at + k) l = rw e at (sets-eq (take k t) l at (rw e (omega arith))) in
    let split : sets l at t ≡ sets (sets l at (take k t)) (at + k) (drop k t) =
    ap (sets l at) (sym (take-append-drop k t)) ∙ rw e at (sets_append l at (take k t) (drop k t)) in
    let rest : (b : Bool) → leb (length t) k ≡ b → sets (sets l at (take k t)) (at + k) (drop k t) ≡ sets l at (take k t) = elim [
      | true ↦ λ v. rw (drop_all k t (leb-true (length t) k v)) refl
      | false ↦ λ v.
          let m : k < length t = leb-false (length t) k v in
          sets_past (drop k t) (sets l at (take k t)) (at + k) (omega (arith, length-sets l at (take k t)))
    ] in
    let same = rest (leb (length t) k) refl in
    grind (arith, common_steps)

-- what has room of a text that is written at an offset
pub clipped : (l t : List ℕ) (at s e : ℕ) → s ≡ min at (length l) → e ≡ min (at + length t) (length l)
    → put_mid s (e - s) l (take (e - s) t) ≡ sets l at t
clipped l t at s e p q =
    let n = length l in
    let go : (b : Bool) → leb n at ≡ b → put_mid s (e - s) l (take (e - s) t) ≡ sets l at t = elim [
      | true ↦ λ v.
          let h : n ≤ at = leb-true n at v in
          let past = sets_past t l at h in
          let f : s ≡ n = omega arith in
          let g : e - s ≡ 0 = omega arith in
          grind (arith, common_steps)
      | false ↦ λ v.
          let h : at < n = leb-false n at v in
          let f : s ≡ at = omega arith in
          rw f (fitting l t at (e - at) (omega arith))
    ] in
    go (leb n at) refl

prepends : PrependsLastDigit digits
unfolding digits
prepends = search rules

-- a number's digits are those that the library writes
pub decimal_shown : (n : ℕ) → n < 2 ^ 64 → shown n ≡ decimal n
decimal_shown n h = sym (decimal_from_prepends digits prepends (suc n) n [] h (rw (← add-one n) (length-decimal-le_succ n h)) ∙ append-nil _)

-- two choices by one test are related if their sides are, the second sides where the test fails
module _ (P : List ℕ → List ℕ → Type 0) {x y x' y' : List ℕ} where
  sides : (t : Bool) → P x x' → (t ≡ false → P y y') → P (choose t (λ _. x) (λ _. y)) (choose t (λ _. x') (λ _. y'))
  sides true p q = p
  sides false p q = q refl

-- the digits in front of a rest are the digits, and then the rest
digits_split : (more n : ℕ) (rest : List ℕ) → digits more n rest ≡ digits more n [] ++ rest
unfolding digits
digits_split zero n rest = refl
digits_split (suc more) n rest =
    let d : ℕ = 48 + n % 10 in
    sides (λ (x y : List ℕ). x ≡ y ++ rest) (ltb n 10) refl
    (λ _. digits_split more (n / 10) (d ∷ rest) ∙ rw (digits_split more (n / 10) (d ∷ []), append_assoc))

-- any count of digits that is large enough gives the same ones
digits_enough : (a b n : ℕ) (rest : List ℕ) → n < a → n < b → digits a n rest ≡ digits b n rest
unfolding digits
digits_enough zero b n rest h k = absurd (omega arith)
digits_enough (suc a) zero n rest h k = absurd (omega arith)
digits_enough (suc a) (suc b) n rest h k =
    sides (λ (x y : List ℕ). x ≡ y) (ltb n 10) refl λ f.
    let g : 10 ≤ n = ltb-false n 10 f in
    digits_enough a b (n / 10) ((48 + n % 10) ∷ rest) (omega arith) (omega arith)

pub decimal_digit : (n : ℕ) → n < 10 → decimal n ≡ (48 + n) ∷ []
unfolding digits
decimal_digit n h = rw (lt-ltb n 10 h)

decimal_opened : (n : ℕ) → 10 ≤ n → decimal n ≡ digits n (n / 10) ((48 + n % 10) ∷ [])
unfolding digits
decimal_opened n h = rw (le-ltb n 10 h)

pub decimal_tens : (n : ℕ) → 10 ≤ n → decimal n ≡ decimal (n / 10) ++ (48 + n % 10) ∷ []
decimal_tens n h =
    decimal_opened n h ∙ digits_split n (n / 10) ((48 + n % 10) ∷ [])
    ∙ rw (digits_enough n (suc (n / 10)) (n / 10) [] (omega arith) (omega arith))

short_step : (k n : ℕ) (t : Bool) → ltb n 10 ≡ t → (10 ≤ n → length (decimal (n / 10)) ≤ k) → length (decimal n) ≤ suc k
short_step k n true e tens = rw (decimal_digit n (ltb-true n 10 e)) (omega arith)
short_step k n false e tens =
    let g : 10 ≤ n = ltb-false n 10 e in
    rw (decimal_tens n g, length-append) (omega (arith, tens g))

-- a number below a power of ten has at most as many digits
pub decimal_short : (k n : ℕ) → n < 10 ^ suc k → length (decimal n) ≤ suc k
decimal_short zero n h = short_step zero n (ltb n 10) refl (λ g. absurd (omega arith))
decimal_short (suc k) n h =
    short_step (suc k) n (ltb n 10) refl (λ g. decimal_short k (n / 10) (omega (arith, rw (pow-suc 10 (suc k)) at h)))

pub decimal_byte : (n : ℕ) → n < 256 → length (decimal n) ≤ 3
decimal_byte n h = decimal_short 2 n (omega arith)

pub decimal_count : (n : ℕ) → n < 65536 → length (decimal n) ≤ 5
decimal_count n h = decimal_short 4 n (omega arith)

-- three words, and then more of them
pub spaced_on : (a b c d : List ℕ) (more : List (List ℕ))
    → spaced (a ∷ b ∷ c ∷ d ∷ more) ≡ spaced (a ∷ b ∷ c ∷ []) ++ 32 ∷ spaced (d ∷ more)
spaced_on a b c d more = simp append_assoc

-- what a line's parts are written by
pub ruleset line_steps = (wrote_twice, wrote_at, decimal_shown, decimal_byte, decimal_count)
