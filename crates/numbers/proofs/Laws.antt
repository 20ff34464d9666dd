-- What holds of every number that is read, at any width: a good one ends inside the image and fits, a bad one is told at its place,
-- and it does not matter whether the image is read whole or from some offset on.
-- Assumes nothing.
use mathlib.Core.Path.{◌≡◌, refl, sym, ap}
use mathlib.Core.Bool.{Bool, true, false}
use mathlib.Core.List.{List}
use Prim.Native.Nat.{ℕ, zero, suc, ◌+◌, ◌*◌, ◌%◌, ◌^◌, ◌<◌, ◌≤◌}
use native.Mathlib.Nat.{one-mul, mod-lt, add_assoc}
use native.Mathlib.Omega.{arith}
use Rattle.std.proofs.Common.{Ok, Err}
use lib.ListN.{length, get_or, drop, length-drop}
use lib.Seq.{get_or-drop}
use lib.Dec.{leb, ltb, eqb}
use borrow.Author.Tests.{ltb-true, ltb-false, leb-false, eqb-true, eqb-false, lt-ltb, le-ltb, eq-eqb, ne_eqb}
use Rattle.choice.specs.Choice.{choose}
use Rattle.numbers.specs.Width.{Width, bits32}
use Rattle.numbers.specs.Reading.{Number, good, last_group, groups, number_of, number_at}
use Rattle.numbers.specs.declared.Unread.TheVariants.{Ends, Unfit}
use Rattle.numbers.proofs.Reach.{reach, group_below, reach_top, reach_on, reach_more}

-- a good number of width `w` at `at`
pub record Sound (w : Width) (image : List ℕ) (at value next : ℕ) : Type 0 where
  pub behind : at < next
  pub within : next ≤ length image
  pub fits : value < 128 ^ w.more * (w.top + 1)

-- an answer from the group at `at` on, of a number that begins at `first` and is below `limit`
data Told (image : List ℕ) (first at limit : ℕ) : Number → Type 0 where
  read : {value next : ℕ} → at < next → next ≤ length image → value < limit → Told image first at limit (good value next)
  ends : Told image first at limit (Err (Ends (length image)))
  unfit : Told image first at limit (Err (Unfit first))

test_told : {image : List ℕ} {first at limit : ℕ} (t : Bool) (a b : Unit {0} → Number)
    → (t ≡ true → Told image first at limit (a tt)) → (t ≡ false → Told image first at limit (b tt)) → Told image first at limit (choose t a b)
test_told true a b p q = p refl
test_told false a b p q = q refl

last_told : (image : List ℕ) (first at limit weight sum b : ℕ) → at < length image → sum + b * weight < limit
    → Told image first at limit (last_group first at weight sum b)
unfolding last_group
last_told image first at limit weight sum b i f =
    test_told (eqb b 0) _ _
    (λ _. test_told (eqb first at) _ _ (λ _. read (omega arith) (omega arith) (omega arith)) (λ _. unfit))
    (λ _. read (omega arith) (omega arith) f)

earlier : {image : List ℕ} {first at limit : ℕ} {r : Number} → Told image first (at + 1) limit r → Told image first at limit r
earlier (read {next = next} l w f) = read {next = next} (omega arith) w f
earlier ends = ends
earlier unfit = unfit

told : (top : ℕ) (image : List ℕ) (first more at weight sum : ℕ) → sum < weight
    → Told image first at (reach weight more top) (groups top image first more at weight sum)
unfolding groups
told top image first zero at weight sum s =
    let b : ℕ = get_or image at 0 in
    test_told (ltb at (length image)) _ _
    (λ i. test_told (ltb top b) _ _
    (λ _. unfit)
    (λ l. last_told image first at (reach weight zero top) weight sum b (ltb-true at (length image) i)
    (rw reach_top (group_below s (omega (arith, ltb-false top b l))))))
    (λ _. ends)
told top image first (suc more) at weight sum s =
    let b : ℕ = get_or image at 0 in
    test_told (ltb at (length image)) _ _
    (λ i. test_told (leb 128 b) _ _
    (λ _. earlier (rw reach_on at (told top image first more (at + 1) (weight * 128) (sum + b % 128 * weight) (group_below s (mod-lt b (omega arith))))))
    (λ l. last_told image first at (reach weight (suc more) top) weight sum b (ltb-true at (length image) i)
    (omega (arith, group_below s (leb-false 128 b l), reach_more weight more top {n = 1} (omega arith)))))
    (λ _. ends)

number_told : (w : Width) (image : List ℕ) (at : ℕ) → Told image at at (128 ^ w.more * (w.top + 1)) (number_of w image at)
number_told w image at = rw one-mul at (told w.top image at w.more at 1 0 (omega arith))

told_good : {image : List ℕ} {first at limit value next : ℕ} → Told image first at limit (good value next)
    → (at < next) × (next ≤ length image) × (value < limit)
told_good (read l w f) = (l, w, f)

told_ends : {image : List ℕ} {first at limit place : ℕ} → Told image first at limit (Err (Ends place)) → place ≡ length image
told_ends ends = refl

told_unfit : {image : List ℕ} {first at limit place : ℕ} → Told image first at limit (Err (Unfit place)) → place ≡ first
told_unfit unfit = refl

-- A good number ends behind its first byte and inside the image, and is below the width's limit.
pub number_sound : (w : Width) (image : List ℕ) (at value next : ℕ) → number_of w image at ≡ good value next → Sound w image at value next
number_sound w image at value next e =
    omega (arith, told_good (rw e at (number_told w image at)))

-- Where the image ends inside a number, the place told is the image's length.
pub number_ends : (w : Width) (image : List ℕ) (at place : ℕ) → number_of w image at ≡ Err (Ends place) → place ≡ length image
number_ends w image at place e = told_ends (rw e at (number_told w image at))

-- Where a number is too large or not shortest, the place told is its first byte.
pub number_unfit : (w : Width) (image : List ℕ) (at place : ℕ) → number_of w image at ≡ Err (Unfit place) → place ≡ at
number_unfit w image at place e = told_unfit (rw e at (number_told w image at))

-- A good number of 32 bits is below 2^32.
pub number_32 : (image : List ℕ) (at value next : ℕ) → number_at image at ≡ good value next → value < 2 ^ 32
number_32 image at value next e = (number_sound bits32 image at value next e).fits

-- the answer of a reading behind `k` bytes, with its places counted from the front
abbrev pub shifted : ℕ → Number → Number
shifted k (Ok r) = good r.value (k + r.next)
shifted k (Err (Ends place)) = Err (Ends (k + place))
shifted k (Err (Unfit place)) = Err (Unfit (k + place))

-- what is shifted on both sides of a choice is shifted in the choice
carry : (k : ℕ) (t : Bool) (a b a' b' : Unit {0} → Number) → shifted k (a tt) ≡ a' tt → shifted k (b tt) ≡ b' tt
    → shifted k (choose t a b) ≡ choose t a' b'
carry k true a b a' b' p q = p
carry k false a b a' b' p q = q

-- a test of places is the same counted from the front
place_test : (k a b : ℕ) → eqb a b ≡ eqb (k + a) (k + b)
place_test k a b = go (eqb a b) refl
  where
    go : (t : Bool) → eqb a b ≡ t → t ≡ eqb (k + a) (k + b)
    go true e = sym (eq-eqb (k + a) (k + b) (omega (arith, eqb-true a b e)))
    go false e = sym (ne_eqb (k + a) (k + b) (λ p. eqb-false a b e (omega arith)))

inside_test : (k at : ℕ) (image : List ℕ) → ltb at (length (drop k image)) ≡ ltb (k + at) (length image)
inside_test k at image = go (ltb at (length (drop k image))) refl
  where
    go : (t : Bool) → ltb at (length (drop k image)) ≡ t → t ≡ ltb (k + at) (length image)
    go true e = sym (lt-ltb (k + at) (length image) (omega (arith, ltb-true at (length (drop k image)) e, length-drop k image)))
    go false e = sym (le-ltb (k + at) (length image) (omega (arith, ltb-false at (length (drop k image)) e, length-drop k image)))

ends_behind : (k : ℕ) (image : List ℕ) → k ≤ length image → shifted k (Err (Ends (length (drop k image)))) ≡ Err (Ends (length image))
ends_behind k image h = ap (λ p. Err (Ends p)) (omega (arith, length-drop k image))

last_behind : (k first at weight sum b : ℕ) → shifted k (last_group first at weight sum b) ≡ last_group (k + first) (k + at) weight sum b
unfolding last_group
last_behind k first at weight sum b =
    carry k (eqb b 0) _ _ _ _
    (rw (← place_test k first at) (carry k (eqb first at) _ _ _ _ (rw (← add_assoc k at 1)) refl))
    (rw (← add_assoc k at 1))

behind : (k : ℕ) (top : ℕ) (image : List ℕ) (first more at weight sum : ℕ) → k ≤ length image
    → shifted k (groups top (drop k image) first more at weight sum) ≡ groups top image (k + first) more (k + at) weight sum
unfolding groups
behind k top image first zero at weight sum h =
    let b : ℕ = get_or image (k + at) 0 in
    rw (inside_test k at image, get_or-drop)
    (carry k (ltb (k + at) (length image)) _ _ _ _
    (carry k (ltb top b) _ _ _ _ refl (last_behind k first at weight sum b))
    (ends_behind k image h))
behind k top image first (suc more) at weight sum h =
    let b : ℕ = get_or image (k + at) 0 in
    rw (inside_test k at image, get_or-drop)
    (carry k (ltb (k + at) (length image)) _ _ _ _
    (carry k (leb 128 b) _ _ _ _
    (rw (← add_assoc k at 1) at (behind k top image first more (at + 1) (weight * 128) (sum + b % 128 * weight) h))
    (last_behind k first at weight sum b))
    (ends_behind k image h))

-- Reading in the part behind `k` bytes is reading `k` bytes further on, with the places counted from the front.
pub number_behind : (w : Width) (image : List ℕ) (k at : ℕ) → k ≤ length image
    → shifted k (number_of w (drop k image) at) ≡ number_of w image (k + at)
number_behind w image k at h = behind k w.top image at w.more at 1 0 h
