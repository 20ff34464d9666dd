-- Of runs of free addresses: when one begins at an address, how the search for the lowest goes on, and what it gives.
use Rattle.std.proofs.Common.{◌≡◌, ℕ, zero, suc, ◌+◌, ◌-◌, ◌<◌, ◌≤◌, Bool, true, false, ◌⊎◌, sym, refl, ◌∙◌, ⊎_elim, eq-or-lt_of_le, arith, Option, Some, None}
use Rattle.choice.specs.Choice.{choose, all_from}
use Rattle.cells.specs.Free.{first_run, lowest_in}

-- the k addresses from a on are free, each of them
pub record Vacant (free : ℕ → Bool) (k a : ℕ) : Type 0 where
  pub each : (b : ℕ) → a ≤ b → b < a + k → free b ≡ true

clash : {t : Bool} → t ≡ true → t ≡ false → ⊥
clash p q = let z : ◌≡◌ {A = ℕ} 0 1 = cc in omega arith

not_true : (t : Bool) → (t ≡ true → ⊥) → t ≡ false
not_true true n = absurd (n refl)
not_true false n = refl

record Both (s t : Bool) : Type 0 where
  first : s ≡ true
  second : t ≡ true

both_true : (s t : Bool) → choose s (λ _. t) (λ _. false) ≡ true → Both s t
both_true true t e = record { first = refl; second = e }
both_true false t e = absurd (clash e refl)

module _ (free : ℕ → Bool) where
  -- a run that `all_from` accepts is vacant
  pub vacant : (k a : ℕ) → all_from free k a ≡ true → Vacant free k a
  unfolding all_from
  vacant zero a r = record { each = λ b l m. absurd (omega arith) }
  vacant (suc k) a r =
      let two : Both (free a) (all_from free k (suc a)) = both_true (free a) (all_from free k (suc a)) r in
      let rest : Vacant free k (suc a) = vacant k (suc a) two.second in
      record { each = λ b l m. ⊎_elim (λ e. rw (← e) two.first) (λ h. rest.each b h (omega arith)) (eq-or-lt_of_le l) }

  -- a vacant run is accepted
  pub all_free : (k a : ℕ) → Vacant free k a → all_from free k a ≡ true
  unfolding all_from
  all_free zero a v = refl
  all_free (suc k) a v =
      rw (v.each a (omega arith) (omega arith)) (all_free k (suc a) (record { each = λ b l m. v.each b (omega arith) (omega arith) }))

  -- a run goes on over one more free address
  pub run_more : (j a : ℕ) → all_from free j a ≡ true → free (a + j) ≡ true → all_from free (suc j) a ≡ true
  run_more j a r h =
      all_free (suc j) a (record { each = λ b l m. ⊎_elim (λ e. rw e h) (λ l'. (vacant j a r).each b l l') (below b m) })
    where
      below : (b : ℕ) → b < a + suc j → (b ≡ a + j) ⊎ (b < a + j)
      below b m = eq-or-lt_of_le (omega arith)

  -- no run passes an address that is not free
  pub run_ends : (k a b : ℕ) → a ≤ b → b < a + k → free b ≡ false → all_from free k a ≡ false
  run_ends k a b l m h = not_true (all_from free k a) (λ r. clash ((vacant k a r).each b l m) h)

  -- the first start of a search: none is left, a run begins, or none does
  at_none : (k a n : ℕ) → n ≡ 0 → first_run free k n a ≡ None
  unfolding first_run
  at_none k a n z = rw z

  at_run : (k a n : ℕ) → 0 < n → all_from free k a ≡ true → first_run free k n a ≡ Some a
  unfolding first_run
  at_run k a zero l r = absurd (omega arith)
  at_run k a (suc n) l r = rw r

  at_other : (k a n n' : ℕ) → n' ≡ n - 1 → all_from free k a ≡ false → first_run free k n a ≡ first_run free k n' (suc a)
  unfolding first_run
  at_other k a zero n' e r = let z : n' ≡ 0 = omega arith in rw z
  at_other k a (suc n) n' e r = let z : n' ≡ n = omega arith in rw (z, r)

  -- a search ends where no room is left
  pub no_room : (k a high : ℕ) → high + 1 < a + k → lowest_in free k a high ≡ None
  no_room k a high l = at_none k a _ (omega arith)

  -- a search ends where a run begins
  pub begins : (k a high : ℕ) → a + k ≤ high + 1 → all_from free k a ≡ true → lowest_in free k a high ≡ Some a
  begins k a high l r = at_run k a _ (omega arith) r

  -- a search passes a start that begins no run
  pub skip_one : (k a high : ℕ) → all_from free k a ≡ false → lowest_in free k a high ≡ lowest_in free k (suc a) high
  skip_one k a high r = at_other k a _ _ (omega arith) r

  -- a search passes every start whose run would meet an address that is not free
  pub skip_to : (k a b high : ℕ) → a ≤ b → b < a + k → free b ≡ false → lowest_in free k a high ≡ lowest_in free k (b + 1) high
  skip_to k a b high l m h = go (b - a) a (omega arith) m
    where
      go : (d a : ℕ) → b ≡ a + d → b < a + k → lowest_in free k a high ≡ lowest_in free k (b + 1) high
      go zero a e m = let s : suc a ≡ b + 1 = omega arith in rw (← s) (skip_one k a high (run_ends k a b (omega arith) m h))
      go (suc d) a e m = skip_one k a high (run_ends k a b (omega arith) m h) ∙ go d (suc a) (omega arith) (omega arith)

-- the lowest run of k within low to high begins at a
pub record Lowest (free : ℕ → Bool) (k low high a : ℕ) : Type 0 where
  pub from : low ≤ a
  pub within : a + k ≤ high + 1
  pub run : Vacant free k a
  pub first : (s : ℕ) → low ≤ s → s < a → Vacant free k s → ⊥

-- no run of k lies within low to high
pub record NoRun (free : ℕ → Bool) (k low high : ℕ) : Type 0 where
  pub none : (s : ℕ) → low ≤ s → s + k ≤ high + 1 → Vacant free k s → ⊥

data Found (free : ℕ → Bool) (k low high : ℕ) : Option ℕ → Type 0 where
  found : {a : ℕ} → Lowest free k low high a → Found free k low high (Some a)
  found_none : NoRun free k low high → Found free k low high None

module _ (free : ℕ → Bool) (k high : ℕ) where
  -- a start from low on that begins a run comes after low, if none begins there
  later : (low s : ℕ) → all_from free k low ≡ false → low ≤ s → Vacant free k s → suc low ≤ s
  later low s n l v = ⊎_elim (λ e. absurd (clash (all_free free k s v) (rw e at n))) (λ h. h) (eq-or-lt_of_le l)

  passed : (low : ℕ) {r : Option ℕ} → all_from free k low ≡ false → Found free k (suc low) high r → Found free k low high r
  passed low n (found {a} m) =
      found
      {a = a}
      (record { from = omega arith; within = m.within; run = m.run; first = λ s l h v. m.first s (later low s n l v) h v })
  passed low n (found_none m) = found_none (record { none = λ s l h v. m.none s (later low s n l v) h v })

  search_finds : (n low : ℕ) → n ≡ (high + 2) - (low + k) → Found free k low high (first_run free k n low)
  unfolding first_run
  search_finds zero low e = found_none (record { none = λ s l h v. absurd (omega arith) })
  search_finds (suc n) low e = go (all_from free k low) refl (search_finds n (suc low) (omega arith))
    where
      go : (t : Bool) → all_from free k low ≡ t → Found free k (suc low) high (first_run free k n (suc low))
          → Found free k low high (choose t (λ _. Some low) (λ _. first_run free k n (suc low)))
      go true r f =
          found
          {a = low}
          (record { from = omega arith; within = omega arith; run = vacant free k low r; first = λ s l h v. absurd (omega arith) })
      go false r f = passed low r f

  finds : (low : ℕ) → Found free k low high (lowest_in free k low high)
  finds low = search_finds _ low (omega arith)

  -- what a search finds is the lowest run
  pub lowest : (low a : ℕ) → lowest_in free k low high ≡ Some a → Lowest free k low high a
  lowest low a e = go (rw e at (finds low))
    where
      go : Found free k low high (Some a) → Lowest free k low high a
      go (found m) = m

  -- where a search finds nothing there is no run
  pub no_run : (low : ℕ) → lowest_in free k low high ≡ None → NoRun free k low high
  no_run low e = go (rw e at (finds low))
    where
      go : Found free k low high None → NoRun free k low high
      go (found_none m) = m

module _ (free : ℕ → Bool) (k high : ℕ) where
  -- where no run starts below an address, a search may start there
  pub lowest_from_lem : (low from : ℕ) → low ≤ from → ((s : ℕ) → low ≤ s → s < from → Vacant free k s → ⊥)
      → lowest_in free k from high ≡ lowest_in free k low high
  lowest_from_lem low from l none = sym (go (from - low) low (omega arith) none)
    where
      go : (d low : ℕ) → low + d ≡ from → ((s : ℕ) → low ≤ s → s < from → Vacant free k s → ⊥)
          → lowest_in free k low high ≡ lowest_in free k from high
      go zero low e n = let same : low ≡ from = omega arith in rw same
      go (suc d) low e n =
          skip_one free k low high (not_true (all_from free k low) (λ r. n low (omega arith) (omega arith) (vacant free k low r)))
          ∙ go d (suc low) (omega arith) (λ s l' m. n s (omega arith) m)

  -- a run of more has one of fewer, and where fewer addresses are free a run was free before
  pub vacant_before : (free' : ℕ → Bool) (more a : ℕ) → k ≤ more → ((b : ℕ) → free' b ≡ true → free b ≡ true) → Vacant free' more a
      → Vacant free k a
  vacant_before free' more a l h v = record { each = λ b m n. h b (v.each b m (omega arith)) }

-- two tests that agree from low up to high
module _ (f g : ℕ → Bool) (low high : ℕ) (agree : (b : ℕ) → low ≤ b → b ≤ high → f b ≡ g b) where
  all_free_same : (k a : ℕ) → low ≤ a → a + k ≤ high + 1 → all_from f k a ≡ all_from g k a
  unfolding all_from
  all_free_same zero a m l = refl
  all_free_same (suc k) a m l = rw (agree a m (omega arith), all_free_same k (suc a) (omega arith) (omega arith))

  first_run_same : (k n a : ℕ) → low ≤ a → n ≤ (high + 2) - (a + k) → first_run f k n a ≡ first_run g k n a
  unfolding first_run
  first_run_same k zero a m l = refl
  first_run_same k (suc n) a m l = rw (all_free_same k a m (omega arith), first_run_same k n (suc a) (omega arith) (omega arith))

  -- a search tests no address below low or above high
  pub lowest_same : (k : ℕ) → lowest_in f k low high ≡ lowest_in g k low high
  lowest_same k = first_run_same k _ low (omega arith) (omega arith)
