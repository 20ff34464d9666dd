-- Of the struct table: every struct has 1 to 16 fields of known word types, and the table that the code leaves holds them.
-- Assumes nothing.
use mathlib.Core.Path.{◌≡◌, refl, sym, ◌∙◌}
use mathlib.Core.Bool.{Bool, true, false}
use mathlib.Core.List.{List, [], ◌∷◌}
use Prim.Native.Nat.{ℕ, zero, suc, ◌+◌, ◌*◌, ◌<◌, ◌≤◌}
use native.Mathlib.Numerals.{add-one}
use native.Mathlib.Omega.{arith}
use lib.Dec.{eqb, ltb}
use lib.ListN.{length, get_or, set, take, drop, length-drop, get_or-eq_default}
use lib.Seq.{sets, length-sets, length-take-le, get_or-take, get_or-drop, ext_get_or}
use borrow.Author.Tests.{ltb-true, ltb-false, eqb-false}
use Rattle.calculus.specs.declared.Fault.TheVariants as fault
use Rattle.image.specs.Parsing.{below, several}
use Rattle.image.specs.Tables.{read_struct}
use Rattle.image.specs.Tabled.{HeldStructs}
use Rattle.image.specs.Tabling.{fields_into, struct_into, structs_into}
use Rattle.image.proofs.Gives.{Gives, gives_none, gives_then, gives_test, gives_more, given_by}
use Rattle.image.proofs.Numbers.{Below, below_gives}
use Rattle.image.proofs.Each.{Each, each_more, each_at, each_map, Part, Series, series_gives}
use Rattle.image.proofs.Sets.{sets_before, sets_behind, sets_there}
use Rattle.image.proofs.Fills.{Fills, fills, fills_none, fills_then, fills_onward, fills_as, fills_test, fills_more}

-- 1 to 16 fields of the word types below `known`
pub record FieldList (known : ℕ) (fs : List ℕ) : Type 0 where
  pub some : 0 < length fs
  pub few : length fs ≤ 16
  pub each_known : Each (λ n. n < known) fs

-- `count` numbers of word types
fields_give : (image : List ℕ) (T count at : ℕ) → Gives (Series (λ n. n < suc T) count (length image) at) (several (below fault.Unknown (suc T) image) count at)
fields_give image T count at =
    series_gives (λ n. n < suc T) (length image) (below fault.Unknown (suc T) image)
    (λ at. gives_more (λ n next s. part n at next s) (below_gives fault.Unknown (suc T) image at)) count at
  where
    part : (n at next : ℕ) → Below (suc T) image at n next → Part (λ n. n < suc T) (length image) at n next
    part n at next s = record { has = s.limited_by; behind = s.behind; within = s.within }

pub struct_gives_lem : (image : List ℕ) (T at : ℕ) → Gives (Part (FieldList (suc T)) (length image) at) (read_struct image T at)
unfolding read_struct
struct_gives_lem image T at =
    gives_then (below fault.Limit 17 image at) _ (below_gives fault.Limit 17 image at)
    (λ count next s. gives_test (eqb count 0) _ _ (λ _. gives_none)
    (λ n. gives_more (λ fs end t. part count next fs end s (eqb-false count 0 n) t) (fields_give image T count next)))
  where
    part : (count next : ℕ) (fs : List ℕ) (end : ℕ) → Below 17 image at count next → (count ≡ 0 → ⊥)
        → Series (λ n. n < suc T) count (length image) next fs end → Part (FieldList (suc T)) (length image) at fs end
    part count next fs end s n t =
        record {
          has = record { some = omega (arith, t.long); few = omega (arith, t.long, s.limited_by); each_known = t.each };
          behind = omega (arith, s.behind, t.onward);
          within = t.within s.within;
        }

-- k structs in a row
pub structs_give : (image : List ℕ) (T k at : ℕ) → Gives (Series (FieldList (suc T)) k (length image) at) (several (read_struct image T) k at)
structs_give image T k at = series_gives (FieldList (suc T)) (length image) (read_struct image T) (struct_gives_lem image T) k at

-- what the readers leave in the table: fields in a row, a struct, structs at a stride of 17
fields_fill : (image : List ℕ) (known left to at : ℕ) (t : List ℕ)
    → Fills (λ ns t'. t' ≡ sets t to ns) (several (below fault.Unknown known image) left at) (fields_into image known left to at t)
unfolding several fields_into
fields_fill image known zero to at t = fills {a = []} {next = at} {t = t} refl
fields_fill image known (suc left) to at t =
    fills_then (below fault.Unknown known image at) t _ _ (below_gives fault.Unknown known image at)
    (λ n next s. fills_as (λ ns. n ∷ ns) (fields_fill image known left (to + 1) next (set t to n)) (λ ns _ t' _ e. rw (add-one to) at e))

row : List ℕ → List ℕ
row fs = length fs ∷ fs

struct_fill : (image : List ℕ) (T to at : ℕ) (t : List ℕ)
    → Fills (λ fs t'. t' ≡ sets t to (row fs)) (read_struct image T at) (struct_into image (suc T) to at t)
unfolding read_struct struct_into row
struct_fill image T to at t =
    fills_then (below fault.Limit 17 image at) t _ _ (below_gives fault.Limit 17 image at)
    (λ count next s. fills_test (eqb count 0) _ _ _ _ (λ _. fills_none)
    (λ _. fills_more (fields_fill image (suc T) count (to + 1) next (set t to count))
    (λ fs end t' g e. written count fs t' (given_by (fields_give image T count next) g).long e)))
  where
    written : (count : ℕ) (fs t' : List ℕ) → length fs ≡ count → t' ≡ sets (set t to count) (to + 1) fs → t' ≡ sets (set t to (length fs)) (suc to) fs
    written count fs t' l e = rw l (rw (add-one to) at e)

unfoldable struct_rows : List ℕ → ℕ → List (List ℕ) → List ℕ
struct_rows t to [] = t
struct_rows t to (fs ∷ ss) = struct_rows (sets t to (row fs)) (to + 17) ss

structs_fill : (image : List ℕ) (T k to at : ℕ) (t : List ℕ)
    → Fills (λ ss t'. t' ≡ struct_rows t to ss) (several (read_struct image T) k at) (structs_into image (suc T) k to at t)
unfolding several structs_into struct_rows
structs_fill image T zero to at t = fills {a = []} {next = at} {t = t} refl
structs_fill image T (suc k) to at t =
    fills_onward _ _ (struct_fill image T to at t)
    (λ fs next t₁ _ e. fills_as (λ ss. fs ∷ ss) (structs_fill image T k (to + 17) next t₁) (λ ss _ t' _ h. rw e at h))

-- where the structs stand
rows_long : (t : List ℕ) (to : ℕ) (ss : List (List ℕ)) → length (struct_rows t to ss) ≡ length t
unfolding struct_rows
rows_long t to [] = refl
rows_long t to (fs ∷ ss) = rows_long (sets t to (row fs)) (to + 17) ss ∙ length-sets t to (row fs)

rows_before : (t : List ℕ) (to : ℕ) (ss : List (List ℕ)) (i : ℕ) → i < to → get_or (struct_rows t to ss) i 0 ≡ get_or t i 0
unfolding struct_rows
rows_before t to [] i h = refl
rows_before t to (fs ∷ ss) i h = rows_before (sets t to (row fs)) (to + 17) ss i (omega arith) ∙ sets_before t to (row fs) i h

Few : List ℕ → Type 0
Few fs = length fs ≤ 16

rows_behind : (t : List ℕ) (to : ℕ) (ss : List (List ℕ)) (i : ℕ) → Each Few ss → to + 17 * length ss ≤ i → get_or (struct_rows t to ss) i 0 ≡ get_or t i 0
unfolding struct_rows row Few
rows_behind t to [] i f h = refl
rows_behind t to (fs ∷ ss) i (each_more l f) h =
    rows_behind (sets t to (row fs)) (to + 17) ss i f (omega arith) ∙ sets_behind t to (row fs) i (omega arith)

rows_there : (t : List ℕ) (to : ℕ) (ss : List (List ℕ)) → Each Few ss → to + 17 * length ss ≤ length t → (s j : ℕ) → s < length ss
    → j ≤ length (get_or ss s []) → get_or (struct_rows t to ss) (to + (17 * s + j)) 0 ≡ get_or (row (get_or ss s [])) j 0
unfolding struct_rows row Few
rows_there t to [] f room s j h l = absurd (omega arith)
rows_there t to (fs ∷ ss) (each_more q f) room zero j h l =
    let z : to + (17 * 0 + j) ≡ to + j = omega arith in
    rw z (rows_before (sets t to (row fs)) (to + 17) ss (to + j) (omega arith) ∙ sets_there t to (row fs) j (omega arith) (omega arith))
rows_there t to (fs ∷ ss) (each_more q f) room (suc s) j h l =
    let z : to + (17 * suc s + j) ≡ to + 17 + (17 * s + j) = omega arith in
    rw z (rows_there (sets t to (row fs)) (to + 17) ss f (omega (arith, length-sets t to (row fs))) s j (omega arith) l)

-- the table holds the structs at its front, the rest as it was
pub record StructTable (k : ℕ) (t : List ℕ) (ss : List (List ℕ)) (t' : List ℕ) : Type 0 where
  pub held : HeldStructs (take (17 * k) t') ss
  pub rest : drop (17 * k) t' ≡ drop (17 * k) t
  pub long : length t' ≡ length t

module _ (t : List ℕ) (ss : List (List ℕ)) (few : Each Few ss) (room : 17 * length ss ≤ length t) where
  front_long : length (take (17 * length ss) (struct_rows t 0 ss)) ≡ 17 * length ss
  front_long = length-take-le (17 * length ss) (struct_rows t 0 ss) (omega (arith, rows_long t 0 ss))

  inside : (s j : ℕ) → s < length ss → j ≤ length (get_or ss s []) → 17 * s + j < 17 * length ss
      → get_or (take (17 * length ss) (struct_rows t 0 ss)) (17 * s + j) 0 ≡ get_or (row (get_or ss s [])) j 0
  inside s j h l b =
      let z : 0 + (17 * s + j) ≡ 17 * s + j = omega arith in
      get_or-take (17 * length ss) (struct_rows t 0 ss) (17 * s + j) 0 b ∙ rw z at (rows_there t 0 ss few (omega arith) s j h l)

  counts : (s : ℕ) → get_or (take (17 * length ss) (struct_rows t 0 ss)) (17 * s) 0 ≡ length (get_or ss s [])
  unfolding row
  counts s = go (ltb s (length ss)) refl
    where
      go : (b : Bool) → ltb s (length ss) ≡ b → get_or (take (17 * length ss) (struct_rows t 0 ss)) (17 * s) 0 ≡ length (get_or ss s [])
      go true e =
          let h : s < length ss = ltb-true s (length ss) e in
          let z : 17 * s + 0 ≡ 17 * s = omega arith in
          rw z at (inside s 0 h (omega arith) (omega arith))
      go false e =
          let h : length ss ≤ s = ltb-false s (length ss) e in
          get_or-eq_default (take (17 * length ss) (struct_rows t 0 ss)) 0 {n = 17 * s} (omega (arith, front_long))
          ∙ rw (get_or-eq_default ss [] {n = s} h)

  fields : (s i : ℕ) → i < length (get_or ss s [])
      → get_or (take (17 * length ss) (struct_rows t 0 ss)) (17 * s + 1 + i) 0 ≡ get_or (get_or ss s []) i 0
  unfolding row Few
  fields s i l = go (ltb s (length ss)) refl
    where
      go : (b : Bool) → ltb s (length ss) ≡ b
          → get_or (take (17 * length ss) (struct_rows t 0 ss)) (17 * s + 1 + i) 0 ≡ get_or (get_or ss s []) i 0
      go true e =
          let h : s < length ss = ltb-true s (length ss) e in
          let z : 17 * s + suc i ≡ 17 * s + 1 + i = omega arith in
          rw z at (inside s (suc i) h l (omega (arith, each_at few s [] h)))
      go false e =
          let h : length ss ≤ s = ltb-false s (length ss) e in
          let l' : i < 0 = rw (get_or-eq_default ss [] {n = s} h) at l in absurd (omega arith)

  behind : drop (17 * length ss) (struct_rows t 0 ss) ≡ drop (17 * length ss) t
  behind =
      ext_get_or 0 _ _ (rw (length-drop (17 * length ss) (struct_rows t 0 ss), length-drop (17 * length ss) t, rows_long t 0 ss))
      (λ i _. get_or-drop (17 * length ss) (struct_rows t 0 ss) i 0
      ∙ rows_behind t 0 ss (17 * length ss + i) few (omega arith)
      ∙ sym (get_or-drop (17 * length ss) t i 0))

  held_table : StructTable (length ss) t ss (struct_rows t 0 ss)
  held_table =
      record { held = record { long = front_long; count = counts; fields = fields }; rest = behind; long = rows_long t 0 ss }

-- The struct table is filled as the definition reads: `structs_into` refuses where `read_struct` refuses, and where there is room it leaves
-- what it reads.
pub structs_held : (image : List ℕ) (T k at : ℕ) (t : List ℕ)
    → Fills (λ ss t'. 17 * k ≤ length t → StructTable k t ss t') (several (read_struct image T) k at) (structs_into image (suc T) k 0 at t)
unfolding Few
structs_held image T k at t =
    fills_more (structs_fill image T k 0 at t)
    (λ ss next t' g e room. table ss t' (given_by (structs_give image T k at) g) e room)
  where
    table : (ss : List (List ℕ)) (t' : List ℕ) {next : ℕ} → Series (FieldList (suc T)) k (length image) at ss next → t' ≡ struct_rows t 0 ss
        → 17 * k ≤ length t → StructTable k t ss t'
    table ss t' p e room =
        let few : Each Few ss = each_map (λ fs q. q.few) p.each in
        rw (e, ← p.long) (held_table t ss few (omega (arith, p.long)))
