-- Of the type table: every entry's numbers are known, no two entries are equal, and the table that the code leaves holds the entries' codes.
-- Assumes nothing.
use mathlib.Core.Path.{◌≡◌, refl, sym, ◌∙◌, ap}
use mathlib.Core.Bool.{false}
use mathlib.Core.List.{List, [], ◌∷◌, ◌++◌, map}
use mathlib.Core.Logic.{◌⊎◌, ⊎_elim}
use Prim.Native.Nat.{ℕ, zero, suc, ◌+◌, ◌<◌, ◌≤◌}
use native.Mathlib.Nat.{eq-or-lt_of_le}
use native.Mathlib.Omega.{arith}
use lib.Dec.{eqb}
use lib.ListN.{length, get_or, set, take, drop, length-append, length-set, get_or-append}
use lib.Seq.{get_or-append_seam, get_or-take, take-suc-set, drop-set-lt}
use Rattle.std.proofs.lemmas.List.{get_or-map, map-append}
use Rattle.cells.specs.Code.{packed, mode_of, Small}
use Rattle.cells.specs.declared.Kind.{Kind}
use Rattle.cells.specs.declared.Kind.TheVariants.{Int}
use Rattle.calculus.specs.declared.Fault.TheVariants as fault
use Rattle.image.specs.Parsing.{below}
use Rattle.image.specs.Tables.{read_target, read_entry, is_among, read_types}
use Rattle.image.specs.Tabling.{types_into}
use Rattle.image.proofs.Gives.{Gives, gives, gives_none, gives_then, gives_test, gives_more}
use Rattle.image.proofs.Numbers.{below_gives}
use Rattle.image.proofs.Each.{each_of, Part}
use Rattle.image.specs.Shape.{KnownTarget, word_known, struct_known, array_known}
use Rattle.image.proofs.KnownKinds.{KnownEntry, known_int, known_more, entry_small, known_pointer, among_kinds, not_among}
use Rattle.image.proofs.Fills.{Fills, fills, fills_none, fills_told, fills_test, fills_more}

between : {a b c : ℕ} → a < b → b < c → a < c
between p q = omega arith

-- a target that was read is over the structs and word types that are known
pub target_gives : (image : List ℕ) (S known at : ℕ) → Gives (Part (KnownTarget S known) (length image) at) (read_target image S known at)
unfolding read_target
target_gives image S known at =
    gives_then (below fault.Unknown 3 image at) _ (below_gives fault.Unknown 3 image at)
    (λ kind at₁ s. gives_test (eqb kind 0) _ _
    (λ _. gives_then (below fault.Unknown known image at₁) _ (below_gives fault.Unknown known image at₁)
    (λ n at₂ t. gives (record { has = word_known t.limited_by; behind = between s.behind t.behind; within = t.within })))
    (λ _. gives_test (eqb kind 1) _ _
    (λ _. gives_then (below fault.Unknown S image at₁) _ (below_gives fault.Unknown S image at₁)
    (λ n at₂ t. gives (record { has = struct_known t.limited_by; behind = between s.behind t.behind; within = t.within })))
    (λ _. gives_then (below fault.Limit 65536 image at₁) _ (below_gives fault.Limit 65536 image at₁)
    (λ k at₂ t. gives_then (below fault.Unknown known image at₂) _ (below_gives fault.Unknown known image at₂)
    (λ n at₃ u. gives
    (record { has = array_known t.limited_by u.limited_by; behind = between s.behind (between t.behind u.behind); within = u.within }))))))

-- a type entry's numbers are below its own
pub entry_gives : (image : List ℕ) (S own at : ℕ) → Gives (Part (KnownEntry S own) (length image) at) (read_entry image S own at)
unfolding read_entry
entry_gives image S own at =
    gives_then (below fault.Unknown 2 image at) _ (below_gives fault.Unknown 2 image at)
    (λ mode at₁ s. gives_then (read_target image S own at₁) _ (target_gives image S own at₁)
    (λ ω at₂ t. gives (record { has = known_pointer (mode_of mode) t.has; behind = between s.behind t.behind; within = t.within })))

-- a list of word types: the numbers in each entry are below the entry's own, and no two entries are equal
pub record TypeList (S : ℕ) (τs : List Kind) : Type 0 where
  pub known : (i : ℕ) → i < length τs → KnownEntry S i (get_or τs i Int)
  pub distinct : (i j : ℕ) → i < j → j < length τs → get_or τs j Int ≡ get_or τs i Int → ⊥

pub int_alone : (S : ℕ) → TypeList S (Int ∷ [])
int_alone S = record { known = known; distinct = λ i j h l. absurd (omega arith) }
  where
    known : (i : ℕ) → i < 1 → KnownEntry S i (get_or (Int ∷ []) i Int)
    known zero h = known_int
    known (suc i) h = known_int

length_snoc : (τs : List Kind) (κ : Kind) → length (τs ++ κ ∷ []) ≡ suc (length τs)
length_snoc τs κ = length-append τs (κ ∷ []) ∙ (omega arith)

-- one more entry
pub type_more : (S : ℕ) (τs : List Kind) (κ : Kind) → TypeList S τs → KnownEntry S (length τs) κ → is_among κ τs ≡ false → TypeList S (τs ++ κ ∷ [])
type_more S τs κ l k e =
    record {
      known = λ i h. ⊎_elim (λ p. at_end i p) (λ p. rw (get_or-append τs (κ ∷ []) Int i p) (l.known i p)) (split i h);
      distinct = λ i j p h. ⊎_elim (λ q. last i j p q) (λ q. inner i j p q) (split j h);
    }
  where
    split : (i : ℕ) → i < length (τs ++ κ ∷ []) → (i ≡ length τs) ⊎ (i < length τs)
    split i h = let b : i < suc (length τs) = omega (arith, length_snoc τs κ) in eq-or-lt_of_le (omega arith)

    at_end : (i : ℕ) → i ≡ length τs → KnownEntry S i (get_or (τs ++ κ ∷ []) i Int)
    at_end i p = rw (p, get_or-append_seam τs κ [] Int) k

    inner : (i j : ℕ) → i < j → j < length τs → get_or (τs ++ κ ∷ []) j Int ≡ get_or (τs ++ κ ∷ []) i Int → ⊥
    inner i j p q =
        let b : i < length τs = omega arith in
        rw (get_or-append τs (κ ∷ []) Int i b, get_or-append τs (κ ∷ []) Int j q) (l.distinct i j p q)

    last : (i j : ℕ) → i < j → j ≡ length τs → get_or (τs ++ κ ∷ []) j Int ≡ get_or (τs ++ κ ∷ []) i Int → ⊥
    last i j p q =
        let b : i < length τs = omega arith in
        rw (q, get_or-append τs (κ ∷ []) Int i b, get_or-append_seam τs κ [] Int) (not_among κ τs e i b)

-- the entries that were read behind others
pub record TypesRead (image : List ℕ) (S left : ℕ) (τs : List Kind) (at : ℕ) (τs' : List Kind) (next : ℕ) : Type 0 where
  pub list : TypeList S τs'
  pub kept : (i : ℕ) → i < length τs → get_or τs' i Int ≡ get_or τs i Int
  pub long : length τs' ≡ length τs + left
  pub onward : at + left ≤ next
  pub within : at ≤ length image → next ≤ length image

pub types_give : (image : List ℕ) (S left : ℕ) (τs : List Kind) (at : ℕ) → TypeList S τs
    → Gives (TypesRead image S left τs at) (read_types image S left τs at)
unfolding read_types
types_give image S zero τs at l =
    gives {next = at} (record { list = l; kept = λ i h. refl; long = omega arith; onward = omega arith; within = λ h. h })
types_give image S (suc left) τs at l =
    gives_then (read_entry image S (length τs) at) _ (entry_gives image S (length τs) at)
    (λ κ next s. gives_test (is_among κ τs) _ _ (λ _. gives_none)
    (λ e. gives_more (λ τs' end t. step κ τs' next end s t)
    (types_give image S left (τs ++ κ ∷ []) next (type_more S τs κ l s.has e))))
  where
    step : (κ : Kind) (τs' : List Kind) (next end : ℕ) → Part (KnownEntry S (length τs)) (length image) at κ next
        → TypesRead image S left (τs ++ κ ∷ []) next τs' end → TypesRead image S (suc left) τs at τs' end
    step κ τs' next end s t =
        record {
          list = t.list;
          kept = λ i h. t.kept i (omega (arith, length_snoc τs κ)) ∙ get_or-append τs (κ ∷ []) Int i h;
          long = omega (arith, length_snoc τs κ, t.long);
          onward = omega (arith, s.behind, t.onward);
          within = λ _. t.within s.within;
        }

-- n codes at the front of the table, the rest as it was
pub record TypeTable (n : ℕ) (t : List ℕ) (τs : List Kind) (t' : List ℕ) : Type 0 where
  pub codes : take n t' ≡ map packed τs
  pub rest : drop n t' ≡ drop n t
  pub long : length t' ≡ length t

-- The type table is filled as the definition reads: `types_into` refuses where `read_types` refuses, and leaves the codes of what it reads.
pub types_fill : (image : List ℕ) (S left : ℕ) (τs : List Kind) (at : ℕ) (t : List ℕ) → S ≤ 256 → length τs + left ≤ 256
    → length τs + left ≤ length t → TypeList S τs → take (length τs) t ≡ map packed τs
    → Fills (TypeTable (length τs + left) t) (read_types image S left τs at) (types_into image S left (length τs) at t)
unfolding read_types types_into
types_fill image S zero τs at t s w room l e =
    let z : length τs + 0 ≡ length τs = omega arith in fills {a = τs} {next = at} {t = t} (record { codes = rw z e; rest = refl; long = refl })
types_fill image S (suc left) τs at t s w room l e =
    fills_told packed (read_entry image S (length τs) at) t _ _ (entry_gives image S (length τs) at)
    (λ κ next p. rw (e, among_kinds κ τs (small κ p.has) (each_of τs Int (λ i h. small _ (known_more (omega arith) (l.known i h)))))
    (fills_test (is_among κ τs) _ _ _ _ (λ _. fills_none)
    (λ n. rw (grown κ) at (fills_more
    (types_fill image S left (τs ++ κ ∷ []) next (set t (length τs) (packed κ)) s
    (omega (arith, grown κ)) (omega (arith, grown κ, length-set t (length τs) (packed κ)))
    (type_more S τs κ l p.has n) (front κ))
    (λ τs' end t' _ q. step κ τs' t' q)))))
  where
    small : (κ : Kind) → KnownEntry S (length τs) κ → Small κ
    small κ k = entry_small s (omega arith) k

    grown : (κ : Kind) → length (τs ++ κ ∷ []) ≡ length τs + 1
    grown κ = omega (arith, length_snoc τs κ)

    front : (κ : Kind) → take (length (τs ++ κ ∷ [])) (set t (length τs) (packed κ)) ≡ map packed (τs ++ κ ∷ [])
    front κ = rw (length_snoc τs κ, map-append packed τs (κ ∷ []), ← e) (take-suc-set t (length τs) (packed κ) (omega arith))

    step : (κ : Kind) (τs' : List Kind) (t' : List ℕ)
        → TypeTable (length (τs ++ κ ∷ []) + left) (set t (length τs) (packed κ)) τs' t' → TypeTable (length τs + suc left) t τs' t'
    step κ τs' t' q =
        let z : length (τs ++ κ ∷ []) + left ≡ length τs + suc left = omega (arith, grown κ) in
        let r : drop (length τs + suc left) t' ≡ drop (length τs + suc left) (set t (length τs) (packed κ)) = rw z at q.rest in
        record {
          codes = rw z at q.codes;
          rest = r ∙ drop-set-lt (length τs + suc left) t (length τs) (packed κ) (omega arith);
          long = q.long ∙ length-set t (length τs) (packed κ);
        }

-- the code of each type, by its number
pub code_at : {k : ℕ} {t t' : List ℕ} {τs : List Kind} → TypeTable k t τs t' → k ≡ length τs → (n : ℕ) → n < length τs
    → get_or t' n 0 ≡ packed (get_or τs n Int)
code_at {k} {t} {t'} {τs} h e n l =
    sym (get_or-take k t' n 0 (omega arith)) ∙ ap (λ x. get_or x n 0) h.codes ∙ get_or-map packed τs n Int 0 l
