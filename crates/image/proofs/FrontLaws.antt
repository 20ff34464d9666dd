-- Of all that stands before the expression: what holds of the tables and the cells that were read, and that the code answers what the
-- definition reads and leaves it in the tables. The cases of the reading are taken one after another.
-- Assumes nothing.
use mathlib.Core.Path.{◌≡◌, refl, sym, ◌∙◌}
use mathlib.Core.List.{List, [], ◌∷◌, map}
use Prim.Native.Nat.{ℕ, suc, ◌+◌, ◌*◌, ◌<◌, ◌≤◌}
use native.Mathlib.Numerals.{add-one}
use native.Mathlib.Omega.{arith}
use lib.ListN.{length, get_or, set, take, drop, length-set}
use lib.Seq.{take-suc-set, drop-set-lt}
use Rattle.cells.specs.Code.{packed, Small}
use Rattle.cells.specs.declared.Kind.{Kind}
use Rattle.cells.specs.declared.Kind.TheVariants.{Int}
use Rattle.std.proofs.Common.{Result, Ok, Err}
use Rattle.numbers.specs.declared.Read.{Read}
use Rattle.calculus.specs.declared.Fault.{Fault}
use Rattle.calculus.specs.declared.Refusal.{Refusal}
use Rattle.calculus.specs.declared.Fault.TheVariants as fault
use Rattle.image.specs.Content.{Tables, Placed}
use Rattle.image.specs.Parsing.{Parsed, got, refused, below, several}
use Rattle.image.specs.Tables.{read_struct, read_types}
use Rattle.image.specs.Cells.{read_cells}
use Rattle.image.specs.Image.{read_tables, read_placed}
use Rattle.image.specs.Answers.{refusal, with_next}
use Rattle.image.specs.Filled.{Filled, filled}
use Rattle.image.specs.Tabling.{TablesFilled, tabled, table_counts, structs_into, types_into, counts_at, tables_into, cells_into, placed_into}
use Rattle.image.proofs.Gives.{Gives, gives, gives_then, gives_more, given_by}
use Rattle.image.proofs.Numbers.{Below, below_gives}
use Rattle.image.proofs.Each.{Each, Series}
use Rattle.image.proofs.KnownKinds.{entry_small}
use Rattle.image.proofs.Fills.{Fills, fills_more, fills_result, fills_table}
use Rattle.image.proofs.StructLaws.{FieldList, StructTable, structs_give, structs_held}
use Rattle.image.proofs.TypeLaws.{TypeList, TypesRead, TypeTable, int_alone, types_give, types_fill}
use Rattle.image.proofs.CellLaws.{Rising, CellsRead, CellTable, cells_give, cells_held}

-- what holds of tables that were read: every number in them is known, no two types are equal, and type 0 is int
pub record TablesGood (t : Tables) : Type 0 where
  pub few_structs : length t.structs ≤ 32
  pub some_types : 0 < length t.types
  pub few_types : length t.types ≤ 256
  pub fields : Each (FieldList (length t.types)) t.structs
  pub types_known : TypeList (length t.structs) t.types
  pub int_first : get_or t.types 0 Int ≡ Int

pub record TablesRead (image : List ℕ) (at : ℕ) (t : Tables) (next : ℕ) : Type 0 where
  pub good : TablesGood t
  pub behind : at < next
  pub within : next ≤ length image

-- the numbers of every kind in them fit the packed code
pub kinds_small : {t : Tables} → TablesGood t → (n : ℕ) → n < length t.types → Small (get_or t.types n Int)
kinds_small {t} g n h = entry_small (few g.few_structs) (fits g.few_types h) (g.types_known.known n h)
  where
    few : length t.structs ≤ 32 → length t.structs ≤ 256
    few l = omega arith

    fits : {m : ℕ} → m ≤ 256 → n < m → n ≤ 256
    fits l k = omega arith

module _ (image : List ℕ) (at : ℕ) where
  pub tables_give : Gives (TablesRead image at) (read_tables image at)
  unfolding read_tables
  tables_give =
      gives_then (below fault.Limit 33 image at) _ (below_gives fault.Limit 33 image at)
      (λ S at₁ s. gives_then (below fault.Limit 256 image at₁) _ (below_gives fault.Limit 256 image at₁)
      (λ T at₂ t. gives_then (several (read_struct image T) S at₂) _ (structs_give image T S at₂)
      (λ structs at₃ u. gives_then (read_types image S T (Int ∷ []) at₃) _ (types_give image S T (Int ∷ []) at₃ (int_alone S))
      (λ types at₄ v. gives (tables S at₁ T at₂ structs at₃ types at₄ s t u v)))))
    where
      tables : (S at₁ T at₂ : ℕ) (structs : List (List ℕ)) (at₃ : ℕ) (types : List Kind) (at₄ : ℕ) → Below 33 image at S at₁ → Below 256 image at₁ T at₂
          → Series (FieldList (suc T)) S (length image) at₂ structs at₃ → TypesRead image S T (Int ∷ []) at₃ types at₄
          → TablesRead image at (record { structs = structs; types = types }) at₄
      tables S at₁ T at₂ structs at₃ types at₄ s t u v =
          let n : suc T ≡ length types = omega (arith, v.long) in
          record {
            good =
                record {
                  few_structs = omega (arith, u.long, s.limited_by);
                  some_types = omega arith;
                  few_types = omega (arith, t.limited_by);
                  fields = rw n at u.each;
                  types_known = rw u.long v.list;
                  int_first = v.kept 0 (omega arith);
                };
            behind = omega (arith, s.behind, t.behind, u.onward, v.onward);
            within = v.within (u.within t.within);
          }

-- cells that were read at `at`, with their count
pub record PlacedRead (image : List ℕ) (words : ℕ) (types : List Kind) (at : ℕ) (ps : List Placed) (next : ℕ) : Type 0 where
  pub few : length ps ≤ 4096
  pub rises : Rising words types 0 ps
  pub onward : at + 3 * length ps < next
  pub within : next ≤ length image

pub placed_give : (words : ℕ) (image : List ℕ) (t : Tables) (at : ℕ) → Gives (PlacedRead image words t.types at) (read_placed words image t at)
unfolding read_placed
placed_give words image t at =
    gives_then (below fault.Limit 4097 image at) _ (below_gives fault.Limit 4097 image at)
    (λ C next s. gives_more (λ ps end c. cells C next ps end s c) (cells_give image words t.types C 0 next))
  where
    cells : (C next : ℕ) (ps : List Placed) (end : ℕ) → Below 4097 image at C next → CellsRead image words t.types C 0 next ps end
        → PlacedRead image words t.types at ps end
    cells C next ps end s c =
        record {
          few = omega (arith, s.limited_by, c.long);
          rises = c.rises;
          onward = omega (arith, s.behind, c.onward, c.long);
          within = c.within s.within;
        }

-- the tables of structs and types as the code leaves them
pub record TablesHeld (ss ts : List ℕ) (t : Tables) (S T : ℕ) (ss' ts' : List ℕ) : Type 0 where
  pub structs_count : S ≡ length t.structs
  pub types_count : T + 1 ≡ length t.types
  pub structs_table : 17 * S ≤ length ss → StructTable S ss t.structs ss'
  pub types_table : TypeTable (T + 1) ts t.types ts'

pub data TablesAre (ss ts : List ℕ) : Parsed Tables → TablesFilled → Type 0 where
  tables_are : {t : Tables} {S T next : ℕ} {ss' ts' : List ℕ} → TablesHeld ss ts t S T ss' ts'
      → TablesAre ss ts (got t next) (tabled (Ok (with_next (table_counts S T) next)) ss' ts')
  tables_refused : {f : Fault} {p : ℕ} {ss' ts' : List ℕ} → TablesAre ss ts (refused f p) (tabled (Err (refusal f p)) ss' ts')

-- type 0 is int: the table that the other types are read into
int_written : (ts : List ℕ) → 0 < length ts → take 1 (set ts 0 1) ≡ map packed (Int ∷ [])
unfolding packed
int_written ts h = take-suc-set ts 0 1 h

types_fill_all : (image : List ℕ) (S T at : ℕ) (ts : List ℕ) → S ≤ 256 → T < 256 → 256 ≤ length ts
    → Fills (TypeTable (T + 1) ts) (read_types image S T (Int ∷ []) at) (types_into image S T 1 at (set ts 0 1))
types_fill_all image S T at ts s w room =
    fills_more
    (types_fill image S T (Int ∷ []) at (set ts 0 1) s (omega arith) (omega (arith, length-set ts 0 1)) (int_alone S) (int_written ts (omega arith)))
    (λ τs _ t' _ q. whole τs t' q)
  where
    whole : (τs : List Kind) (t' : List ℕ) → TypeTable (1 + T) (set ts 0 1) τs t' → TypeTable (T + 1) ts τs t'
    whole τs t' q =
        let z : 1 + T ≡ T + 1 = omega arith in
        let r : drop (T + 1) t' ≡ drop (T + 1) (set ts 0 1) = rw z at q.rest in
        record {
          codes = rw z at q.codes;
          rest = r ∙ drop-set-lt (T + 1) ts 0 1 (omega arith);
          long = q.long ∙ length-set ts 0 1;
        }

module _ (image : List ℕ) (at : ℕ) (ss ts : List ℕ) (room : 256 ≤ length ts) where
  module _ {S at₁ T at₂ : ℕ} (e₁ : below fault.Limit 33 image at ≡ got S at₁) (e₂ : below fault.Limit 256 image at₁ ≡ got T at₂) where
    few : (S < 33) × (T < 256)
    few = ((given_by (below_gives fault.Limit 33 image at) e₁).limited_by, (given_by (below_gives fault.Limit 256 image at₁) e₂).limited_by)

    structs_filled : Fills (λ xs t'. 17 * S ≤ length ss → StructTable S ss xs t') (several (read_struct image T) S at₂) (structs_into image (T + 1) S 0 at₂ ss)
    structs_filled = rw (add-one T) (structs_held image T S at₂ ss)

    fourth : {xs : List (List ℕ)} {at₃ : ℕ} (e₃ : several (read_struct image T) S at₂ ≡ got xs at₃) (r : Parsed (List Kind))
        → read_types image S T (Int ∷ []) at₃ ≡ r → TablesAre ss ts (read_tables image at) (tables_into image at ss ts)
    unfolding read_tables tables_into counts_at
    fourth {xs} {at₃} e₃ (got types at₄) e₄ =
        let sf = rw e₃ at structs_filled in
        let tf = rw e₄ at (types_fill_all image S T at₃ ts (omega (arith, few)) few.1 room) in
        let n : T + 1 ≡ length types = omega (arith, (given_by (types_give image S T (Int ∷ []) at₃ (int_alone S)) e₄).long) in
        rw (e₁, e₂, e₃, e₄, fills_result sf, fills_result tf)
        (tables_are
        (record {
          structs_count = sym (given_by (structs_give image T S at₂) e₃).long;
          types_count = n;
          structs_table = fills_table sf;
          types_table = fills_table tf;
        }))
    fourth {xs} {at₃} e₃ (refused f p) e₄ =
        let sf = rw e₃ at structs_filled in
        let tf = rw e₄ at (types_fill_all image S T at₃ ts (omega (arith, few)) few.1 room) in
        rw (e₁, e₂, e₃, e₄, fills_result sf, fills_result tf) tables_refused

    third : (r : Parsed (List (List ℕ))) → several (read_struct image T) S at₂ ≡ r
        → TablesAre ss ts (read_tables image at) (tables_into image at ss ts)
    unfolding read_tables tables_into counts_at
    third (got xs at₃) e₃ = fourth e₃ (read_types image S T (Int ∷ []) at₃) refl
    third (refused f p) e₃ = let sf = rw e₃ at structs_filled in rw (e₁, e₂, e₃, fills_result sf) tables_refused

  second : {S at₁ : ℕ} (e₁ : below fault.Limit 33 image at ≡ got S at₁) (r : Parsed ℕ) → below fault.Limit 256 image at₁ ≡ r
      → TablesAre ss ts (read_tables image at) (tables_into image at ss ts)
  unfolding read_tables tables_into counts_at
  second {S} {at₁} e₁ (got T at₂) e₂ = third e₁ e₂ (several (read_struct image T) S at₂) refl
  second e₁ (refused f p) e₂ = rw (e₁, e₂) tables_refused

  first : (r : Parsed ℕ) → below fault.Limit 33 image at ≡ r → TablesAre ss ts (read_tables image at) (tables_into image at ss ts)
  unfolding read_tables tables_into counts_at
  first (got S at₁) e₁ = second e₁ (below fault.Limit 256 image at₁) refl
  first (refused f p) e₁ = rw e₁ tables_refused

  -- The tables are read as the definition reads them, if there is room for the types.
  pub tables_fill : TablesAre ss ts (read_tables image at) (tables_into image at ss ts)
  tables_fill = first (below fault.Limit 33 image at) refl

-- what the code knows of tables that were read, and of such that were refused
pub record TablesOpened (ss ts : List ℕ) (t : Tables) (next : ℕ) (F : TablesFilled) : Type 0 where
  pub S : ℕ
  pub T : ℕ
  pub answer : F.result ≡ Ok (with_next (table_counts S T) next)
  pub held : TablesHeld ss ts t S T F.structs F.types

pub tables_opened : {ss ts : List ℕ} {t : Tables} {next : ℕ} {F : TablesFilled} → TablesAre ss ts (got t next) F → TablesOpened ss ts t next F
tables_opened (tables_are {S = S} {T = T} h) = record { S = S; T = T; answer = refl; held = h }

pub tables_unopened : {ss ts : List ℕ} {f : Fault} {p : ℕ} {F : TablesFilled} → TablesAre ss ts (refused f p) F
    → F.result ≡ Err (refusal f p)
tables_unopened tables_refused = refl

-- the cells as the code leaves them
pub data PlacedAre (cs : List ℕ) : Parsed (List Placed) → Filled (Result (Read ℕ) Refusal) → Type 0 where
  placed_are : {ps : List Placed} {C next : ℕ} {cs' : List ℕ} → C ≡ length ps → (3 * C ≤ length cs → CellTable C cs ps cs')
      → PlacedAre cs (got ps next) (filled (Ok (with_next C next)) cs')
  placed_refused : {f : Fault} {p : ℕ} {cs' : List ℕ} → PlacedAre cs (refused f p) (filled (Err (refusal f p)) cs')

pub record PlacedOpened (cs : List ℕ) (ps : List Placed) (next : ℕ) (F : Filled (Result (Read ℕ) Refusal)) : Type 0 where
  pub C : ℕ
  pub answer : F.result ≡ Ok (with_next C next)
  pub count : C ≡ length ps
  pub table_of : 3 * C ≤ length cs → CellTable C cs ps F.table

pub placed_opened : {cs : List ℕ} {ps : List Placed} {next : ℕ} {F : Filled (Result (Read ℕ) Refusal)} → PlacedAre cs (got ps next) F
    → PlacedOpened cs ps next F
placed_opened (placed_are {C = C} c t) = record { C = C; answer = refl; count = c; table_of = t }

pub placed_unopened : {cs : List ℕ} {f : Fault} {p : ℕ} {F : Filled (Result (Read ℕ) Refusal)} → PlacedAre cs (refused f p) F → F.result ≡ Err (refusal f p)
placed_unopened placed_refused = refl

module _ (words : ℕ) (image : List ℕ) (t : Tables) (codes : List ℕ)
    (coded : (n : ℕ) → n < length t.types → get_or codes n 0 ≡ packed (get_or t.types n Int)) (at : ℕ) (cs : List ℕ) where
  cells_filled : (C next : ℕ) → Fills (λ ps t'. 3 * C ≤ length cs → CellTable C cs ps t') (read_cells image words t.types C 0 next)
      (cells_into image words codes (length t.types) C 0 0 next cs)
  cells_filled C next = cells_held image words t.types codes coded C next cs

  behind_count : {C next : ℕ} (e₁ : below fault.Limit 4097 image at ≡ got C next) (r : Parsed (List Placed))
      → read_cells image words t.types C 0 next ≡ r → PlacedAre cs (read_placed words image t at) (placed_into image words codes (length t.types) at cs)
  unfolding read_placed placed_into
  behind_count {C} {next} e₁ (got ps end) e₂ =
      let cf = rw e₂ at (cells_filled C next) in
      let n : C ≡ length ps = sym (given_by (cells_give image words t.types C 0 next) e₂).long in
      rw (e₁, e₂, fills_result cf) (placed_are n (fills_table cf))
  behind_count {C} {next} e₁ (refused f p) e₂ =
      let cf = rw e₂ at (cells_filled C next) in rw (e₁, e₂, fills_result cf) placed_refused

  count_read : (r : Parsed ℕ) → below fault.Limit 4097 image at ≡ r
      → PlacedAre cs (read_placed words image t at) (placed_into image words codes (length t.types) at cs)
  unfolding read_placed placed_into
  count_read (got C next) e₁ = behind_count e₁ (read_cells image words t.types C 0 next) refl
  count_read (refused f p) e₁ = rw e₁ placed_refused

  -- The cells are read as the definition reads them, if the table holds the codes of the types.
  pub placed_fill : PlacedAre cs (read_placed words image t at) (placed_into image words codes (length t.types) at cs)
  placed_fill = count_read (below fault.Limit 4097 image at) refl
