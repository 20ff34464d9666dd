-- A script that is ready to be run: what its tables and terms are, and that a node with one part gives what the redex of the definition gives.
use Rattle.std.proofs.Common.{◌≡◌, ℕ, zero, suc, List, [], ◌∷◌, map, length, get_or, refl}
use Rattle.cells.specs.Code.{packed, Small}
use Rattle.cells.specs.Heap.{Heap, SmallHeap}
use Rattle.cells.specs.Lent.{lent}
use Rattle.cells.specs.declared.Kind.{Kind}
use Rattle.cells.specs.declared.Kind.TheVariants.{Int}
use Rattle.cells.specs.declared.Cell.{Cell}
use Rattle.calculus.specs.Setting.{Setting, cell}
use Rattle.calculus.specs.Expr.{Expr, One, unchecked, cast, read, field}
use Rattle.calculus.specs.Steps.{one_redex}
use Rattle.image.specs.Shape.{SmallOne, small_cast}
use Rattle.image.specs.Tabled.{one_operation, one_argument, one_kind}
use Rattle.yields.specs.declared.Terms.{Terms}
use Rattle.yields.specs.declared.ArrayCounts.TheVariants.{Whole}
use Rattle.yields.proofs.GivesAs.{GivesAs, OnTerms, gives_on, read_as, field_as}
use Rattle.machine.specs.States.{coded_value}
use Rattle.machine.specs.Redexes.{one_yield}
use Rattle.machine.specs.Ready.{Ready}

-- the codes of word types, int's past the end
type_at : (τs : List Kind) (n : ℕ) → get_or (map packed τs) n 1 ≡ packed (get_or τs n Int)
unfolding packed
type_at [] n = refl
type_at (τ ∷ τs) zero = refl
type_at (τ ∷ τs) (suc n) = type_at τs n

pub on_terms : {S : Setting} {T : Terms} {H : Heap} {e : Expr} {ws heap frames bound table structs types : List ℕ}
    → Ready S T H e ws heap frames bound table structs types → OnTerms S T ws structs types
on_terms {S} r =
    record {
      setting = record {
        codes = λ n. rw r.types_held (type_at S.types n);
        count = r.structs_held.count;
        fields = r.structs_held.fields;
        small = r.types_small;
        bytes = r.fields_small;
      };
      width_is = r.width_is;
      low_is = r.low_is;
      high_is = r.high_is;
      low_above = r.low_above;
      high_within = r.high_within;
      heap_room = r.heap_room;
      words_few = r.words_few;
    }

module _ {S : Setting} {T : Terms} {ws structs types : List ℕ} (L : OnTerms S T ws structs types) (H : Heap) (s : SmallHeap H)
    (long : length H ≡ T.words) where
  pub node_as : (o : One) (c : Cell) → SmallOne o → Small c.kind
      → GivesAs H ws (lent H ws)
      (one_yield structs T.words (lent H ws) (coded_value c.value (packed c.kind)) (one_operation o) (one_argument o) (one_kind o))
      (one_redex S H o c.value c.kind)
  unfolding one_yield
  node_as unchecked c o k = gives_on L H s long c k
  node_as (cast κ) c (small_cast o) k = gives_on L H s long (cell c.value κ) o
  node_as read c o k = read_as L H s long Whole c.value c.kind k
  node_as (field f) c o k = field_as L H s long f c.value c.kind k
