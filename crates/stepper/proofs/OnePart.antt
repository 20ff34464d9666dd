-- What a node with one part gives on codes is what the definition's redex gives on the kinds that have them.
use Rattle.std.proofs.Common.{◌≡◌, ℕ, List, length, sym, ap, ◌∙◌}
use Rattle.cells.specs.Code.{packed, Small}
use Rattle.cells.specs.Heap.{Heap, SmallHeap}
use Rattle.cells.specs.Lent.{lent}
use Rattle.cells.specs.declared.Cell.{Cell}
use Rattle.calculus.specs.Setting.{Setting}
use Rattle.calculus.specs.Expr.{One, unchecked, cast, read, field}
use Rattle.calculus.specs.Steps.{one_redex}
use Rattle.tables.specs.Kinds.{type_code_at}
use Rattle.tables.specs.Rows.{type_kind}
use Rattle.tables.proofs.Held.{type_kind_lem, type_exact}
use Rattle.tables.proofs.Operands.{one_task, OneOperands}
use Rattle.yields.specs.declared.Terms.{Terms}
use Rattle.yields.specs.declared.ArrayCounts.TheVariants.{Cut}
use Rattle.yields.proofs.GivesAs.{GivesAs, OnTerms, gives_on, gives_coded, field_as, read_as}
use Rattle.stepper.specs.Nodes.{one_gives}

module _ {S : Setting} {T : Terms} {ws structs types : List ℕ} (L : OnTerms S T ws structs types) (H : Heap) (s : SmallHeap H)
    (long : length H ≡ T.words) where
  pub one_as : (o : One) (c : Cell) (slot datum : ℕ) → OneOperands types o slot datum → Small c.kind
      → GivesAs H ws (lent H ws) (one_gives structs types T.words (lent H ws) c.value (packed c.kind) (one_task o) slot datum)
      (one_redex S H o c.value c.kind)
  unfolding one_gives
  one_as unchecked c slot datum e k = gives_on L H s long c k
  one_as (cast κ) c slot datum e k =
      let q : type_kind types slot ≡ κ = e in
      gives_coded L H s long c.value (type_code_at types slot) κ (sym (type_exact L.setting slot) ∙ ap packed q)
      (rw (sym q ∙ type_kind_lem L.setting slot) (L.setting.small slot))
  one_as read c slot datum e k = read_as L H s long Cut c.value c.kind k
  one_as (field f) c slot datum e k = let q : datum ≡ f = e in rw q (field_as L H s long f c.value c.kind k)
