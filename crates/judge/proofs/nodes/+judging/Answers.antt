-- The goals of `judge_node` and `judge_access` of `judge::nodes` that the check leaves.
use Rattle.std.proofs.lemmas.Result.{err_from_is_err_and}
use mathlib.Core.Path.{◌≡◌, sym, ◌∙◌}
use Prim.Native.Nat.{ℕ, ◌+◌, ◌-◌}
use Rattle.judge.specs.Nodes.{judging, judge_node}
use Rattle.judge.specs.Parts.{is_access, inner_mode}
use Rattle.judge.specs.Rows.{operation_at}
use Rattle.judge.proofs.Turns.{part_bad, is_one, second_bad, is_two, by_access, by_node, side_bad, other_bad, is_act}
use Rattle.judge.proofs.nodes.+judging.Goals as goal
use Rattle.judge.proofs.nodes.+judging.Goals.{judge_node-Joined-is_access, judge_node-then-is_access, judge_node-else-is_access}

-- the first part, whichever judge was asked
joined : (t : ℕ) (c : judge_node-Joined-is_access t) → judging c.if-is_access.part c.if-is_access.bound
    ≡ judge_node c.args.script.now.structs.now c.args.script.now.types.now c.args.script.now.nodes.now c.args.good (c.args.left - 1)
    (is_access (operation_at c.args.script.now.nodes.now c.args.i)) c.args.lets
    (inner_mode (operation_at c.args.script.now.nodes.now c.args.i) c.args.mode) (c.args.i + 1) c.args.bound.now
joined t c =
    let read = c.operation_at-operation.ensures in
    let asked = rw read at c.is_access.ensures in
    elim c.if-is_access.branch [
      | judge_node-then-is_access w ↦
          rw (w.part-is, w.bound-is) (by_access _ _ _ _ _ _ _ _ _ _ _ (sym asked ∙ w.if-is_access.true) w.judge_access-part.ensures)
      | judge_node-else-is_access w ↦
          rw (w.part-is, w.bound-is)
          (by_node _ _ _ _ _ _ _ _ _ _ _ (sym asked ∙ w.if-is_access.false) (rw (w.inner_mode-inside.ensures, read) at w.judge_node-part.ensures))
    ]

pub judge_node-returns-in_err-x : goal.judge_node-returns-in_err-x
judge_node-returns-in_err-x t c =
    let p = err_from_is_err_and c.from_residual.result c.from_residual.ensures.1 in
    rw (p.1, p.2)
    (part_bad _ _ _ _ _ _ _ _ _ _ c.if-left-eq0.false (rw (c.parts-count.ensures, c.operation_at-operation.ensures) at c.if-count-eq0.false) _ _
    (rw c.in_err-x.was at (joined t (goal.at.judge_node-returns-in_err-x t c).Joined-is_access)))

pub judge_node-returns-then-count-eq1 : goal.judge_node-returns-then-count-eq1
judge_node-returns-then-count-eq1 t c =
    let read = c.operation_at-operation.ensures in
    rw (c.one_told.ensures, read)
    (is_one _ _ _ _ _ _ _ _ _ _ c.if-left-eq0.false (rw (c.parts-count.ensures, read) at c.if-count-eq0.false) _ _
    (rw c.in_ok-x.was at (joined t (goal.at.judge_node-returns-then-count-eq1 t c).Joined-is_access))
    (rw (c.parts-count.ensures, read) at c.if-count-eq1.true))

pub judge_node-returns-in_err-y : goal.judge_node-returns-in_err-y
judge_node-returns-in_err-y t c =
    let read = c.operation_at-operation.ensures in
    let p = err_from_is_err_and c.from_residual-in_err-y.result c.from_residual-in_err-y.ensures.1 in
    rw (p.1, p.2)
    (second_bad _ _ _ _ _ _ _ _ _ _ c.if-left-eq0.false (rw (c.parts-count.ensures, read) at c.if-count-eq0.false) _ _
    (rw c.in_ok-x.was at (joined t (goal.at.judge_node-returns-in_err-y t c).Joined-is_access))
    (rw (c.parts-count.ensures, read) at c.if-count-eq1.false) _ _
    (rw (c.in_err-y.was, c.row-second.ensures, c.inner_lets-deep.ensures, c.bind_kind.ensures, read) at c.judge_node.ensures))

pub judge_node-returns : goal.judge_node-returns
judge_node-returns t c =
    let read = c.operation_at-operation.ensures in
    rw (c.two_told.ensures, read)
    (is_two _ _ _ _ _ _ _ _ _ _ c.if-left-eq0.false (rw (c.parts-count.ensures, read) at c.if-count-eq0.false) _ _
    (rw c.in_ok-x.was at (joined t (goal.at.judge_node-returns t c).Joined-is_access))
    (rw (c.parts-count.ensures, read) at c.if-count-eq1.false) _ _
    (rw (c.in_ok-y.was, c.row-second.ensures, c.inner_lets-deep.ensures, c.bind_kind.ensures, read) at c.judge_node.ensures))

pub judge_access-returns-in_err-x : goal.judge_access-returns-in_err-x
judge_access-returns-in_err-x t c =
    let p = err_from_is_err_and c.from_residual.result c.from_residual.ensures.1 in
    rw (p.1, p.2)
    (side_bad _ _ _ _ _ _ _ _ _ c.if-left-eq0.false (rw (← c.operation_at-operation.ensures, ← c.on_wholes.ensures) c.if-on_wholes.true) _ _
    (rw c.in_err-x.was at c.judge_node.ensures))

pub judge_access-returns-in_err-y : goal.judge_access-returns-in_err-y
judge_access-returns-in_err-y t c =
    let p = err_from_is_err_and c.from_residual-in_err-y.result c.from_residual-in_err-y.ensures.1 in
    rw (p.1, p.2)
    (other_bad _ _ _ _ _ _ _ _ _ c.if-left-eq0.false (rw (← c.operation_at-operation.ensures, ← c.on_wholes.ensures) c.if-on_wholes.true) _ _
    (rw c.in_ok-x.was at c.judge_node.ensures) _ _
    (rw (c.in_err-y.was, c.row-second.ensures) at c.judge_node-then-on_wholes.ensures))

pub judge_access-returns-then-on_wholes : goal.judge_access-returns-then-on_wholes
judge_access-returns-then-on_wholes t c =
    let read = c.operation_at-operation.ensures in
    rw (c.two_told.ensures, read)
    (is_act _ _ _ _ _ _ _ _ _ c.if-left-eq0.false (rw (← read, ← c.on_wholes.ensures) c.if-on_wholes.true) _ _
    (rw c.in_ok-x.was at c.judge_node.ensures) _ _
    (rw (c.in_ok-y.was, c.row-second.ensures) at c.judge_node-then-on_wholes.ensures))
