-- `judge::judge_script` judges the literals and then the nodes, and its answer is the definition's (`right`). Assumes nothing.
use Rattle.std.specs.Prelude.{Result}
use mathlib.Core.Path.{◌≡◌, ◌∙◌, ap}
use mathlib.Core.Bool.{false}
use mathlib.Core.List.{List}
use Prim.Native.Nat.{ℕ, ◌/◌}
use lib.ListN.{length}
use Rattle.cells.specs.declared.Mode.TheVariants.{Checked}
use Rattle.judge.specs.Literals.{found, first_bad}
use Rattle.judge.specs.Nodes.{judging, judge_node}
use Rattle.judge.specs.Script.{Scripted, scripted, as_judged, as_verdict, judged_script, ScriptJudged}
use Rattle.calculus.specs.declared.Refusal.{Refusal}
use Rattle.std.proofs.lemmas.Result.{err_from_is_err_and}
use Rattle.judge.proofs.Right.{right}
use Rattle.judge.proofs.judge_script.Goals as goal

together : (structs types cells nodes marks queue bound marks' queue' bound' : List ℕ) (first : ℕ) (t : Result ℕ Refusal)
    → found first marks' queue' ≡ first_bad structs types cells nodes marks queue
    → judging t bound' ≡ judge_node structs types nodes first (length nodes / 4) false 0 Checked 0 bound
    → ScriptJudged structs types cells nodes marks queue bound (as_judged t) marks' queue' bound'
together structs types cells nodes marks queue bound marks' queue' bound' first t e f =
    let m : scripted (as_judged t) marks' queue' bound' ≡ judged_script structs types cells nodes marks queue bound = rw (← e, ← f) in
    record { model = m; definition = λ words c h r. ap (λ (a : Scripted). as_verdict a.verdict) m ∙ right h r }

pub returns : goal.returns
returns c = rw c.from.ensures (together _ _ _ _ c.args.marks.now c.args.queue.now _ _ _ _ _ _ c.first_bad-good.ensures (rw c.in_ok-code.was at c.judge_node.ensures))

pub returns-in_err-code : goal.returns-in_err-code
returns-in_err-code c =
    let p = err_from_is_err_and c.from_residual.result c.from_residual.ensures.1 in
    rw (p.1, p.2) (together _ _ _ _ c.args.marks.now c.args.queue.now _ _ _ _ _ _ c.first_bad-good.ensures (rw c.in_err-code.was at c.judge_node.ensures))
