-- `codlinbell::answer::judge_and_run` answers by the verdict on the content, and runs it if that is good.
use Rattle.std.proofs.lemmas.Result.{err_from_is_err_and}
use Rattle.codlinbell.proofs.Composed.{accepted_told, refused_told, bound_written}
use Rattle.codlinbell.proofs.answer.judge_and_run.Goals as goal

pub returns : goal.returns
returns c image content p =
    accepted_told p _ c.judge_script.ensures c.in_ok-judge_script.was
    (c.place_and_run.ensures image content c.args.marks.now c.args.queue.now (bound_written p c.judge_script.auto.bound))

pub returns-in_err-judge_script : goal.returns-in_err-judge_script
returns-in_err-judge_script c image content p =
    let told = err_from_is_err_and c.from_residual.result c.from_residual.ensures.1 in
    rw (told.1, told.2) (refused_told p _ c.judge_script.ensures c.in_err-judge_script.was)
