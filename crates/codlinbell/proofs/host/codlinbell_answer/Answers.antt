-- `codlinbell::host::codlinbell_answer` does nothing where six numbers have no room, and else answers as `answered` says and writes the six.
use Prim.Native.Nat.{ℕ, ◌≤◌, ◌<◌}
use mathlib.Core.Path.{◌≡◌, ap, ◌∙◌}
use mathlib.Core.Bool.{Bool, true, false}
use mathlib.Core.List.{List, ◌++◌}
use lib.ListN.{length, drop}
use borrow.Author.Tests.{lt-ltb, le-ltb}
use Rattle.codlinbell.specs.Answered.{answering, answered}
use Rattle.answers.specs.Out.{Numbered, numbered, out_numbers}
use Rattle.codlinbell.specs.Hosted.{Hosted, hosted}
use Rattle.answers.specs.Answer.{Answer}
use Rattle.codlinbell.proofs.host.codlinbell_answer.Goals as goal

abbrev host : Bool → List ℕ → List ℕ → Hosted
host done ws out = record { done = done; heap = ws; out = out }

too_short : (image ws out : List ℕ) (limit : ℕ) → length out < 6 → host false ws out ≡ hosted image ws limit out
unfolding hosted
too_short image ws out limit h = rw (lt-ltb (length out) 6 h)

hosted_told : (image ws out : List ℕ) (limit : ℕ) {ws' out' : List ℕ} (a : Answer) (done : Bool) → 6 ≤ length out
    → answering a ws' ≡ answered image ws limit → ◌≡◌ {A = Numbered} (record { done = done; out = out' }) (numbered out a)
    → host done ws' out' ≡ hosted image ws limit out
unfolding hosted
hosted_told image ws out limit {ws'} {out'} a done h e q =
    let p : ◌≡◌ {A = Numbered} (record { done = done; out = out' }) (record { done = true; out = out_numbers a ++ drop 6 out }) =
    q ∙ rw (le-ltb (length out) 6 h) in
    rw (le-ltb (length out) 6 h, ← e, ap (λ (t : Numbered). t.done) p, ap (λ (t : Numbered). t.out) p)

pub returns-then-out-lt6 : goal.returns-then-out-lt6
returns-then-out-lt6 c = too_short _ _ _ _ c.if-out-lt6.true

pub returns : goal.returns
returns c = hosted_told _ _ _ _ _ _ c.if-out-lt6.false c.answer_within-answer.ensures c.write_numbers.ensures
