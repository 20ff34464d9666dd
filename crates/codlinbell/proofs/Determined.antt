-- Determined: for each public function, any two answers that meet its contract are equal, and so is the lent memory that they leave.
use Rattle.std.specs.Prelude.{Result, Ok, Err}
use Rattle.cells.specs.declared.Kind.{Kind}
use Rattle.calculus.specs.declared.Refusal.{Refusal}
use Prim.Native.Nat.{ℕ, ◌+◌}
use mathlib.Core.Path.{◌≡◌, sym, ap, ◌∙◌}
use mathlib.Core.List.{List, [], ◌∷◌, ◌++◌}
use lib.ListN.{length}
use lib.Seq.{sets}
use Rattle.calculus.proofs.Apart.{differ}
use Rattle.judge.specs.Script.{as_verdict}
use Rattle.codlinbell.specs.Answered.{Answered, answering, answered, announced}
use Rattle.answers.specs.Out.{Numbered, numbered}
use Rattle.codlinbell.specs.Hosted.{Hosted, hosted}
use Rattle.answers.specs.Line.{line}
use Rattle.answers.specs.Answer.{Answer}

-- answer_within, and answer_to with the default limit
pub answer_determined : (image ws : List ℕ) (limit : ℕ) (a b : Answer) (ws₁ ws₂ : List ℕ) → answering a ws₁ ≡ answered image ws limit
    → answering b ws₂ ≡ answered image ws limit → (a ≡ b) × (ws₁ ≡ ws₂)
answer_determined image ws limit a b ws₁ ws₂ p q =
    let same : answering a ws₁ ≡ answering b ws₂ = p ∙ sym q in (ap (λ (r : Answered). r.answer) same, ap (λ (r : Answered). r.heap) same)

-- an answer of the judge is determined by the verdict that it says
same_judged : (a b : Result Kind Refusal) → as_verdict a ≡ as_verdict b → a ≡ b
same_judged (Ok κ) (Ok κ') p = cc
same_judged (Ok κ) (Err q) p = differ cc
same_judged (Err q) (Ok κ) p = differ cc
same_judged (Err q) (Err q') p =
    let f : q.fault ≡ q'.fault = cc in
    let i : q.place ≡ q'.place = cc in
    λ t. Err (record { fault = f t; place = i t })

-- judge_image
pub verdict_determined : (words : ℕ) (image : List ℕ) (a b : Result Kind Refusal) → as_verdict a ≡ announced words image → as_verdict b ≡ announced words image → a ≡ b
verdict_determined words image a b p q = same_judged a b (p ∙ sym q)

-- codlinbell_answer
pub host_determined : (image ws out : List ℕ) (limit : ℕ) (a b : Hosted) → a ≡ hosted image ws limit out → b ≡ hosted image ws limit out → a ≡ b
host_determined image ws out limit a b p q = p ∙ sym q

-- write_numbers
pub numbers_determined : (out : List ℕ) (answer : Answer) (a b : Numbered) → a ≡ numbered out answer → b ≡ numbered out answer → a ≡ b
numbers_determined out answer a b p q = p ∙ sym q

-- write_line
pub line_determined : (out : List ℕ) (answer : Answer) (n m : ℕ) (a b : List ℕ) → n ≡ length (line answer) + 1 → m ≡ length (line answer) + 1
    → a ≡ sets out 0 (line answer ++ 10 ∷ []) → b ≡ sets out 0 (line answer ++ 10 ∷ []) → (n ≡ m) × (a ≡ b)
line_determined out answer n m a b p q r s = (p ∙ sym q, r ∙ sym s)
