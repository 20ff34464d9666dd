-- The promises, from bytes: what the answer to any image is, over any lent heap and limit. A reader starts here.
use Rattle.std.specs.Prelude.{Ok, Err, Some}
use Prim.Native.Nat.{ℕ}
use mathlib.Core.Path.{◌≡◌, refl, ap, subst, ◌∙◌}
use mathlib.Core.List.{List, []}
use native.Mathlib.Omega.{arith}
use lib.ListN.{length}
use Rattle.cells.specs.Lent.{heap_words, lent}
use Rattle.cells.specs.declared.Kind.{Kind}
use Rattle.cells.specs.declared.Mode.TheVariants.{Checked}
use Rattle.calculus.specs.Setting.{cell}
use Rattle.calculus.specs.Expr.{operators}
use Rattle.calculus.specs.Typing.{Typed, whole}
use Rattle.calculus.specs.Judge.{Verdict, good, bad}
use Rattle.calculus.specs.declared.Refusal.{Refusal}
use Rattle.calculus.specs.declared.End.{End}
use Rattle.calculus.specs.declared.End.TheVariants.{Value, Halted, Stuck, More}
use Rattle.calculus.specs.declared.Outcome.{Outcome}
use Rattle.calculus.proofs.Apart.{differ}
use Rattle.calculus.proofs.Accepted.{accepted}
use Rattle.calculus.specs.Counts.{Counts, Allowed}
use Rattle.calculus.specs.GoodEnd.{Sized}
use Rattle.calculus.proofs.Counted.{counted, allowed}
use Rattle.calculus.proofs.Refused.{refused_first}
use Rattle.calculus.proofs.Blameless.{blameless}
use Rattle.image.specs.Content.{Content}
use Rattle.image.specs.Parsing as reading
use Rattle.image.specs.Image.{read_image}
use Rattle.image.specs.declared.Format.{Format}
use Rattle.image.proofs.Gives.{given_by}
use Rattle.image.proofs.LoadLaws.{ContentRead, content_gives}
use Rattle.codlinbell.proofs.Heaps.{heap_length}
use Rattle.codlinbell.specs.Answered.{Answered, answered, read_then, judged_then, content_verdict, content_run}
use Rattle.codlinbell.specs.Promised.{setting_in, heap_in, Right, unread, untyped, runs, Blameless, StepsCounted, FromValue}
use Rattle.answers.specs.Readings.{end_reading, reading_of}
use Rattle.answers.specs.Answer.{Answer}

module _ (image ws : List ℕ) (limit : ℕ) where
  judged_right : (c : Content) (next : ℕ) → read_image (heap_words ws) image ≡ reading.got c next
      → (v : Verdict) → content_verdict ws c ≡ v → Right image ws limit (judged_then ws v (λ _. content_run ws limit c))
  judged_right c next q (good κ) e = runs q ((accepted (setting_in ws c) (heap_in ws c) c.expr κ).0 e)
  judged_right c next q (bad f i) e = untyped q ((refused_first (setting_in ws c) (heap_in ws c) c.expr f i).0 e)

  read_right : (r : reading.Parsed Content) → read_image (heap_words ws) image ≡ r → Right image ws limit (read_then ws limit r)
  read_right (reading.got c next) q = judged_right c next q (content_verdict ws c) refl
  read_right (reading.refused f p) q = unread q

  -- Demands 1 and 2: the answer is the one of the three that fits.
  pub answered_right : Right image ws limit (answered image ws limit)
  unfolding answered
  answered_right = read_right (read_image (heap_words ws) image) refl

-- Malloc stays within the heap, and addresses are far below where sums wrap.
pub sized : (image ws : List ℕ) {c : Content} {next : ℕ} → read_image (heap_words ws) image ≡ reading.got c next → Sized (setting_in ws c) (heap_in ws c)
sized image ws {c} {next} q =
    let h : length (heap_in ws c) ≡ heap_words ws = heap_length (heap_words ws) c.cells in
    let r : ContentRead (heap_words ws) image c next = given_by (content_gives (heap_words ws) image) q in
    let w : c.format.width ≡ 32 = ap (λ (m : Format). m.width) r.format_is in
    record { above = omega arith; within = omega arith; wide = rw w (omega arith) }

-- the same, of a content that reads and has a type
run_blameless : (image ws : List ℕ) (limit : ℕ) (c : Content) (next : ℕ) (κ : Kind) → read_image (heap_words ws) image ≡ reading.got c next
    → Typed (setting_in ws c) (heap_in ws c) whole [] Checked c.expr κ → (content_run ws limit c).outcome.first ≡ 0
    → Blameless image ws (content_run ws limit c).outcome (lent (content_run ws limit c).heap ws)
run_blameless image ws limit c next κ q t z =
    record {
      content = c;
      next = next;
      reads = q;
      kind = κ;
      announced = (accepted (setting_in ws c) (heap_in ws c) c.expr κ).1 t;
      heap = (content_run ws limit c).heap;
      left = refl;
      end_good = blameless (setting_in ws c) (heap_in ws c) c.expr κ limit (sized image ws q) t z;
    }

right_blameless : {image ws : List ℕ} {limit : ℕ} {a : Answered} → Right image ws limit a → (o : Outcome) → a.answer ≡ Ok o → o.first ≡ 0
    → Blameless image ws o a.heap
right_blameless (unread e) o q z = differ cc
right_blameless (untyped e f) o q z = differ cc
right_blameless {image} {ws} {limit} (runs {c} {next} {κ} e t) o q z =
    let p : (content_run ws limit c).outcome ≡ o = cc in
    subst (λ (o : Outcome). Blameless image ws o (lent (content_run ws limit c).heap ws)) p
    (run_blameless image ws limit c next κ e t (ap (λ (o : Outcome). o.first) p ∙ z))

-- Demand 3, from bytes: where an image was run and no step of the run was unchecked, nor was it stuck inside an unchecked block, the run's
-- end is good: never Stuck, and a value of the announced type that is well typed over the heap that it leaves.
pub never_to_blame : (image ws : List ℕ) (limit : ℕ) (o : Outcome) → (answered image ws limit).answer ≡ Ok o → o.first ≡ 0
    → Blameless image ws o (answered image ws limit).heap
never_to_blame image ws limit o q z = right_blameless (answered_right image ws limit) o q z

right_stepped : {image ws : List ℕ} {limit : ℕ} {a : Answered} → Right image ws limit a → (o : Outcome) → a.answer ≡ Ok o
    → StepsCounted image ws limit o
right_stepped (unread e) o q = differ cc
right_stepped (untyped e f) o q = differ cc
right_stepped {image} {ws} {limit} (runs {c} {next} e t) o q =
    let p : (content_run ws limit c).outcome ≡ o = cc in
    let n : Counts (operators c.expr) (content_run ws limit c) = counted (setting_in ws c) limit (heap_in ws c) c.expr in
    let l : Allowed limit (content_run ws limit c) = allowed (setting_in ws c) limit (heap_in ws c) c.expr in
    subst (λ (o : Outcome). StepsCounted image ws limit o) p
    (record { content = c; next = next; reads = e; few = n.few; all = n.all; left = n.left; allowed = l.most; spent = l.spent })

-- "If a run ends with Value, its steps equal the count of nodes of codes 2 to 9; no run takes more."
pub steps_counted : (image ws : List ℕ) (limit : ℕ) (o : Outcome) → (answered image ws limit).answer ≡ Ok o → StepsCounted image ws limit o
steps_counted image ws limit o q = right_stepped (answered_right image ws limit) o q

right_kept : {image ws : List ℕ} {limit : ℕ} {a : Answered} → Right image ws limit a → (r : Refusal) → a.answer ≡ Err r → a.heap ≡ ws
right_kept (unread e) r q = refl
right_kept (untyped e f) r q = refl
right_kept (runs e t) r q = differ cc

-- "On a refusal every heap word, beyond W too, is as it was."
pub refused_kept : (image ws : List ℕ) (limit : ℕ) (r : Refusal) → (answered image ws limit).answer ≡ Err r
    → (answered image ws limit).heap ≡ ws
refused_kept image ws limit r q = right_kept (answered_right image ws limit) r q

end_read : (o : Outcome) (e : End) (n : ℕ) → o.end ≡ e → end_reading e ≡ Some n → FromValue (Ok o) n
end_read o (Value c) n q r =
    let p : c.value ≡ n = cc in
    record { outcome = o; kind = c.kind; ran_it = refl; value = q ∙ ap (λ (k : ℕ). Value (cell k c.kind)) p }
end_read o (Halted h) n q r = differ cc
end_read o Stuck n q r = differ cc
end_read o More n q r = differ cc

-- "a Value gives its number as the reading. Every other end gives none."
pub reading_is_value : (a : Answer) (n : ℕ) → reading_of a ≡ Some n → FromValue a n
reading_is_value (Err r) n q = differ cc
reading_is_value (Ok o) n q = end_read o o.end n refl q
