-- What is promised of the answer to an image, from bytes: which of three answers it is, and what holds of a run.
use Rattle.std.specs.Prelude.{ℕ, ◌≤◌, ◌<◌, ◌≡◌, List, [], Ok}
use Rattle.cells.specs.Heap.{Heap}
use Rattle.cells.specs.Lent.{heap_words, lent}
use Rattle.cells.specs.declared.Kind.{Kind}
use Rattle.cells.specs.declared.Cell.{Cell}
use Rattle.cells.specs.declared.Mode.TheVariants.{Checked}
use Rattle.calculus.specs.Setting.{Setting, cell}
use Rattle.calculus.specs.Expr.{operators}
use Rattle.calculus.specs.Typing.{Typed, whole}
use Rattle.calculus.specs.Judge.{good}
use Rattle.calculus.specs.Run.{run}
use Rattle.calculus.specs.FirstFault.{FirstFault}
use Rattle.calculus.specs.GoodEnd.{GoodEnd}
use Rattle.calculus.specs.declared.Fault.{Fault}
use Rattle.calculus.specs.declared.End.TheVariants.{Value, More}
use Rattle.calculus.specs.declared.Outcome.{Outcome}
use Rattle.image.specs.Content.{Content, setting_of, heap_of}
use Rattle.image.specs.Parsing as reading
use Rattle.image.specs.Image.{read_image}
use Rattle.codlinbell.specs.Answered.{Answered, refusing, ran, content_verdict}
use Rattle.answers.specs.Answer.{Answer}

-- the setting and the heap of a content over a lent heap
abbrev pub setting_in : List ℕ → Content → Setting
setting_in ws c = setting_of (heap_words ws) c

abbrev pub heap_in : List ℕ → Content → Heap
heap_in ws c = heap_of (heap_words ws) c.cells

-- Every image has one of three answers: it doesn't read; it reads, and a node is the first to fail; or it reads, the rules derive a
-- type for it over its own heap, and it is run by the stepping rules. On a refusal the lent numbers are as they were.
pub data Right (image ws : List ℕ) (limit : ℕ) : Answered → Type 0 where
  unread : {f : Fault} {p : ℕ} → read_image (heap_words ws) image ≡ reading.refused f p → Right image ws limit (refusing ws f p)
  untyped : {c : Content} {next i : ℕ} {f : Fault} → read_image (heap_words ws) image ≡ reading.got c next
      → FirstFault (setting_in ws c) (heap_in ws c) whole [] Checked 0 c.expr f i → Right image ws limit (refusing ws f i)
  runs : {c : Content} {next : ℕ} {κ : Kind} → read_image (heap_words ws) image ≡ reading.got c next
      → Typed (setting_in ws c) (heap_in ws c) whole [] Checked c.expr κ
      → Right image ws limit (ran ws (run (setting_in ws c) limit (heap_in ws c) c.expr))

-- What demand 3 promises of a run of the image's content.
pub record Blameless (image ws : List ℕ) (o : Outcome) (final : List ℕ) : Type 0 where
  pub content : Content
  pub next : ℕ
  pub reads : read_image (heap_words ws) image ≡ reading.got content next
  -- the announced type
  pub kind : Kind
  pub announced : content_verdict ws content ≡ good kind
  -- the heap that the run leaves, in the lent numbers
  pub heap : Heap
  pub left : final ≡ lent heap ws
  pub end_good : GoodEnd (setting_in ws content) heap kind o.end

-- What is promised of the steps of a run of the image's content.
pub record StepsCounted (image ws : List ℕ) (limit : ℕ) (o : Outcome) : Type 0 where
  pub content : Content
  pub next : ℕ
  pub reads : read_image (heap_words ws) image ≡ reading.got content next
  pub few : o.steps ≤ operators content.expr
  pub all : (c : Cell) → o.end ≡ Value c → o.steps ≡ operators content.expr
  pub left : o.end ≡ More → o.steps < operators content.expr
  pub allowed : o.steps ≤ limit
  pub spent : o.end ≡ More → o.steps ≡ limit

-- A reading is the number of a Value that a run ended with, and of nothing else.
pub record FromValue (a : Answer) (n : ℕ) : Type 0 where
  pub outcome : Outcome
  pub kind : Kind
  pub ran_it : a ≡ Ok outcome
  pub value : outcome.end ≡ Value (cell n kind)
