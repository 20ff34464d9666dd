-- The answer for an image, a lent heap and a limit: the refusal, with the heap as it was lent, or the run's result and the heap's
-- final numbers.
use Rattle.std.specs.Prelude.{ℕ, List, Ok, Err}
use Rattle.cells.specs.Lent.{heap_words, lent}
use Rattle.calculus.specs.Judge.{Verdict, good, bad, judged}
use Rattle.calculus.specs.Run.{Result, run}
use Rattle.calculus.specs.declared.Fault.{Fault}
use Rattle.image.specs.Content.{Content, setting_of, heap_of}
use Rattle.image.specs.Parsing as reading
use Rattle.image.specs.Image.{read_image}
use Rattle.answers.specs.Answer.{Answer}

-- the answer, and the numbers of the lent heap
pub record Answered : Type 0 where
  pub answer : Answer
  pub heap : List ℕ

abbrev pub answering : Answer → List ℕ → Answered
answering a ws = record { answer = a; heap = ws }

-- "On a refusal every heap word, beyond W too, is as it was."
abbrev pub refusing : List ℕ → Fault → ℕ → Answered
refusing ws f p = answering (Err (record { fault = f; place = p })) ws

-- the result of a run, with the heap's words in the lent numbers
abbrev pub ran : List ℕ → Result → Answered
ran ws r = answering (Ok r.outcome) (lent r.heap ws)

-- "Where no limit is named it is 100,000."
abbrev pub default_limit : ℕ
default_limit = 100000

module _ (ws : List ℕ) where
  -- the verdict on the content of an image
  abbrev pub content_verdict : Content → Verdict
  content_verdict c = judged (setting_of (heap_words ws) c) (heap_of (heap_words ws) c.cells) c.expr

  -- the run of the content of an image
  abbrev pub content_run : (limit : ℕ) → Content → Result
  content_run limit c = run (setting_of (heap_words ws) c) limit (heap_of (heap_words ws) c.cells) c.expr

  -- "Typing starts after the whole image is read."
  abbrev pub judged_then : Verdict → (Unit {0} → Result) → Answered
  judged_then (good κ) go = ran ws (go tt)
  judged_then (bad f i) go = refusing ws f i

  abbrev pub read_then : (limit : ℕ) → reading.Parsed Content → Answered
  read_then limit (reading.got c next) = judged_then (content_verdict c) (λ _. content_run limit c)
  read_then limit (reading.refused f p) = refusing ws f p

-- the answer to an image over lent heap numbers, with at most `limit` steps
unfoldable pub answered : (image ws : List ℕ) (limit : ℕ) → Answered
answered image ws limit = read_then ws limit (read_image (heap_words ws) image)

-- the verdict on an image over a heap of so many words: its reading fault, or that of its content
abbrev pub announced_of : (words : ℕ) → reading.Parsed Content → Verdict
announced_of words (reading.got c next) = judged (setting_of words c) (heap_of words c.cells) c.expr
announced_of words (reading.refused f p) = bad f p

unfoldable pub announced : (words : ℕ) (image : List ℕ) → Verdict
announced words image = announced_of words (read_image words image)
