-- The whole script: the literals are judged first, over the cell table, and then the nodes.
use Rattle.std.specs.Prelude.{ℕ, ◌/◌, ◌≡◌, false, List, Result, Ok, Err, length}
use Rattle.cells.specs.Code.{unpacked}
use Rattle.cells.specs.declared.Kind.{Kind}
use Rattle.cells.specs.declared.Mode.TheVariants.{Checked}
use Rattle.calculus.specs.declared.Refusal.{Refusal}
use Rattle.calculus.specs.Judge.{Verdict, good, bad, judged}
use Rattle.image.specs.Content.{Content, setting_of, heap_of}
use Rattle.image.specs.Tabled.{Held}
use Rattle.judge.specs.Premises.{Readied}
use Rattle.judge.specs.Literals.{Found, first_bad}
use Rattle.judge.specs.Nodes.{Judging, judge_node}

-- the verdict, and the lent lists
pub record Scripted : Type 0 where
  pub verdict : Result Kind Refusal
  pub marks : List ℕ
  pub queue : List ℕ
  pub bound : List ℕ

abbrev pub scripted : Result Kind Refusal → List ℕ → List ℕ → List ℕ → Scripted
scripted verdict marks queue bound = record { verdict = verdict; marks = marks; queue = queue; bound = bound }

-- a type by its code as a type
abbrev pub as_judged : Result ℕ Refusal → Result Kind Refusal
as_judged (Ok code) = Ok (unpacked code)
as_judged (Err refusal) = Err refusal

-- the definition's verdict that an answer says
abbrev pub as_verdict : Result Kind Refusal → Verdict
as_verdict (Ok κ) = good κ
as_verdict (Err refusal) = bad refusal.fault refusal.place

module _ (structs types nodes : List ℕ) where
  -- the nodes, once the first bad literal is known
  abbrev pub judged_nodes : Found → List ℕ → Scripted
  judged_nodes f bound =
      let j : Judging = judge_node structs types nodes f.first (length nodes / 4) false 0 Checked 0 bound in
      scripted (as_judged j.told) f.marks f.queue j.bound

abbrev pub judged_script : (structs types cells nodes marks queue bound : List ℕ) → Scripted
judged_script structs types cells nodes marks queue bound =
    judged_nodes structs types nodes (first_bad structs types cells nodes marks queue) bound

-- What the judge of scripts ensures. Its answer and the lent lists are those of the model, whatever the tables hold; and where they hold
-- an image's content as its reader leaves it, and the lent lists have room, the answer is the definition's verdict.
pub record ScriptJudged (structs types cells nodes marks queue bound : List ℕ) (r : Result Kind Refusal) (marks' queue' bound' : List ℕ) : Type 0 where
  pub model : scripted r marks' queue' bound' ≡ judged_script structs types cells nodes marks queue bound
  pub definition : (words : ℕ) (c : Content) → Held c structs types cells nodes → Readied words c marks queue bound
      → as_verdict r ≡ judged (setting_of words c) (heap_of words c.cells) c.expr
