-- `input::read_full`: what each read gave stands behind what was read before, and a read that fails takes nothing from that.
use Rattle.std.proofs.Common.{ℕ, ◌<◌, List, length, take, Option, Result, Ok, Err, OnErr, sym, subst, rules, le_refl}
use Rattle.std.specs.Io.KnownBytes.{Consumes}
use Rattle.std.proofs.KnownBytes.{Consumes-kept, Consumes-trans}
use Rattle.std.proofs.lemmas.Slice.{take-put_mid_below}
use Rattle.input.proofs.Reading.{read_in_front}
use Rattle.input.proofs.read_full.Goals as goal

-- what an error says of the n bytes in front
failed : {E : Type 0} (r : Result ℕ E) (old new : Option (List ℕ)) (bs : List ℕ) (n : ℕ) → n < length bs → Consumes old new (take n bs)
    → OnErr r ((m : ℕ) × (m < length bs) × Consumes old new (take m bs))
failed (Ok x) old new bs n room taken = tt
failed (Err e) old new bs n room taken = (n, room, taken)

pub returns-in_err-read-clause-err : goal.returns-in_err-read-clause-err
returns-in_err-read-clause-err g c =
    let before = c.loop-done.invariant in
    let kept = Consumes-kept _ _ _ _ before.taken c.in_err-read.ensures.bytes in
    failed _ _ _ _ _ (search rules) (subst (Consumes _ _) (sym (take-put_mid_below _ _ _ _ _ (le_refl _) before.within)) kept)

pub loop-done-preserved : goal.loop-done-preserved
loop-done-preserved g c =
    let before = c.loop-done.invariant in
    let read = c.in_ok-read.ensures in
    let both = Consumes-trans _ _ _ _ _ before.taken read.bytes.0 in
    record {
      same = search rules;
      within = search rules;
      taken = subst (Consumes _ _) (read_in_front _ _ _ _ _ _ (search rules) before.within read.bound.0) both;
    }
