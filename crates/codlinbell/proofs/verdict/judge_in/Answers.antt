-- `codlinbell::verdict::judge_in` gives the image's verdict: a refusal of loading is its own, and a content that was loaded is judged.
use Rattle.std.proofs.lemmas.Result.{err_from_is_err_and}
use mathlib.Core.Path.{refl, sym}
use native.Mathlib.Omega.{arith}
use lib.Seq.{length-take-le}
use Rattle.codlinbell.proofs.Composed.{LoadedAs, loaded_told, unread_verdict, judged_read}
use Rattle.codlinbell.proofs.verdict.judge_in.Goals as goal
use Rattle.codlinbell.proofs.verdict.judge_in.Goals.{In_ok-sizes}

-- What loading left, where the image reads without fault.
told : (c : In_ok-sizes)
    → LoadedAs c.args.words c.args.image.now c.in_ok-sizes.sizes c.load.new.structs c.load.new.types c.load.new.cells c.load.new.nodes
told c =
    let k = c.load.auto in
    loaded_told c.requires c.load.ensures c.in_ok-sizes.was k.structs k.types k.cells k.nodes

pub fronts-script-requires-clause-structs_room : goal.fronts-script-requires-clause-structs_room
fronts-script-requires-clause-structs_room c = (told (goal.at.fronts-script-requires-clause-structs_room c).In_ok-sizes).structs_room

pub fronts-script-requires-clause-types_room : goal.fronts-script-requires-clause-types_room
fronts-script-requires-clause-types_room c = (told (goal.at.fronts-script-requires-clause-types_room c).In_ok-sizes).types_room

pub fronts-script-requires-clause-cells_room : goal.fronts-script-requires-clause-cells_room
fronts-script-requires-clause-cells_room c = (told (goal.at.fronts-script-requires-clause-cells_room c).In_ok-sizes).cells_room

pub fronts-script-requires-clause-nodes_room : goal.fronts-script-requires-clause-nodes_room
fronts-script-requires-clause-nodes_room c = (told (goal.at.fronts-script-requires-clause-nodes_room c).In_ok-sizes).nodes_room

pub returns : goal.returns
returns c =
    let r = c.requires in
    let f = c.fronts-script.ensures in
    judged_read (told (goal.at.returns c).In_ok-sizes) r.marks_room r.queue_room (omega (arith, r.bound_room))
    (rw (f.structs, f.types, f.cells, f.nodes) at c.judge_script.ensures)

pub returns-in_err-sizes : goal.returns-in_err-sizes
returns-in_err-sizes c =
    let p = err_from_is_err_and c.from_residual.result c.from_residual.ensures.1 in
    rw (p.1, p.2) (unread_verdict c.requires _ refl c.load.ensures c.in_err-sizes.was)
