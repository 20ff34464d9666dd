-- `codlinbell::answer::answer_in` answers as the definition does: a refusal of loading is the image's, and a content that was loaded stands in the
-- fronts of the tables, which are judged and run.
use Rattle.std.proofs.lemmas.Result.{err_from_is_err_and}
use mathlib.Core.Path.{sym}
use native.Mathlib.Omega.{arith}
use lib.Seq.{length-take-le}
use Rattle.codlinbell.proofs.Composed.{LoadedAs, loaded_told, unread_told, read_told}
use Rattle.codlinbell.proofs.answer.answer_in.Goals as goal
use Rattle.codlinbell.proofs.answer.answer_in.Goals.{In_ok-sizes}

-- What loading left, where the image reads without fault.
told : (c : In_ok-sizes)
    → LoadedAs c.heap_words-words.result c.args.image.now c.in_ok-sizes.sizes c.load.new.structs c.load.new.types c.load.new.cells c.load.new.nodes
told c =
    let k = c.load.auto in
    loaded_told c.requires c.load.ensures c.in_ok-sizes.was k.structs k.types k.cells k.nodes

pub fronts-script-requires-clause-structs_room : goal.fronts-script-requires-clause-structs_room
fronts-script-requires-clause-structs_room c = (told (goal.at.fronts-script-requires-clause-structs_room c).In_ok-sizes).structs_room

pub fronts-script-requires-clause-types_room : goal.fronts-script-requires-clause-types_room
fronts-script-requires-clause-types_room c = (told (goal.at.fronts-script-requires-clause-types_room c).In_ok-sizes).types_room

pub fronts-script-requires-clause-cells_room : goal.fronts-script-requires-clause-cells_room
fronts-script-requires-clause-cells_room c = (told (goal.at.fronts-script-requires-clause-cells_room c).In_ok-sizes).cells_room

pub fronts-script-requires-clause-nodes_room : goal.fronts-script-requires-clause-nodes_room
fronts-script-requires-clause-nodes_room c = (told (goal.at.fronts-script-requires-clause-nodes_room c).In_ok-sizes).nodes_room

pub slice_bounds-marks-end : goal.slice_bounds-marks-end
slice_bounds-marks-end c = omega (arith, (told (goal.at.slice_bounds-marks-end c).In_ok-sizes).few_cells, c.requires.marks_room)

pub slice_bounds-marks-end-2 : goal.slice_bounds-marks-end-2
slice_bounds-marks-end-2 c = sym (length-take-le _ _ (omega (arith, (told (goal.at.slice_bounds-marks-end-2 c).In_ok-sizes).few_cells, c.requires.marks_room)))

pub returns : goal.returns
returns c =
    let l = told (goal.at.returns c).In_ok-sizes in
    let r = c.requires in
    let f = c.fronts-script.ensures in
    read_told _ _ _ _ c.heap_words-words.ensures l.reads
    (c.judge_and_run.ensures _ l.content
    (record {
      next = l.next;
      words_are = c.heap_words-words.ensures;
      reads = l.reads;
      held = rw (f.structs, f.types, f.cells, f.nodes) l.held;
      marks_room = omega (arith, length-take-le c.in_ok-sizes.sizes.cells c.args.marks.now (omega (arith, l.few_cells, r.marks_room)), l.cells_count);
      queue_room = omega (arith, r.queue_room, l.cells_count, l.few_cells);
      bound_room = r.bound_room;
      frames_room = r.frames_room;
    }))

pub returns-in_err-sizes : goal.returns-in_err-sizes
returns-in_err-sizes c =
    let p = err_from_is_err_and c.from_residual.result c.from_residual.ensures.1 in
    rw (p.1, p.2) (unread_told c.requires _ _ c.heap_words-words.ensures c.load.ensures c.in_err-sizes.was)
