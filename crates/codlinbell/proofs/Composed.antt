-- How the contracts of loading, judging, placing and running join: each law is what one function of the library needs, over plain lists.
use Rattle.std.specs.Prelude.{Result, Ok, Err}
use Prim.Native.Nat.{ℕ, ◌*◌, ◌/◌, ◌≤◌, min}
use mathlib.Core.Path.{◌≡◌, refl, sym, ap, subst, ◌∙◌}
use mathlib.Core.List.{List}
use native.Mathlib.Omega.{arith}
use lib.ListN.{length, take}
use Rattle.cells.specs.Lent.{lent, heap_words, cleared}
use Rattle.cells.specs.declared.Kind.{Kind}
use Rattle.calculus.specs.Judge.{Verdict, bad, judged}
use Rattle.calculus.specs.declared.Refusal.{Refusal}
use Rattle.calculus.specs.declared.Outcome.{Outcome}
use Rattle.calculus.proofs.Apart.{differ}
use Rattle.image.specs.Content.{Content, setting_of, heap_of}
use Rattle.image.specs.Parsing.{Parsed, got, refused}
use Rattle.image.specs.Image.{read_image}
use Rattle.image.specs.Tabled.{Held}
use Rattle.image.specs.Loaded as loaded
use Rattle.image.specs.declared.Sizes.{Sizes}
use Rattle.image.proofs.Gives.{given_by}
use Rattle.image.proofs.LoadLaws.{ContentRead, content_gives, load_result, load_held, held_all}
use Rattle.judge.specs.Script.{ScriptJudged, as_verdict}
use Rattle.machine.specs.Entry.{Stepped}
use Rattle.codlinbell.specs.Answered.{Answered, answering, answered, ran, judged_then, read_then, content_verdict, content_run, announced, announced_of}
use Rattle.codlinbell.specs.Placing.{cells_stored}
use Rattle.codlinbell.specs.Prepared.{whole_heap, LongTables, Prepared}
use Rattle.codlinbell.proofs.Heaps.{cells_made}
use Rattle.codlinbell.proofs.Prepared.{rising, readied, ready}

module _ {image ws : List ℕ} {words : ℕ} {c : Content} {structs types cells table marks queue bound frames : List ℕ}
    (p : Prepared image ws words c structs types cells table marks queue bound frames) where
  content_read : ContentRead words image c p.next
  content_read = given_by (content_gives words image) p.reads

  -- The judge's answer is the definition's verdict.
  pub verdict_told : {j : Result Kind Refusal} {marks' queue' bound' : List ℕ} → ScriptJudged structs types cells table marks queue bound j marks' queue' bound'
      → content_verdict ws c ≡ as_verdict j
  verdict_told a =
      rw (← p.words_are)
      (sym (a.definition words c p.held (readied content_read marks queue bound p.marks_room p.queue_room (omega (arith, p.bound_room)))))

  -- Clearing, placing and running is the definition's run.
  pub run_told : (limit : ℕ) {ws₁ ws₂ ws₃ frames' bound' : List ℕ} {o : Outcome} → ws₁ ≡ cleared ws words → ws₂ ≡ cells_stored cells ws₁
      → Stepped table structs types (whole_heap words limit) ws₂ frames bound o ws₃ frames' bound' → answering (Ok o) ws₃ ≡ ran ws (content_run ws limit c)
  run_told limit {ws₁} {ws₂} {ws₃} {o = o} e₁ e₂ s =
      let few : words ≤ 4096 = omega (arith, p.words_are) in
      let room : 2 * words ≤ length ws = omega (arith, p.words_are) in
      let placed : ws₂ ≡ lent (heap_of words c.cells) ws =
      e₂ ∙ rw (e₁, p.held.cells_held) (cells_made ws words c.cells (rising content_read) room) in
      let d = s.definition (setting_of words c) (heap_of words c.cells) c.expr ws
      (ready content_read limit ws ws₂ frames bound structs types cells table p.held placed p.frames_room p.bound_room few room) in
      rw (← p.words_are) (rw (d.outcome, d.heap_held))

  -- Where only the list of bound kinds was written since, the tables still hold the content.
  pub bound_written : {bound' : List ℕ} → length bound' ≡ length bound → Prepared image ws words c structs types cells table marks queue bound' frames
  bound_written e =
      record {
        next = p.next;
        words_are = p.words_are;
        reads = p.reads;
        held = p.held;
        marks_room = p.marks_room;
        queue_room = p.queue_room;
        bound_room = omega (arith, p.bound_room);
        frames_room = p.frames_room;
      }

  -- An accepted content is answered by its run, another by its refusal.
  pub accepted_told : (limit : ℕ) {j : Result Kind Refusal} {κ : Kind} {marks' queue' bound' : List ℕ} {a : Answered}
      → ScriptJudged structs types cells table marks queue bound j marks' queue' bound' → j ≡ Ok κ → a ≡ ran ws (content_run ws limit c)
      → a ≡ judged_then ws (content_verdict ws c) (λ _. content_run ws limit c)
  accepted_told limit a e q = q ∙ sym (ap (λ (v : Verdict). judged_then ws v (λ _. content_run ws limit c)) (verdict_told a ∙ ap as_verdict e))

  pub refused_told : (limit : ℕ) {j : Result Kind Refusal} {q : Refusal} {marks' queue' bound' : List ℕ}
      → ScriptJudged structs types cells table marks queue bound j marks' queue' bound' → j ≡ Err q
      → answering (Err q) ws ≡ judged_then ws (content_verdict ws c) (λ _. content_run ws limit c)
  refused_told limit a e = sym (ap (λ (v : Verdict). judged_then ws v (λ _. content_run ws limit c)) (verdict_told a ∙ ap as_verdict e))

-- What loading an image without fault leaves: its content, in the fronts of the tables, each of which is long enough.
pub record LoadedAs (words : ℕ) (image : List ℕ) (n : Sizes) (structs types cells table : List ℕ) : Type 0 where
  pub content : Content
  pub next : ℕ
  pub reads : read_image words image ≡ got content next
  pub cells_count : n.cells ≡ length content.cells
  pub few_cells : n.cells ≤ min (length image / 3) 4096
  pub structs_few : n.structs ≤ 32
  pub cells_few : n.cells ≤ 4096
  pub nodes_few : n.nodes ≤ 2048
  pub structs_room : 17 * n.structs ≤ length structs
  pub types_room : n.types ≤ length types
  pub cells_room : 3 * n.cells ≤ length cells
  pub nodes_room : 4 * n.nodes ≤ length table
  pub held : Held content (take (17 * n.structs) structs) (take n.types types) (take (3 * n.cells) cells) (take (4 * n.nodes) table)

module _ {words : ℕ} {image structs types cells table marks queue bound frames : List ℕ}
    (room : LongTables image structs types cells table marks queue bound frames) {structs' types' cells' table' : List ℕ} where
  counted_as : {c : Content} {next : ℕ} {n : Sizes} → read_image words image ≡ got c next → n ≡ loaded.sizes_of c
      → loaded.loaded_tables (Ok n) structs' types' cells' table' ≡ loaded.load_into words image structs types cells table
      → length structs' ≡ length structs → length types' ≡ length types → length cells' ≡ length cells → length table' ≡ length table
      → LoadedAs words image n structs' types' cells' table'
  counted_as {c} {next} {n} e q l s t k m =
      let r : ContentRead words image c next = given_by (content_gives words image) e in
      let few = r.tables_good.few_structs in
      let kinds = r.tables_good.few_types in
      let h = load_held words image structs types cells table room.types_room e in
      let all = held_all h (omega (arith, room.structs_room)) (omega (arith, room.cells_room, r.bytes, r.few_cells))
      (omega (arith, room.nodes_room, r.bytes, r.few_nodes)) in
      subst (λ (n : Sizes). LoadedAs words image n structs' types' cells' table') (sym q)
      (record {
        content = c;
        next = next;
        reads = e;
        cells_count = refl;
        few_cells = omega (arith, r.bytes, r.few_cells);
        structs_few = few;
        cells_few = r.few_cells;
        nodes_few = r.few_nodes;
        structs_room = omega (arith, room.structs_room);
        types_room = omega (arith, room.types_room);
        cells_room = omega (arith, room.cells_room, r.bytes, r.few_cells);
        nodes_room = omega (arith, room.nodes_room, r.bytes, r.few_nodes);
        held =
            rw
            (ap (λ (F : loaded.LoadedTables). F.structs) l, ap (λ (F : loaded.LoadedTables). F.types) l, ap (λ (F : loaded.LoadedTables). F.cells) l, ap (λ (F : loaded.LoadedTables). F.nodes) l)
            all;
      })

  -- An answer that is `Loaded` leaves the content.
  pub loaded_told : {r : Result Sizes Refusal} {n : Sizes} → loaded.loaded_tables r structs' types' cells' table' ≡ loaded.load_into words image structs types cells table
      → r ≡ Ok n → length structs' ≡ length structs → length types' ≡ length types → length cells' ≡ length cells → length table' ≡ length table
      → LoadedAs words image n structs' types' cells' table'
  loaded_told {r} {n} l e s t k m = go (read_image words image) refl
    where
      result : (d : Parsed Content) → read_image words image ≡ d → Ok n ≡ loaded.loading d
      result d q =
          sym e ∙ ap (λ (F : loaded.LoadedTables). F.result) l ∙ load_result words image structs types cells table room.types_room ∙ ap loaded.loading q

      go : (d : Parsed Content) → read_image words image ≡ d → LoadedAs words image n structs' types' cells' table'
      go (got c next) q =
          let same : Ok n ≡ Ok (loaded.sizes_of c) = result (got c next) q in
          counted_as q (cc) (rw e at l) s t k m
      go (refused f i) q = let same : Ok n ≡ Err _ = result (refused f i) q in differ cc

  -- An answer that is a refusal is the image's verdict.
  pub unread_verdict : {r : Result Sizes Refusal} {q : Refusal} (n : ℕ) → words ≡ n → loaded.loaded_tables r structs' types' cells' table' ≡ loaded.load_into words image structs types cells table
      → r ≡ Err q → bad q.fault q.place ≡ announced n image
  unfolding announced
  unread_verdict {r} {q} n w l e = rw (← w) (go (read_image words image) refl)
    where
      result : (d : Parsed Content) → read_image words image ≡ d → Err q ≡ loaded.loading d
      result d h =
          sym e ∙ ap (λ (F : loaded.LoadedTables). F.result) l ∙ load_result words image structs types cells table room.types_room ∙ ap loaded.loading h

      go : (d : Parsed Content) → read_image words image ≡ d → bad q.fault q.place ≡ announced_of words (read_image words image)
      go (got c next) h = let same : Err q ≡ Ok _ = result (got c next) h in differ cc
      go (refused f i) h =
          let same : Err q ≡ Err (record { fault = f; place = i }) = result (refused f i) h in
          let p : q ≡ record { fault = f; place = i } = cc in
          rw (h, p)

  -- An answer that is a refusal is the image's answer.
  pub unread_told : {r : Result Sizes Refusal} {q : Refusal} (ws : List ℕ) (limit : ℕ) → words ≡ heap_words ws
      → loaded.loaded_tables r structs' types' cells' table' ≡ loaded.load_into words image structs types cells table → r ≡ Err q
      → answering (Err q) ws ≡ answered image ws limit
  unfolding answered
  unread_told {r} {q} ws limit w l e = rw (← w) (go (read_image words image) refl)
    where
      result : (d : Parsed Content) → read_image words image ≡ d → Err q ≡ loaded.loading d
      result d h =
          sym e ∙ ap (λ (F : loaded.LoadedTables). F.result) l ∙ load_result words image structs types cells table room.types_room ∙ ap loaded.loading h

      go : (d : Parsed Content) → read_image words image ≡ d → answering (Err q) ws ≡ read_then ws limit (read_image words image)
      go (got c next) h = let same : Err q ≡ Ok _ = result (got c next) h in differ cc
      go (refused f i) h =
          let same : Err q ≡ Err (record { fault = f; place = i }) = result (refused f i) h in
          let p : q ≡ record { fault = f; place = i } = cc in
          rw (h, p)

-- An image that reads without fault has the verdict of its content, another that of its reading.
pub verdict_read : (words : ℕ) (image : List ℕ) {c : Content} {next : ℕ} {v : Verdict} → read_image words image ≡ got c next
    → v ≡ judged (setting_of words c) (heap_of words c.cells) c.expr → v ≡ announced words image
unfolding announced
verdict_read words image e q = q ∙ sym (ap (announced_of words) e)

-- So the judge's answer over the tables that loading left is the image's verdict.
pub judged_read : {words : ℕ} {image : List ℕ} {n : Sizes} {structs types cells table marks queue bound marks' queue' bound' : List ℕ} {j : Result Kind Refusal}
    (l : LoadedAs words image n structs types cells table) → min (length image / 3) 4096 ≤ length marks → min (length image / 3) 4096 ≤ length queue
    → 64 ≤ length bound
    → ScriptJudged (take (17 * n.structs) structs) (take n.types types) (take (3 * n.cells) cells) (take (4 * n.nodes) table) marks queue bound j marks' queue' bound'
    → as_verdict j ≡ announced words image
judged_read {words} {image} {marks = marks} {queue = queue} {bound = bound} l m q b a =
    let few : length l.content.cells ≤ min (length image / 3) 4096 = rw (← l.cells_count) l.few_cells in
    verdict_read words image l.reads
    (a.definition words l.content l.held
    (readied (given_by (content_gives words image) l.reads) marks queue bound (omega arith) (omega arith) b))

-- An image that reads without fault is answered by the verdict on its content, and by its run.
pub read_told : (image ws : List ℕ) (words limit : ℕ) {c : Content} {next : ℕ} {a : Answered} → words ≡ heap_words ws
    → read_image words image ≡ got c next → a ≡ judged_then ws (content_verdict ws c) (λ _. content_run ws limit c) → a ≡ answered image ws limit
unfolding answered
read_told image ws words limit w e q = q ∙ sym (ap (read_then ws limit) (ap (λ (n : ℕ). read_image n image) (sym w) ∙ e))
