-- Events as they are kept, and what reading them gives.
use Rattle.std.proofs.Common.{◌≡◌, ℕ, ◌+◌, ◌-◌, ◌<◌, ◌≤◌, ◌^◌, List, [], ◌∷◌, length, take, drop, get_or, take_all, take-append-drop, sym, ◌∙◌, ap, arith}
use Rattle.std.proofs.lemmas.List.{length-map, take-map, drop-map, take_more}
use Rattle.std.proofs.Math.ListN.{get_or-map}
use Rattle.frame_parser.specs.declared.note.Note.{Note}
use Rattle.frame_parser.specs.Notes.{event_of, events_of}
use Rattle.kernel_raw.specs.declared.raw.RawNode.{RawNode}
use Rattle.kernel_raw.specs.declared.raw.RawKernel.{RawKernel}
use Rattle.kernel_raw.specs.declared.raw.TheConstants.{MOST_KEPT}
use Rattle.kernel_raw.specs.RawTexts.{raw_tokens}
use Rattle.kernel_raw.specs.Depths.{depths_of, kept_depths}
use Rattle.kernel_raw.specs.Edges.{AreKeptOf}
use Rattle.kernel_raw.specs.RawEvents.{IsKernel, SpellsRaw, IsWithin}
use Rattle.kernel_raw.specs.Reading.{run, step, nothing_read, is_parallel}
use Rattle.kernel_raw.specs.Keeping.{Kept}
use Rattle.kernel_raw.proofs.Reading.Readings.{run-append}
use Rattle.kernel_raw.proofs.Reading.Kernels.{HasAll, behind_name, few_nodes, run_keeps, has_all, spells_raw, within_raw}
use Rattle.kernel_raw.proofs.Reading.Keeping.{Keeps}
use Rattle.kernel_raw.proofs.Reading.KeepingSteps.{are_kept}

-- the notes behind the first two
abbrev pub parts_noted : List Note → List Note
parts_noted notes = take (length notes - 2) (drop 2 notes)

-- their events
noted_behind_name : (notes : List Note) → events_of (parts_noted notes) ≡ behind_name (events_of notes)
noted_behind_name notes =
    sym (take-map event_of (length notes - 2) (drop 2 notes))
    ∙ ap (take (length notes - 2)) (sym (drop-map event_of 2 notes))
    ∙ ap (λ n. take (n - 2) (drop 2 (events_of notes))) (sym (length-map notes event_of))

-- one note more
pub noted_next : (notes : List Note) (i : ℕ) (d : Note) → i < length notes →
    run nothing_read (take (i + 1) (events_of notes)) ≡ step (run nothing_read (take i (events_of notes))) (event_of (get_or notes i d))
noted_next notes i d within =
    let es = events_of notes in
    let same : i < length es = omega (arith, length-map notes event_of, within) in
    ap (run nothing_read) (take_more es i (event_of d) same)
    ∙ run-append nothing_read (take i es) (get_or es i (event_of d) ∷ [])
    ∙ ap (step (run nothing_read (take i es))) (get_or-map event_of notes i d)

-- there are never more nodes than can be counted
pub noted_few : (notes : List Note) (n : ℕ) (k : IsKernel (events_of notes) n) → n < 2 ^ 32 → (i : ℕ) →
    length (run nothing_read (take i (events_of (parts_noted notes)))).nodes < 2 ^ 32
noted_few notes n k few i =
    let es = events_of (parts_noted notes) in
    let s = run nothing_read (take i es) in
    let whole : run s (drop i es) ≡ run nothing_read (behind_name (events_of notes)) =
    sym (run-append nothing_read (take i es) (drop i es)) ∙ ap (run nothing_read) (take-append-drop i es ∙ noted_behind_name notes) in
    omega (arith, run_keeps s (drop i es), ap (λ t. length t.nodes) whole, few_nodes k few)

-- all notes have been read
pub noted_all : (notes : List Note) (n : ℕ) (k : IsKernel (events_of notes) n) (i : ℕ) → length (parts_noted notes) ≤ i →
    HasAll (events_of notes) n k (run nothing_read (take i (events_of (parts_noted notes))))
noted_all notes n k i past =
    let es = events_of (parts_noted notes) in
    has_all (events_of notes) n k (run nothing_read (take i es))
    (ap (run nothing_read) (take_all i es (omega (arith, length-map (parts_noted notes) event_of, past)) ∙ noted_behind_name notes))

-- what is kept of them when all have been read
pub noted_kept : (notes : List Note) (n : ℕ) (k : IsKernel (events_of notes) n) (kept : Kept) (i : ℕ) → n < 2 ^ 32 → length (parts_noted notes) ≤ i →
    Keeps kept (run nothing_read (take i (events_of (parts_noted notes)))) →
    AreKeptOf (run nothing_read (take i (events_of (parts_noted notes)))).nodes kept.shown.nodes kept.joined
noted_kept notes n k kept i few past keeps =
    are_kept kept (run nothing_read (take i (events_of (parts_noted notes)))) keeps (noted_all notes n k i past).closed (noted_few notes n k few i)

-- the events spell the raw kernel that is made of what is kept, and all its places are tokens
pub record IsMadeOf (notes : List Note) (raw : RawKernel) : Type 0 where
  pub spells : SpellsRaw (events_of notes) raw
  pub within : IsWithin raw

pub made_of : (notes : List Note) (n : ℕ) (k : IsKernel (events_of notes) n) (kept : Kept) (i : ℕ) (raw : RawKernel) (d : Note) → n < 2 ^ 32
    → length (parts_noted notes) ≤ i →
    Keeps kept (run nothing_read (take i (events_of (parts_noted notes)))) → n ≡ length (raw_tokens raw) →
    raw.parallel ≡ is_parallel (event_of (get_or notes 0 d)).action → raw.name ≡ (event_of (get_or notes 1 d)).place → raw.params.items ≡ kept.shown.params
    → raw.nodes.items ≡ kept.shown.nodes →
    ((all : List RawNode) → AreKeptOf all kept.shown.nodes kept.joined → raw.depths.items ≡ kept_depths (take MOST_KEPT (depths_of all))) → IsMadeOf notes raw
made_of notes n k kept i raw d few past keeps size parallel called params nodes depths =
    let events = events_of notes in
    let s = run nothing_read (take i (events_of (parts_noted notes))) in
    let all = noted_all notes n k i past in
    let same_name = called ∙ ap (λ e. e.place) (sym (get_or-map event_of notes 1 d)) in
    let same_kind = parallel ∙ ap (λ e. is_parallel e.action) (sym (get_or-map event_of notes 0 d)) in
    record {
      spells = spells_raw events n k s raw (event_of d) all same_kind same_name (params ∙ keeps.params) (nodes ∙ keeps.nodes)
          (depths s.nodes (noted_kept notes n k kept i few past keeps));
      within = within_raw events n k s raw (event_of d) all size same_name (params ∙ keeps.params) (nodes ∙ keeps.nodes);
    }
