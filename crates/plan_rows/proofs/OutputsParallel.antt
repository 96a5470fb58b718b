-- What worked plans of parallel jobs print: own parts, a waiver, a stream.
use Rattle.std.proofs.Common.{◌≡◌, refl, ap, ◌∙◌, codes, pos, true, [], ◌∷◌, map, replicate}
use Rattle.std.specs.Fmt.{digits}
use Rattle.frame_ast.specs.Kernels.{fresh}
use Rattle.frame_ast.specs.JobRuns.{full_steps}
use Rattle.frame_ast.specs.Texts.{traps_text}
use Rattle.job_base.specs.Cells.{with_cell, write_cells}
use Rattle.merge_laws.specs.Graph.{Cells}
use Rattle.frame_core.specs.declared.piece.Piece.TheVariants.{OfScript, OfJob}
use Rattle.frame_core.specs.Pieces.{script_order, place_of}
use Rattle.frame_core.specs.Operations.{op_cells, op_answer}
use Rattle.frame_core.specs.Reading.{contents_in}
use Rattle.frame_core.specs.Effects.{part_run, piece_cells}
use Rattle.frame_core.specs.Graphs.{graph_of, before_piece, cells_after}
use Rattle.frame_core.specs.Output.{op_line, plan_lines, plan_traps, plan_refused, plan_output}
use Rattle.ast_rows.proofs.Trees.{Place}
use Rattle.ast_rows.proofs.Kernels.{shift, emit}
use Rattle.plan_rows.proofs.Runs.{computed, run_at}
use Rattle.plan_rows.proofs.Plans.{array, stream, restricted, waived, emitted}

module _ (at : Place) where
  -- OWN PARTS: each index but one traps, and the others are run all the same

  restricted_0 : part_run (restricted at) 0 0 ≡ (λ cells. computed at shift (array 0 4 1 ∷ []) 3 0 cells)
  unfolding part_run
  restricted_0 = run_at at shift (array 0 4 1 ∷ []) 3 0

  output_restricted : plan_output (restricted at) ≡ codes "b = [1, 0, 0, 0]\ntrap job 1 index 0: own-index\ntraps 3\n"
  unfolding plan_lines plan_traps op_line op_answer op_cells contents_in before_piece graph_of script_order place_of piece_cells digits fresh full_steps
  output_restricted = rw restricted_0 refl

  -- the own word: three traps, the first at index 0, and it is OwnIndex, 4 * 2 ^ 48 + 3
  notes_restricted : map (cells_after (restricted at)) (4 ∷ []) ≡ pos 1125899906842627 ∷ []
  unfolding cells_after op_cells graph_of script_order piece_cells fresh full_steps
  notes_restricted = rw restricted_0 refl

  -- A WAIVER: one piece runs the indexes in order

  waived_0 : part_run (waived at) 0 0 ≡ (λ cells. computed at shift (array 0 4 0 ∷ []) 3 0 cells)
  unfolding part_run
  waived_0 = run_at at shift (array 0 4 0 ∷ []) 3 0

  output_waived : plan_output (waived at) ≡ codes "b = [1, 2, 3, 4]\n"
  unfolding plan_lines plan_traps op_line op_answer op_cells contents_in before_piece graph_of script_order place_of piece_cells digits fresh full_steps
  output_waived = rw waived_0 refl

  -- A STREAM

  emitted_0 : part_run (emitted at) 0 0 ≡ (λ cells. computed at emit (stream 0 4 2 true ∷ []) 1 0 cells)
  unfolding part_run
  emitted_0 = run_at at emit (stream 0 4 2 true ∷ []) 1 0

  emitted_1 : part_run (emitted at) 0 1 ≡ (λ cells. computed at emit (stream 0 4 2 true ∷ []) 1 1 cells)
  unfolding part_run
  emitted_1 = run_at at emit (stream 0 4 2 true ∷ []) 1 1

  emitted_2 : part_run (emitted at) 0 2 ≡ (λ cells. computed at emit (stream 0 4 2 true ∷ []) 1 2 cells)
  unfolding part_run
  emitted_2 = run_at at emit (stream 0 4 2 true ∷ []) 1 2

  emitted_3 : part_run (emitted at) 0 3 ≡ (λ cells. computed at emit (stream 0 4 2 true ∷ []) 1 3 cells)
  unfolding part_run
  emitted_3 = run_at at emit (stream 0 4 2 true ∷ []) 1 3

  -- the cells before each piece, word by word as they are written
  abbrev before_0 : Cells
  before_0 = write_cells (λ w. pos 0) 0 (replicate 12 (pos 0))

  abbrev before_1 : Cells
  before_1 = with_cell before_0 0 (pos 1)

  abbrev before_2 : Cells
  before_2 = with_cell (with_cell (with_cell before_1 3 (pos 1)) 4 (pos 1)) 3 (pos 2)

  abbrev before_3 : Cells
  before_3 = with_cell (with_cell (with_cell (with_cell (with_cell before_2 6 (pos 1)) 7 (pos 2)) 6 (pos 2)) 8 (pos 2)) 6 (pos 3)

  -- the third item of index 3 finds no room: one trap, at index 3, and it is Full, 5 * 2 ^ 48 + 3 * 2 ^ 24 + 1
  abbrev stored_3 : Cells
  stored_3 = with_cell (with_cell (with_cell (with_cell (with_cell before_3 9 (pos 1)) 10 (pos 3)) 9 (pos 2)) 11 (pos 3)) 9 (pos 3)

  abbrev all_after : Cells
  all_after = with_cell stored_3 15 (pos 1407374933884929)

  after_0 : ◌≡◌ {A = Cells} (piece_cells (emitted at) (OfJob 0 0) before_0) before_1
  unfolding piece_cells fresh full_steps
  after_0 = rw emitted_0 refl

  after_1 : ◌≡◌ {A = Cells} (piece_cells (emitted at) (OfJob 0 1) before_1) before_2
  unfolding piece_cells fresh full_steps
  after_1 = rw emitted_1 refl

  after_2 : ◌≡◌ {A = Cells} (piece_cells (emitted at) (OfJob 0 2) before_2) before_3
  unfolding piece_cells fresh full_steps
  after_2 = rw emitted_2 refl

  after_3 : ◌≡◌ {A = Cells} (piece_cells (emitted at) (OfJob 0 3) before_3) all_after
  unfolding piece_cells fresh full_steps
  after_3 = rw emitted_3 refl

  is_0 : ◌≡◌ {A = Cells} (before_piece (emitted at) (OfJob 0 0)) before_0
  unfolding before_piece graph_of script_order place_of piece_cells op_cells
  is_0 = refl

  is_1 : ◌≡◌ {A = Cells} (before_piece (emitted at) (OfJob 0 1)) before_1
  unfolding before_piece graph_of script_order place_of
  is_1 = ap (piece_cells (emitted at) (OfJob 0 0)) is_0 ∙ after_0

  is_2 : ◌≡◌ {A = Cells} (before_piece (emitted at) (OfJob 0 2)) before_2
  unfolding before_piece graph_of script_order place_of
  is_2 = ap (piece_cells (emitted at) (OfJob 0 1)) is_1 ∙ after_1

  is_3 : ◌≡◌ {A = Cells} (before_piece (emitted at) (OfJob 0 3)) before_3
  unfolding before_piece graph_of script_order place_of
  is_3 = ap (piece_cells (emitted at) (OfJob 0 2)) is_2 ∙ after_2

  is_4 : ◌≡◌ {A = Cells} (before_piece (emitted at) (OfScript 1)) all_after
  unfolding before_piece graph_of script_order place_of
  is_4 = ap (piece_cells (emitted at) (OfJob 0 3)) is_3 ∙ after_3

  lines_emitted : plan_lines (emitted at) ≡ codes "s = [[], [1], [2, 2], [3, 3]]\n"
  unfolding plan_lines op_line op_answer op_cells contents_in digits
  lines_emitted = rw is_4 refl

  traps_emitted : traps_text (plan_traps (emitted at)) ≡ codes "trap job 1 index 3: full\ntraps 1\n"
  unfolding plan_traps digits fresh full_steps
  traps_emitted = rw (is_0, is_1, is_2, is_3, emitted_0, emitted_1, emitted_2, emitted_3) refl

  refused_emitted : plan_refused (emitted at) ≡ 0
  unfolding plan_refused op_answer op_cells before_piece graph_of script_order place_of piece_cells
  refused_emitted = refl
